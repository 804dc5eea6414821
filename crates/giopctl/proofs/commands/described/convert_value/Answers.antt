use Rattle.std.proofs.Common.{inl}
use Rattle.giop_types.specs.Descriptions.CheckedShape.{checked_shape}
use Rattle.giopctl.proofs.ConvertLemmas.{by_description}
use Rattle.giopctl.proofs.commands.described.convert_value.Goals as goal

pub returns-in-Encode : goal.returns-in-Encode
returns-in-Encode g c = rw c.in-Encode.is (by_description c.convert_encode.result c.convert_encode.ensures (λ status done. inl (checked_shape c.in-Ok.desc, done)))

pub returns : goal.returns
returns g c = rw c.in-Decode.is (by_description c.convert_decode.result c.convert_decode.ensures (λ status done. inl (checked_shape c.in-Ok.desc, done)))
