use Rattle.std.proofs.Common.{refl}
use Rattle.giop_types.specs.Coding.Written.{value_out}
use Rattle.giop_types.proofs.Coding.EncodeLemmas.{encoded_back}
use Rattle.giop_types.proofs.laws.values.written_values_are_read_back.Goals as goal

pub returns : goal.returns
returns c = λ shape full tree fit out. encoded_back shape tree out (value_out shape tree out) full fit refl
