use Rattle.std.proofs.Common.{refl}
use Rattle.giop_types.specs.Written.{value_out}
use Rattle.giop_types.proofs.EncodeLemmas.{encoded_back}
use Rattle.giop_types.proofs.laws.written_values_are_read_back.Goals as goal

pub returns : goal.returns
returns c = λ shape full tree fit out. encoded_back shape tree out (value_out shape tree out) full fit refl
