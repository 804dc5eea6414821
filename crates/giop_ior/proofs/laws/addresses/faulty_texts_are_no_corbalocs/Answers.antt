use Rattle.std.proofs.Common.{refl}
use Rattle.giop_ior.proofs.laws.addresses.faulty_texts_are_no_corbalocs.Goals as goal

pub returns : goal.returns
returns c = λ text e first. first.after text refl
