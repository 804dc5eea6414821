use Rattle.giop_cdr.proofs.LayoutLemmas.{alone_of}
use Rattle.giop_ior.proofs.IorLemmas.{ior_is}
use Rattle.giop_ior.proofs.laws.references.references_are_spelled.Goals as goal

pub returns : goal.returns
returns c = record {
  exact = ior_is.exact;
  alone = alone_of ior_is;
  fits = ior_is.fitting;
}
