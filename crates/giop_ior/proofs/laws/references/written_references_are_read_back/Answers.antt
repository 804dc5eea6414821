use Rattle.giop_cdr.proofs.LayoutLemmas.{back_of}
use Rattle.giop_ior.proofs.IorLemmas.{ior_is}
use Rattle.giop_ior.proofs.laws.references.written_references_are_read_back.Goals as goal

pub returns : goal.returns
returns c = back_of ior_is
