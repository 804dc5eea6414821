use Rattle.std.proofs.Common.{sym, ap, ◌∙◌, length}
use Rattle.giop_frag.proofs.LaidLemmas.{length-chained}
use Rattle.giop_frag.proofs.chain.ChainOctets.len.Goals as goal

pub returns : goal.returns
returns c = sym (ap length (sym c.self.view_is) ∙ length-chained _ _ _ c.self.invariant)
