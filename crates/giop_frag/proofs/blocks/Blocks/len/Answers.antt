use Rattle.std.proofs.Common.{length, sym, ap, ◌∙◌}
use Rattle.giop_frag.proofs.ChunkLemmas.{length-in_order}
use Rattle.giop_frag.proofs.blocks.Blocks.len.Goals as goal

pub returns : goal.returns
returns c = sym (length-in_order _ _ c.self.invariant) ∙ ap length c.self.view_is
