use Rattle.std.proofs.Common.{Some, sym, refl, ◌∙◌}
use Rattle.giop_ids.proofs.SlotLemmas.{len_of}
use Rattle.giop_frag.specs.Placed.{pieces_at}
use Rattle.giop_frag.proofs.lists.count_of.Goals as goal

pub returns : goal.returns
returns c =
    c.len.ensures.len
    ∙ sym (len_of (λ p. Some (pieces_at c.args.pool.now.blocks p)) c.args.table.now.entries c.len.ensures.ordered (λ id p found. refl))
