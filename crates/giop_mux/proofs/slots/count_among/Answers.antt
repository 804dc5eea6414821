use Rattle.std.proofs.Common.{sym, ◌∙◌}
use Rattle.giop_ids.proofs.SlotLemmas.{len_of}
use Rattle.giop_mux.proofs.slots.count_among.Goals as goal

pub returns-clause-value : goal.returns-clause-value
returns-clause-value g c = c.len.ensures.len ∙ sym (len_of (λ slot. slot) c.args.table.now.entries c.len.ensures.ordered c.requires)
