use Rattle.std.proofs.Common.{None, Some, sym, ◌∙◌}
use Rattle.giop_ids.proofs.SlotLemmas.{found_at}
use Rattle.giop_mux.proofs.SlotLemmas.{one_put}
use Rattle.giop_mux.proofs.slots.take_among.Goals as goal

pub returns-in_err-remove-clause-value : goal.returns-in_err-remove-clause-value
returns-in_err-remove-clause-value g c =
    rw c.from_residual.ensures
    (sym (found_at (λ slot. slot) c.args.table.now.entries c.args.id None (sym c.remove.ensures.value ∙ c.in_err-remove.was)))

pub returns-in_err-remove-clause-ok : goal.returns-in_err-remove-clause-ok
returns-in_err-remove-clause-ok g c = one_put _ _ c.args.id None c.remove.ensures.updates.0

pub returns-clause-value : goal.returns-clause-value
returns-clause-value g c = sym (found_at (λ slot. slot) c.args.table.now.entries c.args.id (Some _) (sym c.remove.ensures.value ∙ c.in_ok-remove.was))

pub returns-clause-ok : goal.returns-clause-ok
returns-clause-ok g c = one_put _ _ c.args.id None c.remove.ensures.updates.0
