use Rattle.std.proofs.Common.{None, Some, sym, ap, ◌∙◌, option_copied}
use Rattle.giop_ids.proofs.SlotLemmas.{found_at}
use Rattle.giop_mux.proofs.slots.entry_among.Goals as goal

pub returns-in_err-get : goal.returns-in_err-get
returns-in_err-get g c =
    let none = found_at (λ slot. slot) c.args.table.now.entries c.args.id None (sym c.get.ensures.value ∙ ap option_copied c.in_err-get.was) in
    rw c.from_residual.ensures (sym none)

pub returns : goal.returns
returns g c =
    let some = found_at (λ slot. slot) c.args.table.now.entries c.args.id (Some c.in_ok-get.field-0.now)
    (sym c.get.ensures.value ∙ ap option_copied c.in_ok-get.was) in
    c.as_ref.ensures.value ∙ sym some
