use Rattle.std.proofs.Common.{◌∙◌, sym}
use Rattle.giop_ids.proofs.Puts.{get-put_other}
use Rattle.giop_mux.specs.Slots.{entries_of}
use Rattle.giop_mux.proofs.SlotLemmas.{get_front}
use Rattle.giop_mux.proofs.slots.entry_in.Goals as goal

pub returns-then-slots-id : goal.returns-then-slots-id
returns-then-slots-id g c =
    let slots = c.args.slots.now in
    c.as_ref.ensures.value ∙ sym (get_front (entries_of slots.others.entries) slots.id c.args.id slots.front c.if-slots-id.true)

pub returns-else-slots-id : goal.returns-else-slots-id
returns-else-slots-id g c =
    let slots = c.args.slots.now in
    c.entry_among.ensures
    ∙ sym (get-put_other (entries_of slots.others.entries) slots.id slots.front c.args.id (λ same. c.if-slots-id.false (sym same)))
