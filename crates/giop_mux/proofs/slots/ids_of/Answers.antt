use Rattle.std.proofs.Common.{◌∙◌, sym, ap, List, ℕ}
use Rattle.std.specs.FinMap as finite
use Rattle.std.specs.List.{insert}
use Rattle.giop_ids.proofs.SlotLemmas.{keys_are}
use Rattle.giop_mux.specs.Slots.{entries_of, placed}
use Rattle.giop_mux.proofs.SlotLemmas.{keys-with, no_front}
use Rattle.giop_mux.proofs.slots.ids_of.Goals as goal

pub returns-then-is_none : goal.returns-then-is_none
returns-then-is_none g c =
    let slots = c.args.slots.now in
    let others = slots.others.entries in
    c.in_ok-ids.ensures.value
    ∙ sym (keys_are (λ slot. slot) others c.in_ok-ids.ensures.ordered c.requires.full)
    ∙ ap finite.keys (sym (no_front (entries_of others) slots.id slots.front c.if-is_none.ensures c.requires.apart))

pub returns : goal.returns
returns g c =
    let slots = c.args.slots.now in
    let others = slots.others.entries in
    let same = c.as_slice.ensures.value in
    c.in_ok-insert.ensures.items
    ∙ ap (λ (ids : List ℕ). insert ids c.place_of.result slots.id) (sym same)
    ∙ sym c.place_of.ensures.value
    ∙ ap (placed slots.id) (same ∙ c.in_ok-ids.ensures.value ∙ sym (keys_are (λ slot. slot) others c.in_ok-ids.ensures.ordered c.requires.full))
    ∙ sym (keys-with (entries_of others) slots.id slots.front c.if-is_none.ensures c.requires.apart)
