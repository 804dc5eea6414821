use Rattle.std.proofs.Common.{◌∙◌, ap, ◌+◌}
use Rattle.giop_mux.specs.Slots.{entries_of}
use Rattle.giop_mux.proofs.SlotLemmas.{len_front, len_no_front}
use Rattle.giop_mux.proofs.slots.count_of.Goals as goal

pub returns-in-Some : goal.returns-in-Some
returns-in-Some g c =
    let slots = c.args.slots.now in
    ap (λ n. n + 1) c.count_among.ensures.value
    ∙ len_front (entries_of slots.others.entries) slots.id slots.front c.in-Some.field-0 c.requires.apart c.in-Some.is

pub returns-in-None : goal.returns-in-None
returns-in-None g c =
    let slots = c.args.slots.now in
    c.count_among-in-None.ensures.value ∙ len_no_front (entries_of slots.others.entries) slots.id slots.front c.requires.apart c.in-None.is
