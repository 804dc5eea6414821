use Rattle.std.proofs.Common.{◌≢◌, ◌∙◌, Some, ap, arith, sym}
use Rattle.std.specs.FinMap as map
use Rattle.giop_ids.specs.ById.{ById, put}
use Rattle.giop_ids.proofs.Puts.{len-put_within}
use Rattle.giop_mux.specs.Slots.{entries_of, held}
use Rattle.giop_mux.proofs.SlotLemmas.{no_front, stays_within}
use Rattle.giop_mux.proofs.slots.add_slot.Goals as goal

pub returns-then-is_some-clause-table : goal.returns-then-is_some-clause-table
returns-then-is_some-clause-table g c = record {
  whole = c.add_other.ensures.whole;
  within = stays_within c.add_other.result (held c.args.slots.now) (held c.add_other.new.slots) c.args.calls c.args.id c.args.entry c.add_other.ensures.ok
      c.add_other.ensures.kept c.requires.table.within (λ same. c.if-count_of-calls.false (c.count_of.ensures ∙ same));
}

pub returns-clause-table : goal.returns-clause-table
returns-clause-table g c =
    let slots = c.args.slots.now in
    let m = entries_of slots.others.entries in
    let alone = no_front m slots.id slots.front (sym c.if-is_some.ensures) c.requires.table.whole.apart in
    record {
      whole = record {
        full = c.requires.table.whole.full;
        apart = ap (λ (n : ById g.row.E.Denot). map.get n c.args.id) (sym alone) ∙ c.requires.absent;
      };
      within =
          let same = ap map.len alone in
          let more = len-put_within m c.args.id (Some c.args.entry) in
          let room : map.len (held slots) ≢ c.args.calls = λ full. c.if-count_of-calls.false (c.count_of.ensures ∙ full) in
          omega (arith, same, more, room, c.requires.table.within);
    }

pub returns-clause-ok : goal.returns-clause-ok
returns-clause-ok g c =
    let slots = c.args.slots.now in
    let alone = no_front (entries_of slots.others.entries) slots.id slots.front (sym c.if-is_some.ensures) c.requires.table.whole.apart in
    ap (λ (n : ById g.row.E.Denot). put n c.args.id (Some c.args.entry)) (sym alone)
