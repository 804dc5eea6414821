use Rattle.std.proofs.Common.{◌≡◌, ◌≢◌, None, Some, sym, ap, ◌∙◌, arith, refl, subst, Ok, IfOk, IfErr, IsSome, is_some, true, Option, nat_cmp}
use Rattle.std.specs.BTreeMap.{get_by}
use Rattle.std.proofs.lemmas.Grind.{common_steps}
use Rattle.std.specs.FinMap as map
use Rattle.std.specs.Option.{option_copied_mut}
use Rattle.giop_ids.specs.ById.{put}
use Rattle.giop_ids.specs.Runs.{RefusedAs, refusal_of}
use Rattle.giop_ids.specs.Slots.{Becomes}
use Rattle.giop_mux.specs.Calls.{judged, by_rule}
use Rattle.giop_mux.specs.declared.refusal.Refusal.TheVariants.{NoMemory}
use Rattle.giop_mux.specs.Slots.{entries_of, as_slot, held}
use Rattle.giop_mux.specs.declared.slots.Slots.{Slots}
use Rattle.giop_ids.proofs.SlotLemmas.{found_at}
use Rattle.giop_mux.proofs.SlotLemmas.{Becomes-written, Becomes-removed, in_front, is_other, len-put_held, not_held, one_behind, still_whole}
use Rattle.giop_mux.proofs.JudgedLemmas.{tells_answer, tells_refusal, judged_held, OnOk_of, from_fault, not_memory}
use Rattle.giop_ids.proofs.Puts.{get-put_other, put_same}
use Rattle.giop_mux.proofs.slots.step_call.Given.{Over}
use Rattle.giop_mux.proofs.slots.step_call.Goals as goal
use Rattle.giop_mux.proofs.slots.step_call.Goals.{then-is_none, else-is_none}

found : (g : Over) (c : goal.After-map_err g) → map.get (entries_of c.args.slots.now.others.entries) c.args.id ≡ c.in-Some.slot.now
found g c = found_at (λ slot. slot) _ c.args.id (Some c.in-Some.slot.now) (sym c.get_mut.ensures.value ∙ ap option_copied_mut c.in-Some.is)

-- the slot that was found has an entry, and isn't the one in front
has_entry : (g : Over) (c : goal.After-map_err g)
    → (e : g.row.R-Entry.Denot) × (map.get (entries_of c.args.slots.now.others.entries) c.args.id ≡ Some e)
has_entry g c = from_full c.in-Some.slot.now (found g c)
    (c.requires.whole.full c.args.id c.in-Some.slot.now (sym c.get_mut.ensures.value ∙ ap option_copied_mut c.in-Some.is))
  where
    from_full : {E : Type 0} {got : Option E} (slot : Option E) → got ≡ slot → is_some slot ≡ true → (e : E) × (got ≡ Some e)
    from_full (Some e) is full = (e, is)
    from_full None is full = absurd cc

behind : (g : Over) (c : goal.After-map_err g) → c.args.id ≢ c.args.slots.now.id
behind g c = is_other _ _ _ _ c.requires.whole.apart (has_entry g c).1

-- so the table has what the slot has
there : (g : Over) (c : goal.After-map_err g) → map.get (held c.args.slots.now) c.args.id ≡ map.get (entries_of c.args.slots.now.others.entries) c.args.id
there g c = get-put_other _ _ _ _ (behind g c)

held_entry : (g : Over) (c : goal.After-map_err g) → (e : g.row.R-Entry.Denot) × (map.get (held c.args.slots.now) c.args.id ≡ Some e)
held_entry g c = ((has_entry g c).0, there g c ∙ (has_entry g c).1)

found_held : (g : Over) (c : goal.After-map_err g) → map.get (held c.args.slots.now) c.args.id ≡ c.in-Some.slot.now
found_held g c = there g c ∙ found g c

-- what the slot holds after the step stands in its place
becomes : (g : Over) (c : goal.After-map_err g) → (c.if-is_none.slots.id ≡ c.args.slots.now.id) × (c.if-is_none.slots.front ≡ c.args.slots.now.front)
    × Becomes c.args.slots.now.others.entries c.if-is_none.slots.others.entries c.args.id (as_slot c.step_in-outcome.new.entry)
becomes g c =
    let is_there : IsSome (get_by (nat_cmp c.args.id) c.args.slots.now.others) =
    rw (sym c.get_mut.ensures.value ∙ ap option_copied_mut c.in-Some.is) refl in
    let written = (c.get_mut.follows.holds c.step_in-outcome.new.entry).3 is_there in
    elim c.if-is_none.branch [
      | then-is_none w ↦ (
        ap (λ (s : Slots g.row.R-Entry.Denot). s.id) w.slots-is,
        ap (λ (s : Slots g.row.R-Entry.Denot). s.front) w.slots-is,
        subst
            (λ (s : Slots g.row.R-Entry.Denot). Becomes c.args.slots.now.others.entries s.others.entries c.args.id (as_slot c.step_in-outcome.new.entry))
            (sym w.slots-is) (Becomes-removed _ _ _ _ _ w.if-is_none.ensures written.0 w.drop_slot.ensures.0),
      )
      | else-is_none w ↦ (
        ap (λ (s : Slots g.row.R-Entry.Denot). s.id) w.slots-is,
        ap (λ (s : Slots g.row.R-Entry.Denot). s.front) w.slots-is,
        subst
            (λ (s : Slots g.row.R-Entry.Denot). Becomes c.args.slots.now.others.entries s.others.entries c.args.id (as_slot c.step_in-outcome.new.entry))
            (sym w.slots-is) (Becomes-written _ _ _ _ w.if-is_none.ensures written.0),
      )
    ]

-- the step is that of the entry under the id
stepped : (g : Over) (c : goal.After-map_err g) → c.step_in-outcome.new.entry
    ≡ (g.R.CallRule.next c.args.rule.now (map.get (held c.args.slots.now) c.args.id) c.args.event).entry
stepped g c = c.step_in-outcome.ensures.entry
    ∙ ap (λ o. (g.R.CallRule.next c.args.rule.now o c.args.event).entry) (sym (found_held g c))

-- what is put is what the step gives
puts : (g : Over) (c : goal.After-map_err g) → held c.if-is_none.slots
    ≡ put (held c.args.slots.now) c.args.id
    (g.R.CallRule.next c.args.rule.now (map.get (held c.args.slots.now) c.args.id) c.args.event).entry
puts g c =
    let is = becomes g c in
    one_behind c.args.slots.now c.if-is_none.slots _ _ is.0 is.1 is.2 (behind g c) ∙ ap (put (held c.args.slots.now) c.args.id) (stepped g c)

-- the result is the rule's
is_the_rules : (g : Over) (c : goal.After-map_err g) → c.map_err.result ≡ by_rule c.step_in-outcome.result
is_the_rules g c = grind (arith, common_steps)

judges : (g : Over) (c : goal.After-map_err g) → c.map_err.result
    ≡ judged (held c.args.slots.now) c.args.calls c.args.id
    (g.R.CallRule.next c.args.rule.now (map.get (held c.args.slots.now) c.args.id) c.args.event)
judges g c =
    let is : c.map_err.result ≡ by_rule c.step_in-outcome.result = is_the_rules g c in
    is ∙ ap (by_rule) (c.step_in-outcome.ensures.outcome
    ∙ ap (λ o. (g.R.CallRule.next c.args.rule.now o c.args.event).outcome) (sym (found_held g c)))
    ∙ sym (judged_held _ _ _ _ _ (held_entry g c).1)

pub returns-after-is_none-clause-ok : goal.returns-after-is_none-clause-ok
returns-after-is_none-clause-ok g c = OnOk_of c.map_err.result (puts g c)

pub returns-after-is_none-clause-value : goal.returns-after-is_none-clause-value
returns-after-is_none-clause-value g c = tells_answer _ _ (judges g c)

pub returns-after-is_none-clause-err : goal.returns-after-is_none-clause-err
returns-after-is_none-clause-err g c = tells_refusal _ _ (judges g c)

pub returns-after-is_none-clause-kept : goal.returns-after-is_none-clause-kept
returns-after-is_none-clause-kept g c =
    from_fault c.map_err.result _ (judges g c ∙ judged_held _ _ _ _ _ (held_entry g c).1) (λ fault.
    puts g c
    ∙ ap (put (held c.args.slots.now) c.args.id) (g.met.R.CallRule.fault_keeps c.args.rule.now _ c.args.event fault)
    ∙ put_same (held c.args.slots.now) c.args.id _ refl)

pub returns-after-is_none-clause-table : goal.returns-after-is_none-clause-table
returns-after-is_none-clause-table g c =
    let is = becomes g c in
    let m = held c.args.slots.now in
    let fewer = len-put_held m c.args.id (g.R.CallRule.next c.args.rule.now (map.get m c.args.id) c.args.event).entry _ (held_entry g c).1 in
    record {
      whole = still_whole c.args.slots.now c.if-is_none.slots _ _ is.0 is.2 (behind g c) c.requires.whole;
      within = let same = ap map.len (puts g c) in omega (arith, same, fewer, c.requires.within);
    }

-- no slot shows an entry of the id
absent : (g : Over) (c : goal.After-start g) → map.get (held c.args.slots.now) c.args.id ≡ None
absent g c = not_held _ _ _ _ (sym c.is_front.ensures ∙ c.if-is_front.false)
    (found_at (λ slot. slot) _ c.args.id None (sym c.get_mut.ensures.value ∙ ap option_copied_mut c.in-None.is))

pub start-requires-clause-absent : goal.start-requires-clause-absent
start-requires-clause-absent g c =
    rw c.get_mut.follows.holds-at-none (not_held _ _ _ _ (sym c.is_front.ensures ∙ c.if-is_front.false)
    (found_at (λ slot. slot) _ c.args.id None (sym c.get_mut.ensures.value ∙ ap option_copied_mut c.in-None.is)))

pub returns-in-None-clause-kept : goal.returns-in-None-clause-kept
returns-in-None-clause-kept g c = rw c.get_mut.follows.holds-at-none at c.start.ensures.kept

pub returns-in-None-clause-ok : goal.returns-in-None-clause-ok
returns-in-None-clause-ok g c =
    let none = absent g c in
    rw none (rw c.get_mut.follows.holds-at-none at c.start.ensures.ok)

pub returns-in-None-clause-value : goal.returns-in-None-clause-value
returns-in-None-clause-value g c =
    let none = absent g c in
    let m = held c.args.slots.now in
    subst (λ (entry : Option g.row.R-Entry.Denot). IfOk c.start.result (λ answer.
    judged m c.args.calls c.args.id (g.R.CallRule.next c.args.rule.now entry c.args.event) ≡ Ok answer))
    (sym none) (rw c.get_mut.follows.holds-at-none at c.start.ensures.value)

pub returns-in-None-clause-err : goal.returns-in-None-clause-err
returns-in-None-clause-err g c =
    let none = absent g c in
    let m = held c.args.slots.now in
    subst (λ (entry : Option g.row.R-Entry.Denot). IfErr c.start.result (λ refusal. RefusedAs NoMemory refusal
    (refusal_of (judged m c.args.calls c.args.id (g.R.CallRule.next c.args.rule.now entry c.args.event)))))
    (sym none) (rw c.get_mut.follows.holds-at-none at c.start.ensures.err)

pub returns-in-None-clause-memory : goal.returns-in-None-clause-memory
returns-in-None-clause-memory g c =
    let none = absent g c in
    λ wanting. (none, c.start.ensures.memory wanting)

-- the entry in front is that of the id
front_entry : (g : Over) (c : goal.After-step_front g) → (c.args.slots.now.id ≡ c.args.id)
    × ((e : g.row.R-Entry.Denot) × (map.get (held c.args.slots.now) c.args.id ≡ Some e))
front_entry g c = in_front _ _ _ _ (sym c.is_front.ensures ∙ c.if-is_front.true)

fronts : (g : Over) (c : goal.After-step_front g) → c.step_front.result
    ≡ judged (held c.args.slots.now) c.args.calls c.args.id
    (g.R.CallRule.next c.args.rule.now (map.get (held c.args.slots.now) c.args.id) c.args.event)
fronts g c = c.step_front.ensures.outcome ∙ sym (judged_held _ _ _ _ _ (front_entry g c).1.1)

pub returns-then-is_front-clause-table : goal.returns-then-is_front-clause-table
returns-then-is_front-clause-table g c =
    let m = held c.args.slots.now in
    let fewer = len-put_held m c.args.id (g.R.CallRule.next c.args.rule.now (map.get m c.args.id) c.args.event).entry _ (front_entry g c).1.1 in
    record {
      whole = c.step_front.ensures.whole;
      within = let same = ap map.len c.step_front.ensures.entry in omega (arith, same, fewer, c.requires.within);
    }

pub returns-then-is_front-clause-ok : goal.returns-then-is_front-clause-ok
returns-then-is_front-clause-ok g c = OnOk_of c.step_front.result c.step_front.ensures.entry

pub returns-then-is_front-clause-value : goal.returns-then-is_front-clause-value
returns-then-is_front-clause-value g c = tells_answer _ _ (fronts g c)

pub returns-then-is_front-clause-err : goal.returns-then-is_front-clause-err
returns-then-is_front-clause-err g c = tells_refusal _ _ (fronts g c)

pub returns-then-is_front-clause-kept : goal.returns-then-is_front-clause-kept
returns-then-is_front-clause-kept g c =
    from_fault c.step_front.result _ c.step_front.ensures.outcome (λ fault.
    c.step_front.ensures.entry
    ∙ ap (put (held c.args.slots.now) c.args.id) (g.met.R.CallRule.fault_keeps c.args.rule.now _ c.args.event fault)
    ∙ put_same (held c.args.slots.now) c.args.id _ refl)

pub returns-then-is_front-clause-memory : goal.returns-then-is_front-clause-memory
returns-then-is_front-clause-memory g c = not_memory c.step_front.result _ c.step_front.ensures.outcome
