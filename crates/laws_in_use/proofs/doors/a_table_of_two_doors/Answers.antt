use Rattle.std.proofs.Common.{◌≡◌, ℕ, ◌==◌, Bool, true, false, if◌then◌else◌, [], ◌∷◌, Option, Some, None, is_some, refl, sym, ap, ◌∙◌, arith}
use Rattle.std.proofs.lemmas.Bool.Decides.{nat_tests}
use Rattle.std.specs.FinMap as finite
use Rattle.giop_ids.specs.ById.{is_listed, put, weight_in}
use Rattle.laws_in_use.specs.declared.doors.Door.{Door}
use Rattle.laws_in_use.specs.declared.doors.Door.TheVariants.{Open, Shut}
use Rattle.laws_in_use.specs.Doors.{doors, one_open, one_shut, open_doors, shut_doors}
use Rattle.laws_in_use.proofs.DoorRuns.{nine_is_new, none_at}
use Rattle.laws_in_use.proofs.doors.a_table_of_two_doors.Goals as goal

abbrev by_two : Option Door → Option Door → Bool → Bool → Option Door
by_two seven nine is_nine is_seven = if is_nine then nine else if is_seven then seven else None

-- what stands under an id, by what the law says of a value that is put
opened : goal.After-sums_change_by_one → (id : ℕ) → finite.get open_doors id ≡ by_two (Some Open) (Some Open) (id == 9) (id == 7)
opened c id =
    c.one_id_changes.ensures.value one_open 9 (Some Open) id
    ∙ ap (λ door. if id == 9 then Some Open else door)
    (c.one_id_changes.ensures.value doors 7 (Some Open) id ∙ ap (λ door. if id == 7 then Some Open else door) (none_at id))

opened_so : goal.After-sums_change_by_one → (id : ℕ)
    → finite.get (put (put doors 9 (Some Open)) 7 (Some Open)) id ≡ by_two (Some Open) (Some Open) (id == 7) (id == 9)
opened_so c id =
    c.one_id_changes.ensures.value (put doors 9 (Some Open)) 7 (Some Open) id
    ∙ ap (λ door. if id == 7 then Some Open else door)
    (c.one_id_changes.ensures.value doors 9 (Some Open) id ∙ ap (λ door. if id == 9 then Some Open else door) (none_at id))

either : (one other : Bool) → by_two (Some Open) (Some Open) one other ≡ by_two (Some Open) (Some Open) other one
either true true = refl
either true false = refl
either false true = refl
either false false = refl

pub returns-clause-seven : goal.returns-clause-seven
returns-clause-seven c = opened c 7

pub returns-clause-either : goal.returns-clause-either
returns-clause-either c = c.one_id_changes.ensures.equal _ open_doors (λ id. opened_so c id ∙ either (id == 7) (id == 9) ∙ sym (opened c id))

-- an id under which a door is put is listed
listed : (id : ℕ) (nine seven : Bool) → (id == 9) ≡ nine → (id == 7) ≡ seven
    → is_some (by_two (Some Open) (Some Open) nine seven) ≡ true → is_listed (7 ∷ 9 ∷ []) id ≡ true
listed id true seven is_nine is_seven there = grind (arith, nat_tests)
listed id false true is_nine is_seven there = grind (arith, nat_tests)
listed id false false is_nine is_seven there = absurd cc

-- where one is put that is shut, one stands
shut_there : (nine seven : Bool) (door : Option Door) → is_some door ≡ true
    → is_some (if nine then Some Shut else if seven then Some Shut else door) ≡ true
shut_there true seven door there = refl
shut_there false true door there = refl
shut_there false false door there = there

pub returns-clause-only : goal.returns-clause-only
returns-clause-only c = λ id there. listed id (id == 9) (id == 7) refl refl (sym (ap is_some (opened c id)) ∙ there)

pub returns-clause-two : goal.returns-clause-two
returns-clause-two c = c.entries_within_ids.ensures.listed open_doors (7 ∷ 9 ∷ []) (returns-clause-only c)

pub returns-clause-as_many : goal.returns-clause-as_many
returns-clause-as_many c = c.entries_within_ids.ensures.shared open_doors shut_doors (λ id there.
    ap is_some (c.one_id_changes.ensures.value one_shut 9 (Some Shut) id
    ∙ ap (λ door. if id == 9 then Some Shut else door) (c.one_id_changes.ensures.value open_doors 7 (Some Shut) id))
    ∙ shut_there (id == 9) (id == 7) (finite.get open_doors id) there)

pub returns-clause-sum : goal.returns-clause-sum
returns-clause-sum c =
    let one = c.sums_change_by_one.ensures.value (λ door. 4) doors 7 (Some Open) in
    let two = c.sums_change_by_one.ensures.value (λ door. 4) one_open 9 (Some Open) in
    let new : weight_in (λ (door : Door). 4) (finite.get doors 7) ≡ 0 = ap (weight_in (λ door. 4)) (none_at 7) in
    let nine : weight_in (λ (door : Door). 4) (finite.get one_open 9) ≡ 0 = ap (weight_in (λ door. 4)) nine_is_new in
    omega (arith, one, two, new, nine, c.sums_change_by_one.ensures.none (λ door. 4))

pub returns-clause-none : goal.returns-clause-none
returns-clause-none c = c.sums_change_by_one.ensures.none (λ door. 4)
