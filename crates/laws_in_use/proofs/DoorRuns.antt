-- What the tables of doors hold as pushes come.
use Rattle.std.proofs.Common.{◌≡◌, ℕ, ◌+◌, ◌==◌, ◌&&◌, Bool, true, false, if◌then◌else◌, List, [], ◌∷◌, Option, Some, None, is_none, is_some, refl, ap, ◌∙◌, arith}
use Rattle.std.proofs.lemmas.Bool.Decides.{nat_tests}
use Rattle.std.specs.Option.{option_map}
use Rattle.std.specs.FinMap as finite
use Rattle.std.specs.FinMap.{len-empty}
use Rattle.std.specs.Ordering.{nat_cmp}
use Rattle.giop_ids.specs.ById.{ById}
use Rattle.giop_ids.specs.Runs.{Runs, own}
use Rattle.giop_ids.proofs.Puts.{get-put, len-put_new}
use Rattle.giop_mux.specs.declared.refusal.Refusal.TheVariants.{TooManyCalls}
use Rattle.giop_mux.specs.Calls.{room_refusal}
use Rattle.giop_mux.specs.Runs.{Answers, Gives, Happening, Hears, IsOpen, IsTaken, Refuses, call_rules, turn}
use Rattle.laws_in_use.specs.declared.doors.Door.{Door}
use Rattle.laws_in_use.specs.declared.doors.Door.TheVariants.{Open, Shut}
use Rattle.laws_in_use.specs.declared.doors.Push.{Push}
use Rattle.laws_in_use.specs.declared.doors.Push.TheVariants.{Opens, Shuts}
use Rattle.laws_in_use.specs.declared.doors.Stuck.{Stuck}
use Rattle.laws_in_use.specs.Doors.{at_once, both_shut, doors, in_turn, is_closed, more, more_results, none_open, one_open, one_shut, open_doors, pushes, results, rules, seven_shut, step_of, stuck, table, take_results, taken, takes, takes_at_once, takes_in_turn, turned, under}
use Rattle.laws_in_use.proofs.Running.{accepts, limits, refuses}

-- what stands under the ids
pub none_at : (id : ℕ) → finite.get doors id ≡ None
none_at id = finite.get-empty nat_cmp id

pub nine_is_new : finite.get one_open 9 ≡ None
nine_is_new = get-put doors 7 (Some Open) 9 ∙ none_at 9

pub seven_open : finite.get open_doors 7 ≡ Some Open
seven_open = get-put one_open 9 (Some Open) 7 ∙ get-put doors 7 (Some Open) 7

pub five_is_new : finite.get open_doors 5 ≡ None
five_is_new = get-put one_open 9 (Some Open) 5 ∙ get-put doors 7 (Some Open) 5 ∙ none_at 5

pub seven_is_shut : finite.get one_shut 7 ≡ Some Shut
seven_is_shut = get-put open_doors 7 (Some Shut) 7

pub nine_open : finite.get one_shut 9 ≡ Some Open
nine_open = get-put open_doors 7 (Some Shut) 9 ∙ get-put one_open 9 (Some Open) 9

-- and how many there are
pub len_none : finite.len doors ≡ 0
len_none = len-empty nat_cmp Door

pub len_one : finite.len one_open ≡ 1
len_one = len-put_new doors 7 Open (none_at 7) ∙ ap (λ n. n + 1) len_none

pub len_two : finite.len open_doors ≡ 2
len_two = len-put_new one_open 9 Open nine_is_new ∙ ap (λ n. n + 1) len_one

-- whether one more has room, by what stands there and how many there are
has_room : (m : ById Door) (id : ℕ) (push : Push) (before : Option Door) (count : ℕ) → finite.get m id ≡ before → finite.len m ≡ count
    → (is_none before && is_some (step_of before push).entry && (count == 2)) ≡ false
    → room_refusal {F = Stuck} m 2 id (step_of (finite.get m id) push).entry ≡ None
has_room m id push before count was many few =
    ap (λ door. if is_none door && is_some (step_of door push).entry && (finite.len m == 2) then Some TooManyCalls else None) was
    ∙ ap (λ n. if is_none before && is_some (step_of before push).entry && (n == 2) then Some TooManyCalls else None) many
    ∙ ap (λ b. if b then Some TooManyCalls else None) few

has_none : (m : ById Door) (id : ℕ) (push : Push) (before : Option Door) (count : ℕ) → finite.get m id ≡ before → finite.len m ≡ count
    → (is_none before && is_some (step_of before push).entry && (count == 2)) ≡ true
    → room_refusal {F = Stuck} m 2 id (step_of (finite.get m id) push).entry ≡ Some TooManyCalls
has_none m id push before count was many full =
    ap (λ door. if is_none door && is_some (step_of door push).entry && (finite.len m == 2) then Some TooManyCalls else None) was
    ∙ ap (λ n. if is_none before && is_some (step_of before push).entry && (n == 2) then Some TooManyCalls else None) many
    ∙ ap (λ b. if b then Some TooManyCalls else None) full

pushed : (m : ById Door) (id : ℕ) {before : Option Door} (push : Push) → finite.get m id ≡ before
    → turned (step_of (finite.get m id) push).entry (step_of (finite.get m id) push).outcome
    ≡ turned (step_of before push).entry (step_of before push).outcome
pushed m id push was = ap (λ door. turned (step_of door push).entry (step_of door push).outcome) was

-- all pushes, one after another, and one that follows
pub run : Runs rules none_open pushes results seven_shut
run = (
  table one_open,
  accepts rules none_open (under 7 Opens) (record { now = Some Open; answer = tt }) (pushed _ _ Opens (none_at 7))
      (has_room doors 7 Opens None 0 (none_at 7) len_none refl),
  (
    table open_doors,
    accepts rules (table one_open) (under 9 Opens) (record { now = Some Open; answer = tt }) (pushed _ _ Opens nine_is_new)
        (has_room one_open 9 Opens None 1 nine_is_new len_one refl),
    (
      table open_doors,
      refuses rules (table open_doors) (under 7 Opens) stuck (pushed _ _ Opens seven_open),
      (
        table open_doors,
        limits rules (table open_doors) (under 5 Opens) (record { now = Some Open; answer = tt }) TooManyCalls (pushed _ _ Opens five_is_new)
            (has_none open_doors 5 Opens None 2 five_is_new len_two refl),
        (
          seven_shut,
          accepts rules (table open_doors) (under 7 Shuts) (record { now = Some Shut; answer = tt }) (pushed _ _ Shuts seven_open)
              (has_room open_doors 7 Shuts (Some Open) 2 seven_open len_two refl),
          refl,
        ),
      ),
    ),
  ),
)

pub last : Runs rules seven_shut more more_results both_shut
last = (
  both_shut,
  accepts rules seven_shut (under 9 Shuts) (record { now = Some Shut; answer = tt }) (pushed _ _ Shuts nine_open)
      (ap (λ door. if is_none door && is_some (step_of door Shuts).entry && (finite.len one_shut == 2) then Some TooManyCalls else None) nine_open),
  refl,
)

-- the same with takes
on_call : (m : ById Door) (id : ℕ) {before : Option Door} (what : Happening Push) → finite.get m id ≡ before
    → turn step_of is_closed (finite.get m id) what ≡ turn step_of is_closed before what
on_call m id what was = ap (λ door. turn step_of is_closed door what) was

pub take_run : Runs (call_rules step_of is_closed 2) doors takes take_results taken
take_run = (
  one_open,
  accepts (call_rules step_of is_closed 2) doors (under 7 (Hears Opens)) (record { now = Some Open; answer = Answers tt })
      (on_call _ _ (Hears Opens) (none_at 7)) (ap (option_map Refuses) (has_room doors 7 Opens None 0 (none_at 7) len_none refl)),
  (
    open_doors,
    accepts (call_rules step_of is_closed 2) one_open (under 9 (Hears Opens)) (record { now = Some Open; answer = Answers tt })
        (on_call _ _ (Hears Opens) nine_is_new) (ap (option_map Refuses) (has_room one_open 9 Opens None 1 nine_is_new len_one refl)),
    (
      open_doors,
      refuses (call_rules step_of is_closed 2) open_doors (under 7 IsTaken) IsOpen (on_call _ _ IsTaken seven_open),
      (
        open_doors,
        limits (call_rules step_of is_closed 2) open_doors (under 5 (Hears Opens)) (record { now = Some Open; answer = Answers tt })
            (Refuses TooManyCalls) (on_call _ _ (Hears Opens) five_is_new)
            (ap (option_map Refuses) (has_none open_doors 5 Opens None 2 five_is_new len_two refl)),
        (
          one_shut,
          accepts (call_rules step_of is_closed 2) open_doors (under 7 (Hears Shuts)) (record { now = Some Shut; answer = Answers tt })
              (on_call _ _ (Hears Shuts) seven_open) (ap (option_map Refuses) (has_room open_doors 7 Shuts (Some Open) 2 seven_open len_two refl)),
          (
            taken,
            accepts (call_rules step_of is_closed 2) one_shut (under 7 IsTaken) (record { now = None; answer = Gives (Some Shut) })
                (on_call _ _ IsTaken seven_is_shut) refl,
            refl,
          ),
        ),
      ),
    ),
  ),
)

-- no id is both
pub apart : (id : ℕ) → (7 == id) ≡ true → (9 == id) ≡ true → ⊥
apart id seven nine = grind (arith, nat_tests)

-- those of an id, where it is 7, or 9
abbrev if_is : {X : Type 0} → Bool → X → List X → List X
if_is is what rest = if is then what ∷ rest else rest

same_by : {X : Type 0} (a b c d : X) (seven nine : Bool) → (seven ≡ true → nine ≡ true → ⊥)
    → if_is seven a (if_is nine b (if_is seven c (if_is nine d []))) ≡ if_is nine b (if_is nine d (if_is seven a (if_is seven c [])))
same_by a b c d true true not_both = absurd (not_both refl refl)
same_by a b c d true false not_both = refl
same_by a b c d false true not_both = refl
same_by a b c d false false not_both = refl

pub same : (id : ℕ) → own id in_turn ≡ own id at_once
same id = same_by Opens Opens Opens Shuts (7 == id) (9 == id) (apart id)

pub same_takes : (id : ℕ) → own id takes_in_turn ≡ own id takes_at_once
same_takes id = same_by (Hears Opens) (Hears Opens) IsTaken (Hears Shuts) (7 == id) (9 == id) (apart id)
