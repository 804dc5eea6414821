-- Doors under ids, which are opened and shut, in a table of two at most.
use Rattle.std.specs.Prelude.{◌≡◌, ℕ, Bool, true, false, List, [], ◌∷◌, Option, Some, None, Result, Ok, Err, IsErr, refl}
use Rattle.std.specs.FinMap as finite
use Rattle.giop_ids.specs.declared.addressed.Addressed.{Addressed}
use Rattle.giop_ids.specs.ById.{ById, put}
use Rattle.giop_ids.specs.Runs.{Done, Rules}
use Rattle.giop_mux.specs.declared.refusal.Refusal.{Refusal}
use Rattle.giop_mux.specs.declared.refusal.Refusal.TheVariants.{NoMemory, Rule, TooManyCalls}
use Rattle.giop_mux.specs.declared.step.Step.{Step}
use Rattle.giop_mux.specs.Calls.{Calls, room_refusal}
use Rattle.giop_mux.specs.Faults.{no_fault}
use Rattle.giop_mux.specs.Runs.{Answers, Denial, Gives, Happening, Hears, IsOpen, IsTaken, Refuses, Reply}
use Rattle.laws_in_use.specs.declared.doors.Door.{Door}
use Rattle.laws_in_use.specs.declared.doors.Door.TheVariants.{Open, Shut}
use Rattle.laws_in_use.specs.declared.doors.Doors.{Doors}
use Rattle.laws_in_use.specs.declared.doors.Push.{Push}
use Rattle.laws_in_use.specs.declared.doors.Push.TheVariants.{Opens, Shuts}
use Rattle.laws_in_use.specs.declared.doors.Stuck.{Stuck}

-- what a push does to a door: what isn't open is opened, and what is open is shut
abbrev pub step_of : Option Door → Push → Step Door (Unit {0}) Stuck
step_of None Opens = record { entry = Some Open; outcome = Ok tt }
step_of (Some Shut) Opens = record { entry = Some Open; outcome = Ok tt }
step_of (Some Open) Shuts = record { entry = Some Shut; outcome = Ok tt }
step_of door _ = record { entry = door; outcome = Err (record {}) }

-- a door that is shut may be taken out
abbrev pub is_closed : Door → Bool
is_closed Open = false
is_closed Shut = true

-- a refused push leaves the door
pub fault_keeps : (door : Option Door) (push : Push)
    → IsErr (step_of door push).outcome → (step_of door push).entry ≡ door
fault_keeps None Opens fault = no_fault fault
fault_keeps (Some Shut) Opens fault = no_fault fault
fault_keeps (Some Open) Shuts fault = no_fault fault
fault_keeps None Shuts fault = refl
fault_keeps (Some Open) Opens fault = refl
fault_keeps (Some Shut) Shuts fault = refl

-- ---- a table of doors, by the theory of tables by id

abbrev pub Table : Type 0
Table = Calls Doors Door

-- what a push does there, as the table tells it
abbrev pub turned : Option Door → Result (Unit {0}) Stuck
    → Result (Done (Option Door) (Unit {0})) (Refusal Stuck)
turned door (Ok done) = Ok (record { now = door; answer = done })
turned door (Err fault) = Err (Rule fault)

abbrev pub rules : Rules Table (Option Door) Push (Unit {0}) (Refusal Stuck)
rules = record {
  at = λ s id. finite.get s.entries id;
  put = λ s id door. record s { entries = put s.entries id door };
  turn = λ door push. turned (step_of door push).entry (step_of door push).outcome;
  limit = λ s act. room_refusal s.entries s.limit act.id
      (step_of (finite.get s.entries act.id) act.what).entry;
  memory = NoMemory;
}

-- whether a push is refused for the door's own sake
abbrev pub is_of_door : Refusal Stuck → Bool
is_of_door (Rule fault) = true
is_of_door TooManyCalls = false
is_of_door NoMemory = false

abbrev pub stuck : Refusal Stuck
stuck = Rule (record {})

abbrev pub under : {X : Type 0} → ℕ → X → Addressed X
under id what = record { id = id; what = what }

-- 7 and 9 are opened; 7 is opened once more, and 5 is one too many; 7 is shut
abbrev pub pushes : List (Addressed Push)
pushes = under 7 Opens ∷ under 9 Opens ∷ under 7 Opens ∷ under 5 Opens ∷ under 7 Shuts ∷ []

abbrev pub results : List (Result (Unit {0}) (Refusal Stuck))
results = Ok tt ∷ Ok tt ∷ Err stuck ∷ Err TooManyCalls ∷ Ok tt ∷ []

-- those that are accepted, and one that follows
abbrev pub accepted_pushes : List (Addressed Push)
accepted_pushes = under 7 Opens ∷ under 9 Opens ∷ under 7 Shuts ∷ []

abbrev pub more : List (Addressed Push)
more = under 9 Shuts ∷ []

abbrev pub more_results : List (Result (Unit {0}) (Refusal Stuck))
more_results = Ok tt ∷ []

-- the table, as it becomes
abbrev pub doors : ById Door
doors = finite.empty

abbrev pub one_open : ById Door
one_open = put doors 7 (Some Open)

abbrev pub open_doors : ById Door
open_doors = put one_open 9 (Some Open)

abbrev pub one_shut : ById Door
one_shut = put open_doors 7 (Some Shut)

abbrev pub shut_doors : ById Door
shut_doors = put one_shut 9 (Some Shut)

abbrev pub table : ById Door → Table
table entries = record { rule = record {}; limit = 2; entries = entries }

abbrev pub none_open : Table
none_open = table doors

abbrev pub seven_shut : Table
seven_shut = table one_shut

abbrev pub both_shut : Table
both_shut = table shut_doors

-- the same pushes for each id in two orders
abbrev pub in_turn : List (Addressed Push)
in_turn = under 7 Opens ∷ under 9 Opens ∷ under 7 Opens ∷ under 9 Shuts ∷ []

abbrev pub at_once : List (Addressed Push)
at_once = under 9 Opens ∷ under 9 Shuts ∷ under 7 Opens ∷ under 7 Opens ∷ []

-- ---- the same where doors may be taken out

-- 7 and 9 are opened; 7 can't be taken out, and 5 is one too many; 7 is shut and taken out
abbrev pub takes : List (Addressed (Happening Push))
takes = under 7 (Hears Opens) ∷ under 9 (Hears Opens) ∷ under 7 IsTaken ∷ under 5 (Hears Opens)
    ∷ under 7 (Hears Shuts) ∷ under 7 IsTaken ∷ []

abbrev pub take_results : List (Result (Reply (Unit {0}) Door) (Denial Stuck))
take_results = Ok (Answers tt) ∷ Ok (Answers tt) ∷ Err IsOpen ∷ Err (Refuses TooManyCalls)
    ∷ Ok (Answers tt) ∷ Ok (Gives (Some Shut)) ∷ []

abbrev pub taken : ById Door
taken = put one_shut 7 None

-- two orders
abbrev pub takes_in_turn : List (Addressed (Happening Push))
takes_in_turn = under 7 (Hears Opens) ∷ under 9 (Hears Opens) ∷ under 7 IsTaken
    ∷ under 9 (Hears Shuts) ∷ []

abbrev pub takes_at_once : List (Addressed (Happening Push))
takes_at_once = under 9 (Hears Opens) ∷ under 9 (Hears Shuts) ∷ under 7 (Hears Opens)
    ∷ under 7 IsTaken ∷ []
