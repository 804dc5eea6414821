use Rattle.std.proofs.Common.{◌≡◌, Bool, true, false, Option, Some, None, Result, Ok, Err, if◌then◌else◌, ap, sym, refl}
use Rattle.std.specs.Option.{option_map}
use Rattle.giop_mux.specs.declared.refusal.Refusal.TheVariants.{Rule, TooManyCalls}
use Rattle.giop_mux.specs.Runs.{Denial, Happening, Hears, IsOpen, IsTaken, Refuses, is_of_call, room, stepped, taken, turn}
use Rattle.laws_in_use.specs.declared.doors.Door.{Door}
use Rattle.laws_in_use.specs.declared.doors.Push.{Push}
use Rattle.laws_in_use.specs.declared.doors.Stuck.{Stuck}
use Rattle.laws_in_use.specs.Doors.{is_closed, step_of}
use Rattle.laws_in_use.proofs.classes.refusals_of_a_table.Goals as goal

of_room : (full : Bool) (why : Denial Stuck) → option_map Refuses (if full then Some TooManyCalls else None) ≡ Some why → is_of_call why ≡ false
of_room true why is = let same : Refuses TooManyCalls ≡ why = cc in ap is_of_call (sym same)
of_room false why is = absurd cc

of_limit : (limit : _) (m : _) (id : _) (what : Happening Push) (why : Denial Stuck) → room step_of is_closed limit m id what ≡ Some why
    → is_of_call why ≡ false
of_limit limit m id (Hears push) why is = of_room _ why is
of_limit limit m id IsTaken why is = absurd cc

pub returns-clause-classes : goal.returns-clause-classes
returns-clause-classes c = λ limit. record { limits = λ m act why is. of_limit limit m act.id act.what why is; memory = refl }

of_rule : (door : Option Door) (outcome : Result (Unit {0}) Stuck) (why : Denial Stuck) → stepped step_of is_closed door outcome ≡ Err why
    → is_of_call why ≡ true
of_rule door (Ok done) why is = absurd cc
of_rule door (Err fault) why is = let same : Refuses (Rule fault) ≡ why = cc in ap is_of_call (sym same)

of_take : (closed : Option Bool) (door : Option Door) (why : Denial Stuck) → taken step_of is_closed closed door ≡ Err why → is_of_call why ≡ true
of_take None door why is = absurd cc
of_take (Some true) door why is = absurd cc
of_take (Some false) door why is = let same : IsOpen ≡ why = cc in ap is_of_call (sym same)

own : (door : Option Door) (what : Happening Push) (why : Denial Stuck) → turn step_of is_closed door what ≡ Err why → is_of_call why ≡ true
own door (Hears push) why is = of_rule _ _ why is
own door IsTaken why is = of_take _ door why is

pub returns-clause-own : goal.returns-clause-own
returns-clause-own c = own
