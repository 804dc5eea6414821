use Rattle.std.proofs.Common.{◌≡◌, ℕ, Some, ◌∙◌, ap, Bool, true, false, if◌then◌else◌, refl}
use Rattle.std.specs.Option.{option_map}
use Rattle.giop_calls.specs.ServerTable as server
use Rattle.giop_calls.specs.declared.server.entry.ServerEntry.TheVariants.{LocateAnswered}
use Rattle.laws_in_use.specs.Asking.{here}
use Rattle.laws_in_use.specs.Locating.{door}
use Rattle.laws_in_use.specs.OwnLanes.{again, answered}
use Rattle.laws_in_use.proofs.OwnLaneRuns.{own_again, own_crossing, runs_crossing}
use Rattle.laws_in_use.proofs.own_lanes.a_cancel_crosses_its_answer.Goals as goal

pub returns-clause-own : goal.returns-clause-own
returns-clause-own c = own_crossing

pub returns-clause-runs : goal.returns-clause-runs
returns-clause-runs c = runs_crossing

pub returns-clause-again : goal.returns-clause-again
returns-clause-again c = own_again

pub returns-clause-agree : goal.returns-clause-agree
returns-clause-agree c = λ interface acts lane run sent answered is.
    (c.own_ends_of_one_lane_agree.ensures.own interface acts lane run).0 sent answered ∙ ap (option_map server.outcome) is

pub returns-clause-right : goal.returns-clause-right
returns-clause-right c = λ interface acts lane run is.
    let (told, answers, status, rest, uses) = (c.own_ends_of_one_lane_agree.ensures.own interface acts lane run).2 door here is in
    by_status (λ told. Some (LocateAnswered (Some door.target) told)) told status answers
  where
    by_status : {A : Type 0} {e : A} (entry : Bool → A) (told : Bool) → ◌≡◌ {A = ℕ} 1 (if told then 1 else 0) → e ≡ entry told → e ≡ entry true
    by_status entry true status is = is
    by_status entry false status is = absurd cc

pub returns-clause-uses : goal.returns-clause-uses
returns-clause-uses c = λ interface.
    ((c.own_ends_of_one_lane_agree.ensures.own interface again answered (own_again interface)).2 door here refl).4

pub returns-clause-read : goal.returns-clause-read
returns-clause-read c = λ interface acts lane run. (c.own_ends_of_one_lane_agree.ensures.read interface acts lane run).3.1
