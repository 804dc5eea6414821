use Rattle.std.proofs.Common.{[], refl, ◌∙◌}
use Rattle.laws_in_use.specs.LaneActs.{answered_acts, answered_lane, awaiting}
use Rattle.laws_in_use.specs.Locating.{here_big}
use Rattle.laws_in_use.proofs.LaneActsShown.{answered_then, client_memory_alone, heard_answer, next_answered, runs_answered, shows_answered}
use Rattle.laws_in_use.proofs.lane_acts.a_client_is_answered_as_its_lane.Goals as goal

pub returns-clause-runs : goal.returns-clause-runs
returns-clause-runs c = runs_answered

pub returns-clause-shows : goal.returns-clause-shows
returns-clause-shows c = shows_answered

pub returns-clause-next : goal.returns-clause-next
returns-clause-next c = next_answered

pub returns-clause-heard : goal.returns-clause-heard
returns-clause-heard c = λ interface. (_, heard_answer interface)

pub returns-clause-answered : goal.returns-clause-answered
returns-clause-answered c = λ interface h k shows hears.
    let (after, leads, stored, others) =
    c.clients_do_the_lanes_act.ensures.heard interface answered_acts answered_lane 7 here_big [] h k (runs_answered interface) refl shows next_answered
    hears in (
      stored.entry ∙ answered_then interface after leads,
      others,
    )

pub returns-clause-refused : goal.returns-clause-refused
returns-clause-refused c = λ interface k why hears.
    let (kept, limit) = c.clients_do_the_lanes_act.ensures.refused interface answered_acts answered_lane 7 here_big [] awaiting k why
    (runs_answered interface) refl shows_answered next_answered hears in (
      kept,
      client_memory_alone why limit,
    )
