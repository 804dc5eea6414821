use Rattle.std.proofs.Common.{[], refl, ◌∙◌}
use Rattle.laws_in_use.specs.LaneActs.{asked_acts, asked_lane}
use Rattle.laws_in_use.specs.Limited.{new_server}
use Rattle.laws_in_use.specs.Locating.{door_begins, limits}
use Rattle.laws_in_use.proofs.LaneActsShown.{gathers_then, next_asked, runs_asked, server_memory_alone, shows_asked}
use Rattle.laws_in_use.proofs.LocatingRuns.{begun, one_1}
use Rattle.laws_in_use.proofs.lane_acts.a_server_gathers_as_its_lane.Goals as goal

pub returns-clause-runs : goal.returns-clause-runs
returns-clause-runs c = runs_asked

pub returns-clause-shows : goal.returns-clause-shows
returns-clause-shows c = shows_asked

pub returns-clause-next : goal.returns-clause-next
returns-clause-next c = next_asked

pub returns-clause-heard : goal.returns-clause-heard
returns-clause-heard c = λ interface. (one_1 interface, begun interface)

pub returns-clause-gathers : goal.returns-clause-gathers
returns-clause-gathers c = λ interface h k shows hears.
    let (after, leads, stored, others) =
    c.servers_do_the_lanes_act.ensures.heard interface asked_acts asked_lane 7 door_begins [] h k (runs_asked interface) refl shows next_asked hears in (
      stored.entry ∙ gathers_then interface after leads,
      others,
    )

pub returns-clause-refused : goal.returns-clause-refused
returns-clause-refused c = λ interface k why hears.
    let (kept, limit) = c.servers_do_the_lanes_act.ensures.refused interface asked_acts asked_lane 7 door_begins [] (new_server limits) k why
    (runs_asked interface) refl shows_asked next_asked hears in (
      kept,
      server_memory_alone why limit,
    )
