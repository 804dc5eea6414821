use Rattle.std.proofs.Common.{ap, ◌∙◌, Some, None, ◌∷◌, [], if◌then◌else◌, ◌==◌}
use Rattle.giop_ids.proofs.Puts.{eq_apart}
use Rattle.giop_cdr.specs.declared.order.Order.TheVariants.{Big}
use Rattle.giop_msg.specs.declared.version.Version.TheVariants.{V10, V12}
use Rattle.giop_calls.specs.ServerTable.{arrived}
use Rattle.giop_session.specs.Items.Carries.{behind_all}
use Rattle.giop_session.specs.Items.ServerCarries.{server_telling}
use Rattle.laws_in_use.specs.Locating.{door, door_begins, door_ends, limits, one_way, other_way, said, said_of_nine, said_of_seven, tight_limits}
use Rattle.laws_in_use.proofs.LocatingHolds as holds
use Rattle.laws_in_use.proofs.LocatingMessages.{decoded}
use Rattle.laws_in_use.proofs.LocatingRuns.{one_taken, other_taken}
use Rattle.laws_in_use.proofs.LocatingSpelled.{door_cut}
use Rattle.laws_in_use.proofs.locating.two_ways_of_locating.Goals as goal

pub returns-clause-written : goal.returns-clause-written
returns-clause-written c = door_cut

pub returns-clause-one_holds : goal.returns-clause-one_holds
returns-clause-one_holds c = λ interface.
    holds.one_holds interface (c.locate_requests_are_spelled.ensures V10) (c.locate_requests_are_spelled.ensures V12)
    (c.what_is_cut_is_carried.ensures.locate interface V12 Big door 24 (door_begins ∷ door_ends ∷ []) None door_cut)

pub returns-clause-other_holds : goal.returns-clause-other_holds
returns-clause-other_holds c = λ interface.
    holds.other_holds interface (c.locate_requests_are_spelled.ensures V10) (c.locate_requests_are_spelled.ensures V12)
    (c.what_is_cut_is_carried.ensures.locate interface V12 Big door 24 (door_begins ∷ door_ends ∷ []) None door_cut)

pub returns-clause-one_taken : goal.returns-clause-one_taken
returns-clause-one_taken c = λ interface. (_, ((_, one_taken interface), returns-clause-one_holds c interface))

pub returns-clause-other_taken : goal.returns-clause-other_taken
returns-clause-other_taken c = λ interface. (_, ((_, other_taken interface), returns-clause-other_holds c interface))

pub returns-clause-seven : goal.returns-clause-seven
returns-clause-seven c = λ interface left k taken.
    c.same_calls_same_entries_at_server.ensures.value interface limits one_way said k ((left, taken), returns-clause-one_holds c interface) 7

pub returns-clause-nine : goal.returns-clause-nine
returns-clause-nine c = λ interface left k taken.
    c.same_calls_same_entries_at_server.ensures.value interface limits one_way said k ((left, taken), returns-clause-one_holds c interface) 9
    ∙ ap (λ call. Some (arrived call)) (decoded interface).bad

pub returns-clause-others : goal.returns-clause-others
returns-clause-others c = λ interface left k taken id seven nine.
    c.same_calls_same_entries_at_server.ensures.value interface limits one_way said k ((left, taken), returns-clause-one_holds c interface) id
    ∙ ap (λ items. behind_all (server_telling interface) None items)
    (ap (λ b. if b then said_of_seven else if id == 9 then said_of_nine else []) (eq_apart id 7 seven)
    ∙ ap (λ b. if b then said_of_nine else []) (eq_apart id 9 nine))

pub returns-clause-same : goal.returns-clause-same
returns-clause-same c = λ interface left left' k k' taken taken'.
    c.same_calls_same_entries_at_server.ensures.same interface limits tight_limits one_way other_way said k k'
    ((left, taken), returns-clause-one_holds c interface) ((left', taken'), returns-clause-other_holds c interface)
