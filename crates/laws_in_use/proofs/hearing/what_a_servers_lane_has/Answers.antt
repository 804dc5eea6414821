use Rattle.std.proofs.Common.{◌∙◌, ap, [], refl, true}
use Rattle.giop_calls.specs.declared.kind.CallKind.TheVariants as kind
use Rattle.giop_calls.specs.declared.server.event.ServerEvent.TheVariants as event
use Rattle.giop_session.specs.Calls.CallTable.{Hears, More}
use Rattle.giop_session.specs.Hearing.Heard.{behind_id, silently}
use Rattle.laws_in_use.specs.Hearing.{door_begun}
use Rattle.laws_in_use.specs.Locating.{cancel_big, door_ends, key_big}
use Rattle.laws_in_use.proofs.LocatingMessages.{decoded}
use Rattle.laws_in_use.proofs.hearing.what_a_servers_lane_has.Goals as goal

pub returns-clause-opens : goal.returns-clause-opens
returns-clause-opens c = λ interface call.
    let (brings, is) = c.servers_hear_the_lanes_event.ensures.opens interface kind.Locate key_big call [] refl in
    (brings, is ∙ ap (λ read. Hears (silently (event.Whole read)) brings) (decoded interface).key_big)

pub returns-clause-continues : goal.returns-clause-continues
returns-clause-continues c = λ interface.
    c.servers_hear_the_lanes_event.ensures.continues interface kind.Locate door_begun door_ends [] refl (refl, refl)
    ∙ ap (λ read. Hears (silently (event.Last true read)) (More (behind_id door_ends))) (decoded interface).door_joined

pub returns-clause-stops : goal.returns-clause-stops
returns-clause-stops c = λ interface call. c.servers_hear_the_lanes_event.ensures.stops interface cancel_big call [] refl
