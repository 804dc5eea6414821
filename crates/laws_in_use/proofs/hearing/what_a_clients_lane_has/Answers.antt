use Rattle.std.proofs.Common.{◌≡◌, ◌∙◌, ap, sym, [], refl, true}
use Rattle.giop_msg.specs.declared.version.Version.TheVariants.{V12}
use Rattle.giop_calls.specs.declared.client.call.Call.TheVariants as asked
use Rattle.giop_calls.specs.declared.client.event.ClientEvent.{ClientEvent}
use Rattle.giop_calls.specs.declared.client.event.ClientEvent.TheVariants as event
use Rattle.giop_calls.specs.declared.client.heard.HeardReply.TheVariants as heard
use Rattle.giop_calls.specs.declared.kind.CallKind.TheVariants as kind
use Rattle.giop_session.specs.Calls.CallTable.{Hears, More}
use Rattle.giop_session.specs.Hearing.Heard.{behind_id, silently}
use Rattle.laws_in_use.specs.Asking.{here, here_ends}
use Rattle.laws_in_use.specs.Hearing.{here_begun, here_standing, waiting, waits}
use Rattle.laws_in_use.specs.Locating.{door, here_little}
use Rattle.laws_in_use.proofs.AskingMessages.{decoded}
use Rattle.laws_in_use.proofs.hearing.what_a_clients_lane_has.Goals as goal

pub returns-clause-opens : goal.returns-clause-opens
returns-clause-opens c = λ interface.
    let (brings, (heard_it, lane, act_by)) =
    c.clients_hear_the_lanes_event.ensures.opens interface kind.Locate (asked.Locate door) here_little waits waiting refl refl refl in
    let is : event.Whole kind.Locate V12 (heard.Locate here) ≡ heard_it =
    let read = (decoded interface).here_little in cc in
    (brings, act_by ∙ ap (λ (e : ClientEvent). Hears (silently e) brings) (sym is))

pub returns-clause-gathers : goal.returns-clause-gathers
returns-clause-gathers c = (refl, refl)

pub returns-clause-continues : goal.returns-clause-continues
returns-clause-continues c = λ interface.
    let (heard_it, lane, act_by) =
    c.clients_hear_the_lanes_event.ensures.continues interface (asked.Locate door) here_begun here_ends [] here_standing (refl, refl) (refl, refl) in
    let is : event.Last true (heard.Locate here) ≡ heard_it =
    let read = (decoded interface).here_joined in cc in
    act_by ∙ ap (λ (e : ClientEvent). Hears (silently e) (More (behind_id here_ends))) (sym is)
