use Rattle.std.proofs.Common.{Some, None, refl}
use Rattle.giop_msg.specs.declared.version.Version.TheVariants.{V12}
use Rattle.giop_calls.specs.declared.client.call.Call.TheVariants as asked
use Rattle.giop_calls.specs.declared.server.event.ServerEvent.TheVariants as at_server
use Rattle.giop_session.specs.Worlds.Coding.{coding}
use Rattle.giop_session.specs.Worlds.OwnLane.{sends_cut}
use Rattle.laws_in_use.specs.Exchange.{ping}
use Rattle.laws_in_use.specs.Framed.{refusing}
use Rattle.laws_in_use.specs.Pinged.{refusal_cut}
use Rattle.laws_in_use.proofs.PingPlans.{refuses_in_two, reply_of}
use Rattle.laws_in_use.proofs.pinged.a_reply_in_two_pieces.Goals as goal

pub returns-clause-planned : goal.returns-clause-planned
returns-clause-planned c = refuses_in_two

pub returns-clause-read : goal.returns-clause-read
returns-clause-read c = λ interface.
    let (cut, same, cuts) = c.what_is_sent_is_read.ensures.reply interface (ping V12) refusing
    (sends_cut (at_server.Answer refusing) refusal_cut) (refuses_in_two interface) in
    reply_of (coding interface) cut refusal_cut same cuts

pub returns-clause-carried : goal.returns-clause-carried
returns-clause-carried c = λ interface.
    c.what_is_sent_is_a_lanes.ensures.reply interface (ping V12) refusing refusal_cut (refuses_in_two interface)

pub returns-clause-framed : goal.returns-clause-framed
returns-clause-framed c = λ interface.
    c.what_is_sent_is_framed.ensures.reply interface (ping V12) refusing refusal_cut (refuses_in_two interface)

pub returns-clause-named : goal.returns-clause-named
returns-clause-named c = λ interface.
    c.what_is_sent_names_its_id.ensures.reply interface (ping V12) refusing refusal_cut (refuses_in_two interface)

pub returns-clause-item : goal.returns-clause-item
returns-clause-item c = λ interface.
    c.what_is_sent_is_an_item.ensures.reply interface (ping V12) refusing refusal_cut
    (record { entry = None; latest = Some (asked.Request (ping V12)) }) refl (refuses_in_two interface)
