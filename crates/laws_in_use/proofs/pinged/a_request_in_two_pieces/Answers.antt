use Rattle.std.proofs.Common.{None}
use Rattle.giop_msg.specs.declared.version.Version.TheVariants.{V12}
use Rattle.giop_calls.specs.declared.client.call.Call.TheVariants as asked
use Rattle.giop_calls.specs.declared.client.event.ClientEvent.TheVariants as at_client
use Rattle.giop_session.specs.Worlds.Coding.{coding}
use Rattle.giop_session.specs.Worlds.OwnLane.{sends_cut}
use Rattle.laws_in_use.specs.Exchange.{ping}
use Rattle.laws_in_use.specs.Pinged.{ping_cut}
use Rattle.laws_in_use.proofs.PingPlans.{pings_in_two}
use Rattle.laws_in_use.proofs.SentPlans.{read_of}
use Rattle.laws_in_use.proofs.pinged.a_request_in_two_pieces.Goals as goal

pub returns-clause-planned : goal.returns-clause-planned
returns-clause-planned c = pings_in_two

pub returns-clause-read : goal.returns-clause-read
returns-clause-read c = λ interface has.
    let (cut, same, cuts) = c.what_is_sent_is_read.ensures.call interface None (asked.Request (ping V12))
    (sends_cut (at_client.Call (asked.Request (ping V12))) ping_cut) (pings_in_two interface has) in
    read_of (coding interface) (asked.Request (ping V12)) cut ping_cut same cuts

pub returns-clause-carried : goal.returns-clause-carried
returns-clause-carried c = λ interface has.
    c.what_is_sent_is_a_lanes.ensures.call interface None (asked.Request (ping V12)) ping_cut (pings_in_two interface has)

pub returns-clause-framed : goal.returns-clause-framed
returns-clause-framed c = λ interface has.
    c.what_is_sent_is_framed.ensures.call interface None (asked.Request (ping V12)) ping_cut (pings_in_two interface has)

pub returns-clause-named : goal.returns-clause-named
returns-clause-named c = λ interface has.
    c.what_is_sent_names_its_id.ensures.call interface None (asked.Request (ping V12)) ping_cut (pings_in_two interface has)

pub returns-clause-item : goal.returns-clause-item
returns-clause-item c = λ interface there has.
    c.what_is_sent_is_an_item.ensures.request interface None (ping V12) ping_cut there (pings_in_two interface has)
