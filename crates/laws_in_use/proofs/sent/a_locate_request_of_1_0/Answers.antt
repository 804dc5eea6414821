use Rattle.std.proofs.Common.{◌≡◌, ap, false, Some, None, refl, subst}
use Rattle.giop_cdr.specs.declared.order.Order.TheVariants.{Big, Little}
use Rattle.giop_msg.specs.declared.msg.Msg.{Msg}
use Rattle.giop_msg.specs.declared.version.Version.TheVariants.{V10}
use Rattle.giop_calls.specs.Lane.{CutsLocated}
use Rattle.giop_calls.specs.declared.client.call.Call.TheVariants as asked
use Rattle.giop_calls.specs.declared.server.event.ServerEvent.{ServerEvent}
use Rattle.giop_session.specs.declared.Planned.{Planned}
use Rattle.giop_session.specs.Worlds.Coding.{coding}
use Rattle.giop_session.specs.Worlds.OwnLane.{alone}
use Rattle.laws_in_use.specs.Asking.{unknown_big}
use Rattle.laws_in_use.specs.Locating.{cancel_little, key, key_big}
use Rattle.laws_in_use.specs.Sent.{answers_key, asks_key}
use Rattle.laws_in_use.proofs.SentPlans.{answers_it_so, answers_so, asks_key_so, cancels_so, read_of}
use Rattle.laws_in_use.proofs.sent.a_locate_request_of_1_0.Goals as goal

pub returns-clause-asks : goal.returns-clause-asks
returns-clause-asks c = asks_key_so

pub returns-clause-answers : goal.returns-clause-answers
returns-clause-answers c = answers_so

pub returns-clause-sends : goal.returns-clause-sends
returns-clause-sends c = answers_so

pub returns-clause-answers_it : goal.returns-clause-answers_it
returns-clause-answers_it c = answers_it_so

pub returns-clause-cancels : goal.returns-clause-cancels
returns-clause-cancels c = cancels_so

pub returns-clause-read : goal.returns-clause-read
returns-clause-read c = λ interface.
    let (cut, same, cuts) = c.what_is_sent_is_read.ensures.call interface None (asked.Locate key) asks_key (asks_key_so interface) in
    read_of (coding interface) (asked.Locate key) cut (alone key_big) same cuts

pub returns-clause-read_back : goal.returns-clause-read_back
returns-clause-read_back c = λ interface.
    let (piece, told, same, cuts) = c.what_is_sent_is_read.ensures.located interface key false answers_key answers_so in
    let plans = ap (λ (p : Planned ServerEvent). p.plan) same in
    let one : piece ≡ unknown_big = cc in
    let known = subst (λ (piece : Msg). CutsLocated (coding interface) key false piece told) one cuts in
    (told, known.read, known.status, known.no_rest)

pub returns-clause-carried : goal.returns-clause-carried
returns-clause-carried c = λ interface.
    c.what_is_sent_is_a_lanes.ensures.call interface None (asked.Locate key) (alone key_big) (asks_key_so interface)

pub returns-clause-carried_back : goal.returns-clause-carried_back
returns-clause-carried_back c = λ interface. c.what_is_sent_is_a_lanes.ensures.located interface key false unknown_big answers_so

pub returns-clause-framed : goal.returns-clause-framed
returns-clause-framed c = λ interface.
    c.what_is_sent_is_framed.ensures.call interface None (asked.Locate key) (alone key_big) (asks_key_so interface)

pub returns-clause-framed_back : goal.returns-clause-framed_back
returns-clause-framed_back c = λ interface. c.what_is_sent_is_framed.ensures.located interface key false unknown_big answers_so

pub returns-clause-framed_too : goal.returns-clause-framed_too
returns-clause-framed_too c = c.what_is_sent_is_framed.ensures.cancelled 9 Little V10 cancel_little cancels_so

pub returns-clause-named : goal.returns-clause-named
returns-clause-named c = λ interface.
    c.what_is_sent_names_its_id.ensures.call interface None (asked.Locate key) (alone key_big) (asks_key_so interface)

pub returns-clause-named_back : goal.returns-clause-named_back
returns-clause-named_back c = c.what_is_sent_names_its_id.ensures.located 9 false Big V10 unknown_big answers_it_so

pub returns-clause-named_too : goal.returns-clause-named_too
returns-clause-named_too c = c.what_is_sent_names_its_id.ensures.cancelled 9 Little V10 cancel_little cancels_so

pub returns-clause-item : goal.returns-clause-item
returns-clause-item c = λ interface there.
    c.what_is_sent_is_an_item.ensures.locate interface None key (alone key_big) there (asks_key_so interface)

pub returns-clause-waits : goal.returns-clause-waits
returns-clause-waits c = refl

pub returns-clause-item_back : goal.returns-clause-item_back
returns-clause-item_back c = λ interface.
    let (told, carried, says) = c.what_is_sent_is_an_item.ensures.located interface key false unknown_big
    (record { entry = None; latest = Some (asked.Locate key) }) refl answers_so in
    (told, carried, says.0, says.1)
