use Rattle.std.proofs.Common.{None}
use Rattle.giop_calls.specs.declared.client.call.Call.TheVariants as asked
use Rattle.giop_session.specs.Worlds.Coding.{coding}
use Rattle.laws_in_use.specs.Locating.{door}
use Rattle.laws_in_use.specs.Sent.{asks_door, door_cut}
use Rattle.laws_in_use.proofs.SentPlans.{asks_door_so, read_of}
use Rattle.laws_in_use.proofs.sent.a_locate_request_in_two_pieces.Goals as goal

pub returns-clause-asks : goal.returns-clause-asks
returns-clause-asks c = asks_door_so

pub returns-clause-read : goal.returns-clause-read
returns-clause-read c = λ interface.
    let (cut, same, cuts) = c.what_is_sent_is_read.ensures.call interface None (asked.Locate door) asks_door (asks_door_so interface) in
    read_of (coding interface) (asked.Locate door) cut door_cut same cuts

pub returns-clause-carried : goal.returns-clause-carried
returns-clause-carried c = λ interface.
    c.what_is_sent_is_a_lanes.ensures.call interface None (asked.Locate door) door_cut (asks_door_so interface)

pub returns-clause-framed : goal.returns-clause-framed
returns-clause-framed c = λ interface.
    c.what_is_sent_is_framed.ensures.call interface None (asked.Locate door) door_cut (asks_door_so interface)

pub returns-clause-named : goal.returns-clause-named
returns-clause-named c = λ interface.
    c.what_is_sent_names_its_id.ensures.call interface None (asked.Locate door) door_cut (asks_door_so interface)
