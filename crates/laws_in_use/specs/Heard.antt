-- Two messages that a server's end hears, the one in part, and what is gathered then.
use Rattle.std.specs.Prelude.{List, [], ◌∷◌, ◌++◌, take, drop, Ok, Result, Some}
use Rattle.giop_cdr.specs.declared.order.Order.TheVariants.{Big}
use Rattle.giop_ids.specs.declared.addressed.Addressed.{Addressed}
use Rattle.giop_msg.specs.declared.msg.Msg.{Msg}
use Rattle.giop_msg.specs.Msg.{message_octets}
use Rattle.giop_msg.specs.Stream.{Unread}
use Rattle.giop_calls.specs.declared.fault.CallFault.{CallFault}
use Rattle.giop_calls.specs.declared.kind.CallKind.TheVariants as kind
use Rattle.giop_calls.specs.declared.server.entry.ServerEntry.{ServerEntry}
use Rattle.giop_calls.specs.declared.server.entry.ServerEntry.TheVariants.{Gathering}
use Rattle.giop_calls.specs.declared.server.event.ServerEvent.{ServerEvent}
use Rattle.giop_calls.specs.declared.server.event.ServerEvent.TheVariants as event
use Rattle.giop_calls.specs.declared.server.heard.HeardCall.TheVariants as heard
use Rattle.giop_session.specs.declared.TableFault.{TableFault}
use Rattle.giop_session.specs.Calls.CallTable.{Act, Answers, Call, First, Hears, Nothing, Reply}
use Rattle.giop_session.specs.Hearing.Heard.{silently, silent}
use Rattle.laws_in_use.specs.Locating.{door_begins, door_ends, key, key_little}

-- the first piece of 7 and all of 9
abbrev pub begun_and_asked : List Msg
begun_and_asked = door_begins ∷ key_little ∷ []

-- in the other order
abbrev pub asked_and_begun : List Msg
asked_and_begun = key_little ∷ door_begins ∷ []

-- what 7 is then: its piece is gathered
abbrev pub gathering : Call ServerEntry
gathering = record {
  slot = Some (record { entry = Gathering kind.Locate; unsent = [] });
  pieces = Some (record { order = Big; octets = door_begins.payload });
}

-- the octets of both, and the beginning of a third message, which stays unread
abbrev pub reads : Unread
reads = record {
  limit = 64;
  octets = take 5 (message_octets door_begins) ++ (drop 5 (message_octets door_begins)
      ++ message_octets key_little ++ take 7 (message_octets door_ends));
}

-- which is left unread
abbrev pub unread : Unread
unread = record { limit = 64; octets = take 7 (message_octets door_ends) }

-- the same as acts on calls by id, in two orders, and what they return: nothing is sent
abbrev pub begins : Addressed (Act ServerEvent)
begins = record {
  id = 7;
  what = Hears (silently (event.First kind.Locate)) (First Big door_begins.payload);
}

-- the whole other one
abbrev pub asks : Addressed (Act ServerEvent)
asks = record { id = 9; what = Hears (silently (event.Whole (heard.Locate key))) Nothing }

-- what either returns
abbrev pub silence : Result (Reply ServerEntry (Unit {0})) (TableFault CallFault)
silence = Ok (Answers silent)
