-- A client asks where two objects are, under the ids 7 and 9, and is answered in two ways: other
-- reads, other pieces, another byte order, and the messages of the one id elsewhere between those
-- of the other.
use Rattle.std.specs.Prelude.{ℕ, true, false, ◌==◌, if◌then◌else◌, List, [], ◌∷◌, ◌++◌, take, drop}
use Rattle.giop_cdr.specs.declared.order.Order.TheVariants.{Big, Little}
use Rattle.giop_msg.specs.declared.kind.Kind.TheVariants.{Fragment, LocateReply}
use Rattle.giop_msg.specs.declared.messages.locate_reply.LocateReply.{LocateReply as Told}
use Rattle.giop_msg.specs.declared.msg.Msg.{Msg}
use Rattle.giop_msg.specs.declared.version.Version.TheVariants.{V10, V12}
use Rattle.giop_msg.specs.Cut.{message_of}
use Rattle.giop_msg.specs.Msg.{message_octets}
use Rattle.giop_mux.specs.Runs.{Hears}
use Rattle.giop_calls.specs.declared.client.call.Call.TheVariants as asked
use Rattle.giop_calls.specs.declared.client.event.ClientEvent.{ClientEvent}
use Rattle.giop_calls.specs.declared.client.event.ClientEvent.TheVariants as event
use Rattle.giop_calls.specs.declared.client.heard.HeardReply.TheVariants as heard
use Rattle.giop_calls.specs.declared.kind.CallKind.TheVariants as kind
use Rattle.giop_session.specs.declared.Plan.TheVariants.{Next, Put}
use Rattle.giop_session.specs.Items.Carries.{Bad, Did, Got}
use Rattle.giop_session.specs.Items.ClientCarries.{ClientItem}
use Rattle.giop_session.specs.Runs.Events.{Local}
use Rattle.giop_session.specs.Runs.Inputs.{Does, Input, Reads}
use Rattle.laws_in_use.specs.Locating.{cancel_big, cancel_little, door, door_begins, door_ends, here_little, key, key_big, key_little}

-- the client asks where `door` is, in two messages
abbrev pub asking : Local ClientEvent
asking = Hears (record {
  event = event.Call (asked.Locate door) 2;
  plan = Put (door_begins ∷ door_ends ∷ []);
})

-- and the second of these
abbrev pub sending : Local ClientEvent
sending = Hears (record { event = event.Send; plan = Next })

-- and where `k` is, in one
abbrev pub asking_key : Msg → Local ClientEvent
asking_key m = Hears (record { event = event.Call (asked.Locate key) 1; plan = Put (m ∷ []) })

-- it cancels that
abbrev pub cancelling : Msg → Local ClientEvent
cancelling m = Hears (record { event = event.Cancel; plan = Put (m ∷ []) })

-- `door` is here: big-endian in two messages
abbrev pub here_begins : Msg
here_begins = message_of V12 LocateReply Big true (0 ∷ 0 ∷ 0 ∷ 7 ∷ [])

-- its Fragment, with the status OBJECT_HERE
abbrev pub here_ends : Msg
here_ends = message_of V12 Fragment Big false (0 ∷ 0 ∷ 0 ∷ 7 ∷ 0 ∷ 0 ∷ 0 ∷ 1 ∷ [])

-- `k` isn't: big-endian; that comes behind the cancel
abbrev pub unknown_big : Msg
unknown_big = message_of V10 LocateReply Big false (0 ∷ 0 ∷ 0 ∷ 9 ∷ 0 ∷ 0 ∷ 0 ∷ 0 ∷ [])

-- and little-endian
abbrev pub unknown_little : Msg
unknown_little = message_of V10 LocateReply Little false (9 ∷ 0 ∷ 0 ∷ 0 ∷ 0 ∷ 0 ∷ 0 ∷ 0 ∷ [])

-- the id is used again, and answered by octets that spell no LocateReply: the status lacks one
abbrev pub short_octets : List ℕ
short_octets = 0 ∷ 0 ∷ 0 ∷ 9 ∷ 0 ∷ 0 ∷ 0 ∷ []

-- they come as a message of 1.0
abbrev pub short : Msg
short = message_of V10 LocateReply Big false short_octets

-- what the client does itself the first way: it asks under 7 and under 9, cancels under 9, sends
-- under 7, and asks under 9 again
pub record Acts : Type 0 where
  pub asks : Local ClientEvent
  pub asks_key : Local ClientEvent
  pub cancels : Local ClientEvent
  pub sends : Local ClientEvent
  pub asks_again : Local ClientEvent

-- as they are here
abbrev pub own_acts : Acts
own_acts = record {
  asks = asking;
  asks_key = asking_key key_little;
  cancels = cancelling cancel_little;
  sends = sending;
  asks_again = asking_key key_big;
}

-- the first way: a read ends within the first piece of the one answer and another within its
-- second, and the late answer under the id 9 comes between them
abbrev pub one_way_by : Acts → List (Input ClientEvent)
one_way_by acts =
    Does 7 acts.asks
    ∷ Does 9 acts.asks_key
    ∷ Does 9 acts.cancels
    ∷ Reads (take 5 (message_octets here_begins))
    ∷ Does 7 acts.sends
    ∷ Reads (drop 5 (message_octets here_begins) ++ message_octets unknown_little
    ++ take 7 (message_octets here_ends))
    ∷ Does 9 acts.asks_again
    ∷ Reads (drop 7 (message_octets here_ends) ++ message_octets short)
    ∷ []

-- by these acts
abbrev pub one_way : List (Input ClientEvent)
one_way = one_way_by own_acts

-- the other: all that is said under the id 9 comes first but for its last answer
abbrev pub other_way : List (Input ClientEvent)
other_way =
    Does 9 (asking_key key_big)
    ∷ Does 9 (cancelling cancel_big)
    ∷ Reads (message_octets unknown_big)
    ∷ Does 9 (asking_key key_little)
    ∷ Does 7 asking
    ∷ Does 7 sending
    ∷ Reads (message_octets short ++ message_octets here_little)
    ∷ []

-- what is answered of 7
abbrev pub here : Told
here = record { head = record { version = V12; id = 7; status = 1 }; rest = [] }

-- and of 9
abbrev pub unknown_key : Told
unknown_key = record { head = record { version = V10; id = 9; status = 0 }; rest = [] }

-- what both ways say of 7
abbrev pub told_of_seven : List ClientItem
told_of_seven = Did (Hears (event.Call (asked.Locate door) 2)) ∷ Did (Hears event.Send)
    ∷ Got (heard.Locate here) ∷ []

-- of 9: the late answer comes between the cancel and the second asking
abbrev pub told_of_nine : List ClientItem
told_of_nine = Did (Hears (event.Call (asked.Locate key) 1)) ∷ Did (Hears event.Cancel)
    ∷ Got (heard.Locate unknown_key) ∷ Did (Hears (event.Call (asked.Locate key) 1))
    ∷ Bad kind.Locate V10 Big short_octets ∷ []

-- and of no other id anything
abbrev pub told : ℕ → List ClientItem
told id = if id == 7 then told_of_seven else if id == 9 then told_of_nine else []
