-- What is on its way from one end to the other: messages that were put out and aren't taken yet
-- (CORBA 3.3 Part 2, 9.4.1).
use Rattle.std.specs.Prelude.{◌≡◌, ℕ, ◌-◌, ◌^◌, All, List, ◌++◌, Some, Ok}
use Rattle.std.specs.List.{flat_map}
use Rattle.giop_msg.specs.Msg.{IsMessage, message_octets}
use Rattle.giop_msg.specs.RequestId.{request_id_of}
use Rattle.giop_msg.specs.Stream.{Unread, Waits}
use Rattle.giop_msg.specs.declared.msg.Msg.{Msg}
use Rattle.giop_calls.specs.declared.client.call.Call.{Call}
use Rattle.giop_calls.specs.declared.client.call.Call.TheVariants as asked

-- a message that a framer of the largest limit reads: of any size that a header can tell
abbrev pub IsFramed : Msg → Type 0
IsFramed m = IsMessage (2 ^ 32 - 1) m

-- these messages are on their way to an end that has this unread, and waits for more, where these
-- octets are outgoing at the other: what came of them and what is to come are their octets
pub record OnTheWay (unread : Unread) (messages : List Msg) (outgoing : List ℕ) : Type 0 where
  pub each : All IsFramed messages
  pub octets : flat_map message_octets messages ≡ unread.octets ++ outgoing
  pub waits : Waits unread

-- the request id of a call
abbrev pub id_of : Call → ℕ
id_of (asked.Request q) = q.head.id
id_of (asked.Locate q) = q.id

-- a message has this request id, and nothing before it is at fault (9.4.2 to 9.4.9)
abbrev pub Names : ℕ → Msg → Type 0
Names id m = request_id_of m ≡ Some (Ok id)
