-- What is known of a call: the joined octets of its messages (CORBA 3.3 Part 2, 9.4.9), and when it
-- is over.
use Rattle.std.specs.Prelude.{ℕ, ◌==◌, ◌&&◌, ◌||◌, Bool, true, false, not, List, ◌++◌, drop, Option, Some, None, Result, Ok, Err, is_none}
use Rattle.giop_cdr.specs.declared.fault.CdrFault.{CdrFault}
use Rattle.giop_cdr.specs.declared.order.Order.{Order}
use Rattle.giop_cdr.specs.declared.order.Order.TheVariants.{Big, Little}
use Rattle.giop_msg.specs.declared.kind.Kind.{Kind}
use Rattle.giop_msg.specs.declared.kind.Kind.TheVariants.{Request, Reply, LocateReply}
use Rattle.giop_msg.specs.declared.msg.Msg.{Msg}
use Rattle.giop_msg.specs.Joined.{body_place, head_of_joined}
use Rattle.giop_msg.specs.RequestHead.{Head, request_head}
use Rattle.giop_trace.specs.declared.flow.Flow.{Flow}

-- the octets of a Fragment behind its request id, which is its first four
abbrev pub behind_id : Msg → List ℕ
behind_id m = drop 4 m.payload

-- a message with a Fragment that continues it
abbrev pub joined : Msg → Msg → Msg
joined m fragment = record m {
  payload = m.payload ++ behind_id fragment;
  more = fragment.more;
}

-- whether two byte orders are the same
abbrev pub same_order : Order → Order → Bool
same_order Big Big = true
same_order Little Little = true
same_order Big Little = false
same_order Little Big = false

-- whether a Fragment continues a message: more of it is to come, and in that byte order
abbrev pub continues : Option Msg → Msg → Bool
continues None fragment = false
continues (Some m) fragment = m.more && same_order m.order fragment.order

-- whether all pieces of a message came
abbrev pub is_whole : Option Msg → Bool
is_whole None = false
is_whole (Some m) = not m.more

-- whether no reply is expected (9.4.2), by the head of a Request: where that can't be read, one is
abbrev pub is_oneway_by : Result (Head × ℕ) CdrFault → Bool
is_oneway_by (Ok head) = head.0.flags == 0
is_oneway_by (Err e) = false

-- whether no reply is expected to a message
abbrev pub is_oneway : Kind → Msg → Bool
is_oneway Request m = is_oneway_by
    (head_of_joined (request_head m.version) (body_place m.version) m.order m.payload)
is_oneway _ m = false

-- whether nothing is awaited once the request came: it is a oneway, or the client is heard alone
abbrev pub is_told : Bool → Option Msg → Bool
is_told alone None = false
is_told alone (Some m) = not m.more && (alone || is_oneway m.kind m)

-- whether a call is over: its answer came, or its request did and none is awaited
abbrev pub is_over_by : Bool → Option Msg → Option Msg → Bool
is_over_by alone asked (Some answer) = not answer.more
is_over_by alone asked None = is_told alone asked

abbrev pub is_over : Bool → Flow → Bool
is_over alone flow = is_over_by alone flow.asked flow.answer

-- whether a call waits for its answer: its request came, and nothing of an answer
abbrev pub is_waiting : Option Flow → Bool
is_waiting None = false
is_waiting (Some flow) = is_whole flow.asked && is_none flow.answer

-- whether a message of the kind answers a call (9.4.3, 9.4.6)
abbrev pub is_answer : Kind → Bool
is_answer Reply = true
is_answer LocateReply = true
is_answer _ = false
