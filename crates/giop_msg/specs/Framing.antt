-- What a framer holds of its unread octets: a large message that comes in parts, by itself, and
-- the octets behind it (CORBA 3.3 Part 2, 9.4.1).
use Rattle.std.specs.Prelude.{◌≡◌, ℕ, ◌<◌, ◌≤◌, ◌^◌, List, [], ◌++◌, Option, None, Some, Result, Err, IfOk, IfErr, IfSome, IfNone, OnErr, length}
use Rattle.giop_msg.specs.declared.fault.WireFault.{WireFault}
use Rattle.giop_msg.specs.declared.framer.begun.Begun.{Begun}
use Rattle.giop_msg.specs.declared.header.Header.{Header}
use Rattle.giop_msg.specs.declared.msg.Msg.{Msg}
use Rattle.giop_msg.specs.Header.{header_octets, header_fault}
use Rattle.giop_msg.specs.Stream.{BeginsWithFault, IsRefusal, TakesMessage, Unread, Waits}

-- the octets of the payload that came so far
abbrev pub payload_so_far : Begun → List ℕ
payload_so_far b = b.payload.items

-- the octets that came of the message, its header's first
abbrev pub begun_octets : Begun → List ℕ
begun_octets b = header_octets b.header ++ payload_so_far b

-- the message of a header and its payload
abbrev pub message_of : Header → List ℕ → Msg
message_of h payload = record {
  version = h.version;
  order = h.order;
  more = h.more;
  kind = h.kind;
  payload = payload;
}

-- the message stands before these octets: its header is sound, no more of its payload came than
-- the header says, and octets are behind it only where all of it did
pub record IsBefore (b : Begun) (behind : Unread) : Type 0 where
  pub sized : b.header.size < 2 ^ 32
  pub sound : header_fault behind.limit (header_octets b.header) ≡ None
  pub within : length (payload_so_far b) ≤ b.header.size
  pub last : length (payload_so_far b) < b.header.size → behind.octets ≡ []

-- what is unread: the message that came in part, where there is one, and the octets behind it
abbrev pub with_begun : Option Begun → Unread → Unread
with_begun None behind = behind
with_begun (Some b) behind = record behind { octets = begun_octets b ++ behind.octets }

-- such a message stands before the octets behind it, where there is one
abbrev pub CanStand : Option Begun → Unread → Type 0
CanStand None behind = Unit {0}
CanStand (Some b) behind = IsBefore b behind

-- a call takes the first message off unread octets, or leaves them as they are
pub record TakesFirst (old : Unread) (result : Result (Option Msg) WireFault)
    (new : Unread) : Type 0 where
  -- what is returned was at the front; None leaves what is no message yet
  pub found : IfOk result (λ o. IfSome o (λ m. TakesMessage old m new))
  pub waits : IfOk result (λ o. IfNone o (Waits old × (new ≡ old)))
  -- a fault at the front is returned, and only such a one, or out of memory for a message
  pub exact : (e : WireFault) → BeginsWithFault old.limit old.octets e → result ≡ Err e
  pub err : IfErr result (IsRefusal old)
  pub kept : OnErr result (new ≡ old)
