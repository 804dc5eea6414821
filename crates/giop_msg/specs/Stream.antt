-- A stream of octets as messages, one after another, and a rest.
use Rattle.std.specs.Prelude.{◌≡◌, ℕ, ◌≤◌, ◌↔◌, ◌⊎◌, All, List, ◌++◌, Option, Some, length, take}
use Rattle.std.specs.List.{flat_map}
use Rattle.giop_msg.specs.declared.fault.WireFault.{WireFault}
use Rattle.giop_msg.specs.declared.msg.Msg.{Msg}
use Rattle.giop_msg.specs.declared.fault.WireKind.TheVariants.{NoMemory}
use Rattle.giop_msg.specs.Fault.{fault}
use Rattle.giop_msg.specs.Header.{header_fault}
use Rattle.giop_msg.specs.Msg.{IsMessage, message_octets}

-- the octets that are not yet taken as messages, and the greatest message size
pub record Unread : Type 0 where
  pub limit : ℕ
  pub octets : List ℕ

-- a whole message stands at the front of the octets
abbrev pub BeginsWithMessage : ℕ → List ℕ → Type 0
BeginsWithMessage limit octets =
    (m : Msg) × (more : List ℕ) × IsMessage limit m × (octets ≡ message_octets m ++ more)

-- this fault stands at the front of the octets: their first twelve are no header
abbrev pub BeginsWithFault : ℕ → List ℕ → WireFault → Type 0
BeginsWithFault limit octets e = (12 ≤ length octets) × (header_fault limit (take 12 octets) ≡ Some e)

-- neither a message nor a fault stands at the front of the unread octets
pub record Waits (unread : Unread) : Type 0 where
  pub no_message : BeginsWithMessage unread.limit unread.octets → ⊥
  pub no_fault : (e : WireFault) → BeginsWithFault unread.limit unread.octets e → ⊥

-- no message stands at the front of the unread octets, and this fault does, if there is one
pub record IsStopped (unread : Unread) (stands : Option WireFault) : Type 0 where
  pub no_message : BeginsWithMessage unread.limit unread.octets → ⊥
  pub fault_is : (e : WireFault) → (stands ≡ Some e) ↔ BeginsWithFault unread.limit unread.octets e

-- this message is taken away from the front of the unread octets
pub record TakesMessage (old : Unread) (m : Msg) (new : Unread) : Type 0 where
  pub is_message : IsMessage old.limit m
  pub octets : old.octets ≡ message_octets m ++ new.octets
  pub limit : new.limit ≡ old.limit

-- these messages are taken away from the front of the unread octets, in this order
pub record TakesMessages (old : Unread) (messages : List Msg) (new : Unread) : Type 0 where
  pub each : All (IsMessage old.limit) messages
  pub octets : old.octets ≡ flat_map message_octets messages ++ new.octets
  pub limit : new.limit ≡ old.limit

-- messages are taken away from the front of the unread octets, and appended to others
pub record AppendsTaken (old : Unread) (before : List Msg) (new : Unread) (after : List Msg) : Type 0 where
  pub taken : List Msg
  pub appended : after ≡ before ++ taken
  pub takes : TakesMessages old taken new

-- the fault stands at the front of the unread octets, or memory ran out for the message there
abbrev pub IsRefusal : Unread → WireFault → Type 0
IsRefusal unread e =
    BeginsWithFault unread.limit unread.octets e
    ⊎ ((e ≡ fault 0 NoMemory) × BeginsWithMessage unread.limit unread.octets)

-- the stream is these messages and then a rest, which begins with no message
pub record Msgs (limit : ℕ) (stream : List ℕ) (messages : List Msg) (rest : List ℕ) : Type 0 where
  pub whole : stream ≡ flat_map message_octets messages ++ rest
  pub each : All (IsMessage limit) messages
  pub partial : BeginsWithMessage limit rest → ⊥
