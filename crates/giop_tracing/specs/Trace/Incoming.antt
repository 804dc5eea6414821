-- What a direction brings, message by message, by the octets of it that are not heard yet.
use Rattle.std.specs.Prelude.{◌≡◌, ℕ, List, [], ◌∷◌, Option, None}
use Rattle.std.specs.Io.KnownBytes.{prepend_known}
use Rattle.giop_msg.specs.declared.fault.WireFault.{WireFault}
use Rattle.giop_msg.specs.declared.msg.Msg.{Msg}
use Rattle.giop_msg.specs.Stream.{Unread}
use Rattle.giop_show.specs.Rest.{rest_fault}
use Rattle.giop_tracing.specs.Trace.Text.{AreMessages}

-- the octets that are not heard yet, where those that are not read yet are known
abbrev pub unheard : Unread → Option (List ℕ) → Option (List ℕ)
unheard unread left = prepend_known unread.octets left

-- octets that were these messages are now these others
pub record Passes (limit : ℕ) (new : Option (List ℕ)) (passed : List Msg → List Msg)
    (messages : List Msg) (rest : List ℕ) : Type 0 where
  pub later : List Msg
  pub front : messages ≡ passed later
  pub behind : AreMessages limit new later rest

-- a message is the first of those that are not heard, and the others are left
abbrev pub IsNext : ℕ → Option (List ℕ) → Option (List ℕ) → Msg → Type 0
IsNext limit old new m = (messages : List Msg) (rest : List ℕ)
    → AreMessages limit old messages rest
    → Passes limit new (λ later. m ∷ later) messages rest

-- a direction ends with this rest: the fault in the header that begins it, or else all of it is
-- unread
pub record EndsWith (limit : ℕ) (rest : List ℕ) (fault : Option WireFault) (unread : List ℕ)
    : Type 0 where
  pub stands : fault ≡ rest_fault limit rest
  pub left : fault ≡ None → unread ≡ rest

-- no message is left
pub record IsEnd (limit : ℕ) (new : Option (List ℕ)) (messages : List Msg) (rest : List ℕ)
    (fault : Option WireFault) (unread : List ℕ) : Type 0 where
  pub none : messages ≡ []
  pub behind : AreMessages limit new [] rest
  pub ends : EndsWith limit rest fault unread

abbrev pub IsLast : ℕ → Option (List ℕ) → Option (List ℕ) → Option WireFault → List ℕ → Type 0
IsLast limit old new fault unread = (messages : List Msg) (rest : List ℕ)
    → AreMessages limit old messages rest → IsEnd limit new messages rest fault unread
