-- What feeding octets to an end does: its messages are heard one after another, up to the first
-- that is refused.
use Rattle.std.specs.Prelude.{◌≡◌, ◌⊎◌, ℕ, ◌++◌, List, [], ◌∷◌, Option, Some, None, Result, Ok, Err}
use Rattle.giop_msg.specs.declared.fault.WireFault.{WireFault}
use Rattle.giop_msg.specs.declared.msg.Msg.{Msg}
use Rattle.giop_msg.specs.Stream.{BeginsWithFault, TakesMessage, TakesMessages, Unread, Waits}
use Rattle.giop_end.specs.declared.session_fault.SessionFault.{SessionFault}
use Rattle.giop_end.specs.declared.session_fault.SessionFault.TheVariants.{NoMemory, Wire}

-- no octet is unread, where messages may be of this size
abbrev pub nothing_unread : ℕ → Unread
nothing_unread limit = record { limit = limit; octets = [] }

-- the octets that are unread once these are fed
abbrev pub with_octets : Unread → List ℕ → Unread
with_octets unread octets = record unread { octets = unread.octets ++ octets }

-- S is the calls of an end, and `Hears m h result k` says that it hears a message so
module _ {S : Type 0} (Hears : Msg → S → Result (Unit {0}) SessionFault → S → Type 0) where
  -- each of these messages is heard and none refused
  abbrev pub Through : S → List Msg → S → Type 0
  Through h [] k = k ≡ h
  Through h (m ∷ messages) k = (mid : S) × Hears m h (Ok tt) mid × Through mid messages k

  -- why an end reads no further: neither a message nor a fault stands in front of what is unread;
  -- or a fault does; or a message that is refused, and is taken away; or it is out of memory
  abbrev pub Stops : Unread → S → Result (Unit {0}) SessionFault → Unread → Type 0
  Stops unread k (Ok done) left = Waits unread × (left ≡ unread)
  Stops unread k (Err why) left =
      (why ≡ NoMemory)
      ⊎ (((e : WireFault) × BeginsWithFault unread.limit unread.octets e × (why ≡ Wire e)
      × (left ≡ unread))
      ⊎ ((m : Msg) × TakesMessage unread m left × Hears m k (Err why) k))

  -- octets are fed behind those that are unread: these messages are heard, and then it stops so
  pub record Fed (unread : Unread) (h : S) (result : Result (Unit {0}) SessionFault)
      (left : Unread) (k : S) : Type 0 where
    pub messages : List Msg
    pub rest : Unread
    pub taken : TakesMessages unread messages rest
    pub heard : Through h messages k
    pub stops : Stops rest k result left

  -- octets are fed, of which none are refused, and then more: that is to feed both at once
  abbrev pub FedInTurn : (unread left last : Unread) → (h mid k : S) → List ℕ
      → Result (Unit {0}) SessionFault → Type 0
  FedInTurn unread left last h mid k more result = Fed unread h (Ok tt) left mid
      → Fed (with_octets left more) mid result last k → Fed
      (with_octets unread more) h result last k

-- the fault that stands at an end that answers this
abbrev pub standing : Result (Unit {0}) SessionFault → Option SessionFault
standing (Ok done) = None
standing (Err why) = Some why
