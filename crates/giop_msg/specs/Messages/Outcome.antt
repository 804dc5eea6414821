-- What a call says that reads a whole message from its joined octets, or writes it.
use Rattle.std.specs.Prelude.{◌≡◌, ◌⊎◌, ◌↔◌, [], ℕ, List, Vec, Result, Ok, Err, IfOk, IsOk, IsErrOf, false}
use Rattle.std.specs.declared.alloc.Global.{Global}
use Rattle.giop_cdr.specs.declared.encode_fault.EncodeFault.{EncodeFault}
use Rattle.giop_cdr.specs.declared.encode_fault.EncodeFault.TheVariants.{Unfit}
use Rattle.giop_cdr.specs.declared.order.Order.{Order}
use Rattle.giop_cdr.specs.declared.fault.CdrFault.{CdrFault}
use Rattle.giop_cdr.specs.declared.fault.CdrKind.TheVariants.{NoMemory}
use Rattle.giop_cdr.specs.Ending.{Ending}
use Rattle.giop_cdr.specs.Layout.{AreOctets}
use Rattle.giop_cdr.specs.Writing.Output.{Output}
use Rattle.giop_msg.specs.Joined.{joined_from, no_memory}

-- where joined octets begin to be written
abbrev pub joined_into : Order → Output
joined_into order = record { order = order; at = 12; octets = [] }

-- this message is returned, or the call is out of memory
abbrev pub IsTold : {A : Type 0} → Result A CdrFault → A → Type 0
IsTold (Ok told) message = told ≡ message
IsTold (Err e) message = e ≡ no_memory

-- a call returns what reading gives; or it is out of memory, where reading gives a message
abbrev pub Decodes : {A : Type 0} → Result A CdrFault → Result A CdrFault → Type 0
Decodes (Ok message) reading = reading ≡ Ok message
Decodes (Err e) reading = (reading ≡ Err e) ⊎ ((e ≡ no_memory) × IsOk reading)

-- a step of such a call: where it is out of memory nothing else is known
abbrev pub FollowsToEnd : {A : Type 0} → Result A CdrFault → Result A CdrFault → Type 0
FollowsToEnd (Ok value) reading = reading ≡ Ok value
FollowsToEnd (Err e) reading = (reading ≡ Err e) ⊎ (e.kind ≡ NoMemory)

-- a call that keeps no value: it goes well where reading gives a message, and else returns its
-- refusal
abbrev pub Checks : {X A E : Type 0} → Result X E → Result A E → Type 0
Checks (Ok _) reading = IsOk reading
Checks (Err e) reading = reading ≡ Err e

-- a call reads the message that joined octets are
pub record DecodesMessage {A : Type 0} (message : Ending A) (order : Order) (joined : List ℕ)
    (result : Result A CdrFault) : Type 0 where
  -- what is returned is what the octets spell, and what they spell is returned
  pub found : IfOk result (λ v. message.spells order 12 v joined)
  pub only : (v : A) → message.spells order 12 v joined → IsTold result v
  -- which refusal it is
  pub exact : Decodes result (message.read (joined_from order joined))

-- a call returns the joined octets of a message, in a byte order
pub record EncodesMessage {A : Type 0} (message : Ending A) (v : A) (order : Order)
    (result : Result (Vec ℕ Global) EncodeFault) : Type 0 where
  pub value : IfOk result (λ octets.
      octets.items ≡ (message.written v (joined_into order)).octets)
  -- Unfit is what doesn't fit, and then no octets spell it
  pub err : IsErrOf result Unfit ↔ (message.fits v ≡ false)
  pub unfit : IsErrOf result Unfit → (order : Order) (at : ℕ) (octets : List ℕ)
      → AreOctets octets → message.spells order at v octets → ⊥
  -- what was written is in the ranges of its types
  pub held : IfOk result (λ octets. message.holds v)
