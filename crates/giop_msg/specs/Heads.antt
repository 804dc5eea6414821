-- What a call does that reads or writes the head of a message by the table of its fields (CORBA 3.3
-- Part 2, 9.4.2 to 9.4.6): one text for all heads.
use Rattle.std.specs.Prelude.{◌≡◌, ◌⊎◌, ◌↔◌, ℕ, List, false, Result, Ok, Err, IfOk, IfErr, IsOk, IsErrOf, OnOk}
use Rattle.giop_cdr.specs.declared.encode_fault.EncodeFault.{EncodeFault}
use Rattle.giop_cdr.specs.declared.encode_fault.EncodeFault.TheVariants.{Unfit}
use Rattle.giop_cdr.specs.declared.fault.CdrFault.{CdrFault}
use Rattle.giop_cdr.specs.declared.order.Order.{Order}
use Rattle.giop_cdr.specs.Layout.{Layout, AreOctets}
use Rattle.giop_cdr.specs.RoundTrip.{IsReadBack}
use Rattle.giop_cdr.specs.Writing.Outcome.{Writes}
use Rattle.giop_cdr.specs.Writing.Output.{Output}
use Rattle.giop_msg.specs.Joined.{BeginsWith, IsAnswered, head_of_joined, no_memory}

-- a call that takes no memory returns the head that joined octets begin with, and the offset of
-- what follows it
pub record ViewsHead {A : Type 0} (layout : Layout A) (place : ℕ → ℕ) (order : Order)
    (joined : List ℕ) (result : Result (A × ℕ) CdrFault) : Type 0 where
  -- what is returned is what the octets begin with, and what they begin with is returned
  pub found : IfOk result (λ x. BeginsWith layout place order joined x.0 x.1)
  pub only : (head : A) (body : ℕ) → BeginsWith layout place order joined head body
      → result ≡ Ok (head, body)
  -- which refusal it is
  pub exact : result ≡ head_of_joined layout place order joined

-- a call does so that takes memory
pub record DecodesHead {A : Type 0} (layout : Layout A) (place : ℕ → ℕ) (order : Order)
    (joined : List ℕ) (result : Result (A × ℕ) CdrFault) : Type 0 where
  -- what is returned is what the octets begin with, and what they begin with is returned
  pub found : IfOk result (λ x. BeginsWith layout place order joined x.0 x.1)
  pub only : (head : A) (body : ℕ) → BeginsWith layout place order joined head body
      → IsAnswered result head body
  -- which refusal it is: it is out of memory only where nothing is refused
  pub exact : IfOk result (λ x. head_of_joined layout place order joined ≡ Ok (x.0, x.1))
  pub err : IfErr result (λ e. (head_of_joined layout place order joined ≡ Err e)
      ⊎ ((e ≡ no_memory) × IsOk (head_of_joined layout place order joined)))

-- a call writes a value by its layout
pub record WritesBy {A X : Type 0} (layout : Layout A) (written : A) (old : Output)
    (result : Result X EncodeFault) (new : Output) : Type 0 where
  -- it appends what is written of the value, or leaves what was there
  pub value : Writes old result new (layout.written written old)
  -- Unfit is what doesn't fit, and then no octets spell it
  pub err : IsErrOf result Unfit ↔ (layout.fits written ≡ false)
  pub unfit : IsErrOf result Unfit → (order : Order) (at : ℕ) (octets : List ℕ)
      → AreOctets octets → layout.spells order at written octets → ⊥
  -- what was appended is in the ranges of its types, spells the value, and is read as it again,
  -- whatever octets follow
  pub held : OnOk result (layout.holds written)
  pub back : OnOk result (IsReadBack layout.spells layout.read written old new)
