-- How an end reports why a call of its own program is refused.
use Rattle.std.specs.Prelude.{◌≡◌, ◌⊎◌, ℕ, Bool, true, false, Option, Some, None, Result, Ok, Err}
use Rattle.giop_cdr.specs.declared.encode_fault.EncodeFault.{EncodeFault}
use Rattle.giop_cdr.specs.declared.encode_fault.EncodeFault.TheVariants as encode
use Rattle.giop_calls.specs.declared.fault.CallFault.{CallFault}
use Rattle.giop_calls.specs.declared.fault.CallFault.TheVariants.{Unfit}
use Rattle.giop_end.specs.declared.session_fault.SessionFault.{SessionFault}
use Rattle.giop_end.specs.declared.session_fault.SessionFault.TheVariants.{NoMemory}
use Rattle.giop_end.specs.Hearing.Heard.{in_call}

-- what isn't sent is Unfit
abbrev pub unfit_unless : Bool → Option CallFault
unfit_unless true = None
unfit_unless false = Some Unfit

-- it is the fault that was found, if one was
abbrev pub IsFound : ℕ → Option CallFault → SessionFault → Type 0
IsFound id None why = ⊥
IsFound id (Some fault) why = why ≡ in_call id fault

-- or that it is out of memory
abbrev pub IsRefusal : ℕ → Option CallFault → SessionFault → Type 0
IsRefusal id found why = (why ≡ NoMemory) ⊎ IsFound id found why

-- a message isn't sent: no octets spell it, or those that do aren't let
abbrev pub IsNotSent : {V : Type 0} → (V → Bool) → Result V EncodeFault → Type 0
IsNotSent is_sendable (Ok octets) = is_sendable octets ≡ false
IsNotSent is_sendable (Err encode.Unfit) = Unit {0}
IsNotSent is_sendable (Err encode.NoMemory) = ⊥
