-- An end as feeding sees it, with some octets unread; and octets that are no header.
use Rattle.std.specs.Prelude.{ℕ, List, [], ◌∷◌, Option}
use Rattle.giop_msg.specs.declared.fault.WireFault.{WireFault}
use Rattle.giop_msg.specs.declared.fault.WireKind.TheVariants.{BadMagic}
use Rattle.giop_msg.specs.Fault.{fault}
use Rattle.giop_session.specs.declared.SessionFault.{SessionFault}
use Rattle.giop_session.specs.Pumping.{State}

-- these octets are unread, of messages of 64 octets at most; these are the calls, and this fault
-- stands
abbrev pub state_of : {S : Type 0} → List ℕ → S → Option SessionFault → State S
state_of octets calls standing = record {
  unread = record { limit = 64; octets = octets };
  calls = calls;
  fault = standing;
}

-- twelve octets that don't begin with GIOP, and what is wrong with them
abbrev pub no_header : List ℕ
no_header = 0 ∷ 0 ∷ 0 ∷ 0 ∷ 0 ∷ 0 ∷ 0 ∷ 0 ∷ 0 ∷ 0 ∷ 0 ∷ 0 ∷ []

abbrev pub bad_magic : WireFault
bad_magic = fault 0 BadMagic
