-- What is left behind the messages of a file: the fault that stands there, if one does.
use Rattle.std.proofs.Common.{◌≡◌, ℕ, List, [], ◌∷◌, length, take, Option, Some, None, refl, arith, inl, inr}
use Rattle.std.proofs.lemmas.Bool.{le-leb}
use Rattle.std.proofs.lemmas.Bool.Decides.{leb_tells}
use Rattle.giop_msg.specs.declared.fault.WireFault.{WireFault}
use Rattle.giop_msg.specs.Header.{header_fault}
use Rattle.giop_msg.specs.Stream.{BeginsWithFault}
use Rattle.giop_show.specs.Rest.{rest_fault}

-- the fault that stands at the front of the rest is the one that is told
pub rest_fault-stands : (limit : ℕ) (rest : List ℕ) (e : WireFault) → BeginsWithFault limit rest e → rest_fault limit rest ≡ Some e
rest_fault-stands limit rest e stands = rw (le-leb 12 (length rest) stands.0) stands.1

none_where_no : (o : Option WireFault) → ((e : WireFault) → o ≡ Some e → ⊥) → o ≡ None
none_where_no None absent = refl
none_where_no (Some e) absent = absurd (absent e refl)

-- none is told where none stands there
pub rest_fault-none : (limit : ℕ) (rest : List ℕ) → ((e : WireFault) → BeginsWithFault limit rest e → ⊥) → rest_fault limit rest ≡ None
rest_fault-none limit rest none =
    elim (leb_tells 12 (length rest)) as (λ _. rest_fault limit rest ≡ None) [
      | inl h ↦ rw h.0 (none_where_no (header_fault limit (take 12 rest)) (λ e is. none e (h.1, is)))
      | inr h ↦ rw h.0 refl
    ]

pub nothing_left : (rest : List ℕ) → length rest ≡ 0 → rest ≡ []
nothing_left [] none = refl
nothing_left (x ∷ rest) none = absurd (omega (arith, none))
