-- Octets are never refused as a profile for want of memory: that is said of a profile alone.
use Rattle.std.proofs.Common.{◌≡◌, ◌≢◌, ℕ, zero, suc, ◌==◌, Bool, true, false, List, Result, Ok, Err, IsOk, ◌⊎◌, inl, inr, refl, sym, ap, ◌∙◌, arith}
use Rattle.std.specs.Int.{Width, w8, w16, w32, byte_len}
use Rattle.giop_cdr.specs.declared.fault.CdrFault.{CdrFault}
use Rattle.giop_cdr.specs.declared.fault.CdrKind.{CdrKind}
use Rattle.giop_cdr.specs.declared.fault.CdrKind.TheVariants.{Short, BadLabel, BadOrder, BadString, BadCount, BoundPassed, NoMemory}
use Rattle.giop_cdr.specs.Encapsulation.OfLayout.{RefusedInside}
use Rattle.giop_cdr.specs.Layout.{Layout, chosen, field, gives, number, octets, sequence, such, tagged, text}
use Rattle.giop_cdr.specs.Reading.Cursor.{Cursor}
use Rattle.giop_cdr.specs.Reading.Exactness.{Counts, FirstRefused, NeverRefused, Refusal, RefusedAmong, RefusedCount, RefusedOctets, RefusedSequence, RefusedShort, RefusedString, RefusedUnless, Stretch, Took}
use Rattle.giop_cdr.specs.Reading.Values.{fault}
use Rattle.giop_ior.specs.Iiop.{Profile, components_of, iiop_layout, iiop_of, major_version, no_components, no_memory, tagged_component}
use Rattle.giop_ior.proofs.IiopLemmas.{iiop_refused}

-- ---- refusals that are never for want of memory

abbrev IsNoWant : Refusal → Type 0
IsNoWant R = (c : Cursor) (e : CdrFault) → R c e → e.kind ≢ NoMemory

-- a fault of another kind is none
other : (at : ℕ) (kind : CdrKind) (e : CdrFault) → kind ≢ NoMemory → e ≡ fault at kind → e.kind ≢ NoMemory
other at kind e differs is want = differs (sym (ap (λ u. u.kind) is) ∙ want)

short : (n : ℕ) → IsNoWant (RefusedShort n)
short n c e why = other _ Short e (λ h. absurd cc) why.1

first : {A : Type 0} (M : Stretch A) (R : Refusal) (S : A → Refusal) (c : Cursor) (e : CdrFault) → (R c e → e.kind ≢ NoMemory)
    → ((x : A) (d : Cursor) → S x d e → e.kind ≢ NoMemory) → FirstRefused M R S c e → e.kind ≢ NoMemory
first M R S c e r s (inl why) = r why
first M R S c e r s (inr why) = s why.first why.middle why.back

count : IsNoWant RefusedCount
count c e = first _ (RefusedShort 4) _ c e (short 4 c e) (λ n d why. other _ BadCount e (λ h. absurd cc) why.1)

of_octets : IsNoWant (RefusedOctets 0)
of_octets c e = first _ RefusedCount _ c e (count c e) (λ n d why. other _ BoundPassed e (λ h. absurd cc) why.1)

bad_text : {A B C : Type 0} (at : ℕ) (e : CdrFault) → (A × (e ≡ fault at BadString)) ⊎ (B × C × (e ≡ fault at BoundPassed)) → e.kind ≢ NoMemory
bad_text at e (inl why) = other at BadString e (λ h. absurd cc) why.1
bad_text at e (inr why) = other at BoundPassed e (λ h. absurd cc) why.2

of_string : IsNoWant (RefusedString 0)
of_string c e = first _ RefusedCount _ c e (count c e) (λ n d why. bad_text _ e why)

unless : {A : Type 0} (test : A → Bool) (n : ℕ) (kind : CdrKind) (M : Stretch A) (R : Refusal) → kind ≢ NoMemory → IsNoWant R
    → IsNoWant (RefusedUnless test n kind M R)
unless test n kind M R differs r c e = first _ R _ c e (r c e) (λ x d why. other _ kind e differs why.1)

among : {A : Type 0} (M : Stretch A) (R : Refusal) → IsNoWant R → (n : ℕ) → IsNoWant (RefusedAmong M R n)
among M R r zero c e why = absurd why
among M R r (suc n) c e why = first _ R _ c e (r c e) (λ x d rest. among M R r n d e rest) why

of_sequence : {A : Type 0} (M : Stretch A) (R : Refusal) → IsNoWant R → IsNoWant (RefusedSequence M R)
of_sequence M R r c e = first _ RefusedCount _ c e (count c e) (λ n d why. among M R r n d e why)

-- ---- the layouts of a profile

of_field : {A B : Type 0} (part : A → B) (f : Layout B) (g : B → Layout A) → IsNoWant f.refused → ((x : B) → IsNoWant (g x).refused)
    → IsNoWant (field part f g).refused
unfolding field
of_field part f g one more c e = first _ f.refused _ c e (one c e) (λ x d why. more x d e why)

of_gives : {A : Type 0} (x : A) → IsNoWant (gives x).refused
unfolding gives
of_gives x c e why = absurd why

of_number : (w : Width) → IsNoWant (number w).refused
unfolding number
of_number w = short (byte_len w)

of_layout_octets : IsNoWant octets.refused
unfolding octets
of_layout_octets = of_octets

of_text : IsNoWant text.refused
unfolding text
of_text = of_string

of_major : IsNoWant major_version.refused
unfolding major_version such
of_major = unless _ 1 BadLabel _ (number w8).refused (λ h. absurd cc) (of_number w8)

of_component : IsNoWant tagged_component.refused
unfolding tagged_component tagged
of_component =
    of_field _ (number w32) _ (of_number w32) (λ tag. of_field _ octets _ of_layout_octets (λ contents. of_gives _))

of_components : (minor : ℕ) (none : Bool) → IsNoWant (chosen none no_components (sequence tagged_component)).refused
unfolding chosen no_components sequence
of_components minor true c e why = absurd why
of_components minor false c e why = of_sequence (Took tagged_component.spells) tagged_component.refused of_component c e why

of_components_of : (minor : ℕ) → IsNoWant (components_of minor).refused
unfolding components_of
of_components_of minor = of_components minor (minor == 0)

of_profile : IsNoWant iiop_layout.refused
unfolding iiop_layout
of_profile =
    of_field _ major_version _ of_major
    (λ major. of_field _ (number w8) _ (of_number w8)
    (λ minor. of_field _ text _ of_text
    (λ host. of_field _ (number w16) _ (of_number w16)
    (λ port. of_field _ octets _ of_layout_octets
    (λ key. of_field _ (components_of minor) _ (of_components_of minor)
    (λ components. of_gives _))))))

inside : (contents : List ℕ) (e : CdrFault) → RefusedInside iiop_layout.refused 0 contents e → e.kind ≢ NoMemory
inside contents e (inl why) = other 0 Short e (λ h. absurd cc) why.1
inside contents e (inr (inl why)) = other 0 BadOrder e (λ h. absurd cc) why.1
inside contents e (inr (inr why)) = of_profile why.0 e why.2

-- ---- what is answered

-- where the answer to octets is want of memory, they are a profile
pub wanting : (contents : List ℕ) (e : CdrFault) → (iiop_of contents ≡ Err e) ⊎ ((e ≡ no_memory) × IsOk (iiop_of contents))
    → e.kind ≡ NoMemory → IsOk (iiop_of contents)
wanting contents e (inl is) want = absurd (inside contents e (iiop_refused contents e is) want)
wanting contents e (inr why) want = why.1
