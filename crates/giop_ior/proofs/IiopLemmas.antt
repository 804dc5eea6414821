-- The table of the IIOP profile is lawful, and what follows for the octets of a tagged profile.
use Rattle.std.proofs.Common.{◌≡◌, ◌≢◌, ℕ, zero, suc, ◌+◌, ◌==◌, Bool, true, false, List, [], ◌∷◌, ◌++◌, length, drop, if◌then◌else◌, Result, Ok, Err, IfOk, IfErr, IsOk, ◌⊎◌, append-nil, inl, inr, refl, sym, ap, subst, ◌∙◌, arith}
use Rattle.std.specs.Int.{w8, w16}
use Rattle.std.proofs.lemmas.Bool.{eqb-true, ne_eqb}
use Rattle.giop_cdr.specs.declared.order.Order.{Order}
use Rattle.giop_cdr.specs.declared.order.Order.TheVariants.{Big, Little}
use Rattle.giop_cdr.specs.declared.fault.CdrFault.{CdrFault}
use Rattle.giop_cdr.specs.declared.fault.CdrKind.TheVariants.{BadOrder}
use Rattle.giop_cdr.specs.Reading.Cursor.{Cursor}
use Rattle.giop_cdr.specs.Encapsulation.Opened.{order_octet, content_of}
use Rattle.giop_cdr.specs.Encapsulation.OfLayout.{RefusedInside, inside_at}
use Rattle.giop_cdr.specs.Layout.{IsLawful, AreOctets, field, gives, chosen, sequence}
use Rattle.giop_cdr.specs.Writing.Output.{Output, number_out}
use Rattle.giop_cdr.specs.Reading.Exactness.{TakesOctets}
use Rattle.giop_cdr.specs.Reading.Values.{fault, ◌>>=◌}
use Rattle.giop_cdr.proofs.Encapsulation.EncapsulatedLemmas.{inside_exact}
use Rattle.giop_cdr.proofs.LayoutLemmas.{number_is, octets_is, text_is, such_is, field_is, gives_is, chosen_is, sequence_is, tagged_is, tagged_takes, unspelled}
use Rattle.giop_ior.specs.declared.references.tagged_profile.TaggedComponent.{TaggedComponent}
use Rattle.giop_ior.specs.Iiop.{Profile, major_version, tagged_component, no_components, components_of, iiop_layout, IiopOctets, order_in, iiop_of, iiop_octets, no_memory, IsAnswered}

-- ---- the table

tagged_component_is : IsLawful tagged_component
unfolding tagged_component
tagged_component_is = tagged_is _ _ _ (λ tag contents. refl) (λ tag contents. refl)

tagged_component_takes : TakesOctets tagged_component.spells
unfolding tagged_component
tagged_component_takes = tagged_takes _ _ _

none_is : (v : List TaggedComponent) → (length v == 0) ≡ true → v ≡ []
none_is [] h = refl
none_is (x ∷ v) h = let wrong : length (x ∷ v) ≡ 0 = eqb-true (length (x ∷ v)) 0 h in absurd (omega arith)

no_components_is : IsLawful no_components
unfolding no_components gives
no_components_is =
    let known = gives_is {A = List TaggedComponent} [] in
    record {
      exact = known.exact;
      written = λ v out fits held. known.written v out refl (none_is v fits);
      fitting = λ o at v octets small spelled. (rw (known.fitting o at v octets small spelled).1 refl, tt);
    }

components_is : (minor : ℕ) → IsLawful (components_of minor)
unfolding components_of
components_is minor = chosen_is _ no_components_is (sequence_is tagged_component_takes tagged_component_is)

major_version_is : IsLawful major_version
unfolding major_version
major_version_is = such_is _ _ _ (number_is w8 refl)

pub iiop_is : IsLawful iiop_layout
unfolding iiop_layout
iiop_is =
    field_is _ (λ _ _ _ _ held. unfold field gives in cc) major_version_is
    (λ _. field_is _ (λ _ _ _ _ held. unfold field gives in cc) (number_is w8 refl)
    (λ minor. field_is _ (λ _ _ _ _ held. unfold field gives in cc) text_is
    (λ _. field_is _ (λ _ _ _ _ held. unfold field gives in cc) (number_is w16 refl)
    (λ _. field_is _ (λ _ _ _ _ held. unfold field gives in cc) octets_is
    (λ _. field_is _ (λ _ _ _ _ held. unfold gives in cc) (components_is minor)
    (λ _. gives_is _))))))

-- a profile that doesn't fit is spelled by no octets
pub iiop_unspelled : (p : Profile) → iiop_layout.fits p ≡ false → (order : Order) (at : ℕ) (octets : List ℕ)
    → AreOctets octets → iiop_layout.spells order at p octets → ⊥
iiop_unspelled = unspelled iiop_is

not_zero : (minor : ℕ) → minor ≢ 0 → (minor == 0) ≡ false
not_zero minor some = ne_eqb minor 0 some

-- from minor version 1 on the components are a sequence
pub components_read : (minor : ℕ) (c : Cursor) → minor ≢ 0 → (components_of minor).read c ≡ (sequence tagged_component).read c
unfolding components_of chosen
components_read minor c some = rw (not_zero minor some) refl

pub components_fit : (minor : ℕ) (v : List TaggedComponent) → minor ≢ 0 → (components_of minor).fits v ≡ (sequence tagged_component).fits v
unfolding components_of chosen
components_fit minor v some = rw (not_zero minor some) refl

pub components_written : (minor : ℕ) (v : List TaggedComponent) (out : Output) → minor ≢ 0
    → (components_of minor).written v out ≡ (sequence tagged_component).written v out
unfolding components_of chosen
components_written minor v out some = rw (not_zero minor some) refl

-- ---- the encapsulation

step : {A B : Type 0} (r : Result A CdrFault) (f : A → Result B CdrFault) (y : B) → (r >>= f) ≡ Ok y → (x : A) × (r ≡ Ok x) × (f x ≡ Ok y)
step (Ok x) f y is = (x, refl, is)
step (Err e) f y is = absurd (cc)

answer_is : {A : Type 0} {x y : A} → ◌≡◌ {A = Result A CdrFault} (Ok x) (Ok y) → x ≡ y
answer_is is = cc

some_length : (x : ℕ) (xs : List ℕ) → (length (x ∷ xs) == 0) ≡ false
some_length x xs = ne_eqb (length (x ∷ xs)) 0 (λ h. absurd (omega (arith, h)))

order_found : (contents : List ℕ) (order : Order) → order_in contents ≡ Ok order → contents ≡ order_octet order ∷ drop 1 contents
order_found [] order is = absurd (cc)
order_found (x ∷ xs) order is = go (x == 0) (x == 1) refl refl (rw (some_length x xs) at is)
  where
    go : (p q : Bool) → (x == 0) ≡ p → (x == 1) ≡ q
        → ◌≡◌ {A = Result Order CdrFault} (if p then Ok Big else if q then Ok Little else Err (fault 0 BadOrder)) (Ok order)
        → x ∷ xs ≡ order_octet order ∷ xs
    go true q none one h = ap (λ u. u ∷ xs) (eqb-true x 0 none ∙ ap order_octet (answer_is h))
    go false true none one h = ap (λ u. u ∷ xs) (eqb-true x 1 one ∙ ap order_octet (answer_is h))
    go false false none one h = absurd (cc)

order_only : (order : Order) (contents : List ℕ) → order_in (order_octet order ∷ contents) ≡ Ok order
order_only Big contents = rw (some_length 0 contents) refl
order_only Little contents = rw (some_length 1 contents) refl

-- what is answered is what the octets are
pub iiop_found : (contents : List ℕ) (p : Profile) → iiop_of contents ≡ Ok p → IiopOctets p contents
unfolding iiop_of
iiop_found contents p is =
    let order = step (order_in contents) _ p is in
    let read = step (iiop_layout.read (content_of order.0 (drop 1 contents))) _ p order.2 in
    let took = (iiop_is.exact (content_of order.0 (drop 1 contents))).found read.0.0 read.0.1 read.1 in
    let own : IiopOctets read.0.0 contents =
    record {
      order = order.0;
      front = took.octets;
      rest = read.0.1.rest;
      whole = order_found contents order.0 order.1 ∙ ap (λ u. order_octet order.0 ∷ u) took.front;
      spells = took.spells;
    } in
    subst (λ u. IiopOctets u contents) (answer_is read.2) own

-- and what they are is answered
pub iiop_only : (contents : List ℕ) (p : Profile) → IiopOctets p contents → iiop_of contents ≡ Ok p
unfolding iiop_of
iiop_only contents p is =
    let after : Cursor = record { order = is.order; at = 1 + length is.front; rest = is.rest } in
    let read : iiop_layout.read (content_of is.order (is.front ++ is.rest)) ≡ Ok (p, after) =
    (iiop_is.exact (content_of is.order (is.front ++ is.rest))).only p after
    (record { octets = is.front; front = refl; at = refl; order = refl; spells = is.spells }) in
    rw (is.whole, order_only is.order (is.front ++ is.rest), read) refl

-- ---- what is refused

-- the reader outside, where there is none
abbrev nowhere : Cursor
nowhere = record { order = Big; at = 0; rest = [] }

then_err : {A B : Type 0} (r : Result A CdrFault) (f : A → B) (e : CdrFault) → (r >>= λ x. Ok (f x)) ≡ Err e → r ≡ Err e
then_err (Ok x) f e is = absurd (cc)
then_err (Err d) f e is = cc

err_is : {A : Type 0} {d e : CdrFault} → ◌≡◌ {A = Result A CdrFault} (Err d) (Err e) → d ≡ e
err_is is = cc

order_none : (k : ℕ) (xs : List ℕ) → order_in (suc (suc k) ∷ xs) ≡ Err (fault 0 BadOrder)
order_none k xs =
    rw (some_length (suc (suc k)) xs, ne_eqb (suc (suc k)) 0 (λ h. omega (arith, h)), ne_eqb (suc (suc k)) 1 (λ h. omega (arith, h))) refl

inside_err : (contents : List ℕ) (e : CdrFault) → iiop_of contents ≡ Err e → inside_at iiop_layout.read 0 contents nowhere ≡ Err e
unfolding iiop_of inside_at
inside_err [] e is = cc
inside_err (zero ∷ xs) e is =
    let refused = then_err (iiop_layout.read (content_of Big xs)) _ e (rw (some_length 0 xs) at is) in rw refused refl
inside_err (suc zero ∷ xs) e is =
    let refused = then_err (iiop_layout.read (content_of Little xs)) _ e (rw (some_length 1 xs) at is) in rw refused refl
inside_err (suc (suc k) ∷ xs) e is = ap Err (err_is {A = Profile} (rw (order_none k xs) at is))

err_inside : (contents : List ℕ) (e : CdrFault) → inside_at iiop_layout.read 0 contents nowhere ≡ Err e → iiop_of contents ≡ Err e
unfolding iiop_of inside_at
err_inside [] e is = cc
err_inside (zero ∷ xs) e is =
    let refused = then_err (iiop_layout.read (content_of Big xs)) _ e is in rw (some_length 0 xs, refused) refl
err_inside (suc zero ∷ xs) e is =
    let refused = then_err (iiop_layout.read (content_of Little xs)) _ e is in rw (some_length 1 xs, refused) refl
err_inside (suc (suc k) ∷ xs) e is = rw (order_none k xs) (ap Err (err_is {A = Profile × Cursor} is))

-- what is refused is no encapsulation of a profile, for this reason
pub iiop_refused : (contents : List ℕ) (e : CdrFault) → iiop_of contents ≡ Err e → RefusedInside iiop_layout.refused 0 contents e
iiop_refused contents e is =
    (inside_exact iiop_layout.spells iiop_layout.refused iiop_layout.read iiop_is.exact 0 contents nowhere).refused e (inside_err contents e is)

pub iiop_refuses : (contents : List ℕ) (e : CdrFault) → RefusedInside iiop_layout.refused 0 contents e → iiop_of contents ≡ Err e
iiop_refuses contents e why =
    err_inside contents e
    ((inside_exact iiop_layout.spells iiop_layout.refused iiop_layout.read iiop_is.exact 0 contents nowhere).refuses e why)

pub view_found : (contents : List ℕ) (r : Result Profile CdrFault) → IfOk r (λ p. iiop_of contents ≡ Ok p) → IfOk r (λ p. IiopOctets p contents)
view_found contents (Ok p) is = iiop_found contents p is
view_found contents (Err e) is = tt

pub view_only : (contents : List ℕ) (r : Result Profile CdrFault) → IfOk r (λ p. iiop_of contents ≡ Ok p)
    → IfErr r (λ e. (iiop_of contents ≡ Err e) ⊎ ((e ≡ no_memory) × IsOk (iiop_of contents))) → (p : Profile) → IiopOctets p contents → IsAnswered r p
view_only contents (Ok q) is refused p spelled = answer_is (sym is ∙ iiop_only contents p spelled)
view_only contents (Err e) is (inl other) p spelled = let wrong = sym other ∙ iiop_only contents p spelled in absurd (cc)
view_only contents (Err e) is (inr wanting) p spelled = wanting.0

-- ---- what is written

-- behind the order octet of what is written big-endian
pub begun : number_out w8 0 (record { order = Big; at = 0; octets = [] }) ≡ record { order = Big; at = 1; octets = 0 ∷ [] }
unfolding number_out
begun = refl

-- what is written of a profile is octets of it
pub iiop_written : (p : Profile) → iiop_layout.fits p ≡ true → iiop_layout.holds p → IiopOctets p (iiop_octets p)
unfolding iiop_octets
iiop_written p fits held =
    let spelled = iiop_is.written p (record { order = Big; at = 1; octets = 0 ∷ [] }) fits held in
    record {
      order = Big;
      front = spelled.part;
      rest = [];
      whole = spelled.octets ∙ ap (λ u. 0 ∷ u) (sym (append-nil spelled.part));
      spells = spelled.spells;
    }

-- and is read back
pub iiop_back : (p : Profile) → iiop_layout.fits p ≡ true → iiop_layout.holds p → iiop_of (iiop_octets p) ≡ Ok p
iiop_back p fits held = iiop_only (iiop_octets p) p (iiop_written p fits held)

-- as is what was written behind an order octet
pub appended_iiop_back : (p : Profile) (out done : Output) (octets : List ℕ) → iiop_layout.fits p ≡ true → iiop_layout.holds p
    → out ≡ record { order = Big; at = 1; octets = 0 ∷ [] } → done ≡ iiop_layout.written p out → octets ≡ done.octets → iiop_of octets ≡ Ok p
unfolding iiop_octets
appended_iiop_back p out done octets fits held from put whole = rw (whole, put, from) (iiop_back p fits held)
