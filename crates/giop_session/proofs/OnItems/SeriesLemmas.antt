-- A series that goes on, and what versions its messages have.
use Rattle.std.proofs.Common.{◌≡◌, ℕ, Bool, true, false, not, cond, List, [], ◌∷◌, ◌++◌, drop, length, nat_lt, ◌&&◌, Some, None, refl, sym, ap, subst, ◌∙◌, append_assoc, append-nil, ◌⊎◌, inl, inr}
use Rattle.std.specs.List.{flat_map}
use Rattle.std.proofs.lemmas.Grind.{flat_map-append}
use Rattle.giop_cdr.specs.declared.order.Order.{Order}
use Rattle.giop_cdr.specs.declared.order.Order.TheVariants.{Big, Little}
use Rattle.giop_frag.specs.Gathered.{same_order}
use Rattle.giop_msg.specs.declared.fault.WireFault.{WireFault}
use Rattle.giop_msg.specs.declared.fault.WireKind.TheVariants.{BadKind, BadSize, NotFragmentable, TooLarge}
use Rattle.giop_msg.specs.Fault.{fault}
use Rattle.giop_msg.specs.Kind.{can_have_size, is_fragment}
use Rattle.giop_msg.specs.Version.{has_fragments}
use Rattle.giop_msg.specs.declared.kind.Kind.{Kind}
use Rattle.giop_msg.specs.declared.kind.Kind.TheVariants.{Fragment}
use Rattle.giop_msg.specs.declared.msg.Msg.{Msg}
use Rattle.giop_msg.specs.declared.version.Version.{Version}
use Rattle.giop_msg.specs.declared.version.Version.TheVariants.{V10, V11, V12}
use Rattle.giop_msg.specs.Cut.{continued, joined, message_of}
use Rattle.giop_msg.specs.Header.{fault_of}
use Rattle.giop_msg.specs.Msg.{IsMessage, head_of}
use Rattle.giop_msg.proofs.HeaderLemmas.{header_fault-header_octets}
use Rattle.giop_session.specs.Items.Carries.{IsSeries}

-- a message by its parts
pub message_is : (m : Msg) (version : Version) (kind : Kind) (order : Order) (more : Bool) → m.version ≡ version → m.kind ≡ kind
    → m.order ≡ order → m.more ≡ more → m ≡ message_of version kind order more m.payload
message_is m version kind order more is_version is_kind is_order is_more =
    λ i. record { version = is_version i; order = is_order i; more = is_more i; kind = is_kind i; payload = m.payload }

-- a Fragment goes on with a series
pub series_on : (front : List Msg) (m : Msg) (kind : Kind) (version : Version) (order : Order) (more : Bool)
    → IsSeries kind version order true front → m ≡ message_of version Fragment order more m.payload
    → IsSeries kind version order more (front ++ m ∷ [])
series_on [] m kind version order more series is = absurd series
series_on (a ∷ []) m kind version order more series is = (series, is)
series_on (a ∷ b ∷ front) m kind version order more series is =
    (series.0, series_on (b ∷ front) m Fragment version order more series.1 is)

-- and with its joined octets
pub joined_on : (front : List Msg) (m : Msg) (kind : Kind) (version : Version) (order : Order)
    → IsSeries kind version order true front → joined (front ++ m ∷ []) ≡ joined front ++ drop 4 m.payload
joined_on [] m kind version order series = absurd series
joined_on (a ∷ front) m kind version order series =
    ap (λ octets. a.payload ++ octets) (flat_map-append continued front (m ∷ [])
    ∙ ap (λ octets. flat_map continued front ++ octets) (append-nil (drop 4 m.payload)))
    ∙ sym (append_assoc a.payload (flat_map continued front) (drop 4 m.payload))

-- two byte orders are one, or they differ
pub orders : (one other : Order) → (one ≡ other) ⊎ (same_order one other ≡ false)
orders Big Big = inl refl
orders Big Little = inr refl
orders Little Big = inr refl
orders Little Little = inl refl

pub twice : (b : Bool) → b ≡ not (not b)
twice true = refl
twice false = refl

-- ---- Fragments are of 1.2, and so is what they continue

sound_fault : (limit : ℕ) (m : Msg) → IsMessage limit m → fault_of limit (head_of m) ≡ None
sound_fault limit m is = sym (header_fault-header_octets limit (head_of m) is.sized) ∙ is.sound

some_fails : (a b c : Bool) (x y z w : WireFault) → cond a (Some x) (cond b (Some y) (cond c (Some z) (Some w))) ≡ None → ⊥
some_fails true b c x y z w none = cc
some_fails false true c x y z w none = cc
some_fails false false true x y z w none = cc
some_fails false false false x y z w none = cc

pub fragment_version : (limit : ℕ) (m : Msg) → IsMessage limit m → m.kind ≡ Fragment → m.version ≡ V12
fragment_version limit m is fragment = by_version m.version m.more (sound_fault limit m is)
  where
    by_more : (version : Version) (more : Bool)
        → fault_of limit (record (head_of m) { version = version; more = more }) ≡ None
        → fault_of limit (record (head_of m) { version = version; more = more; kind = Fragment }) ≡ None
    by_more version more none =
        subst (λ kind. fault_of limit (record (head_of m) { version = version; more = more; kind = kind }) ≡ None) fragment none

    by_version : (version : Version) (more : Bool)
        → fault_of limit (record (head_of m) { version = version; more = more }) ≡ None → version ≡ V12
    by_version V12 more none = refl
    by_version V10 true none = absurd (let no = by_more V10 true none in cc)
    by_version V10 false none = absurd (let no = by_more V10 false none in cc)
    by_version V11 true none = absurd (let no = by_more V11 true none in cc)
    by_version V11 false none = absurd (let no = by_more V11 false none in cc)

pub continued_version : (limit : ℕ) (m : Msg) → IsMessage limit m → m.more ≡ true → m.version ≡ V12
continued_version limit m is more =
    by_version m.version (subst (λ more. fault_of limit (record (head_of m) { more = more }) ≡ None) more (sound_fault limit m is))
  where
    by_version : (version : Version) → fault_of limit (record (head_of m) { version = version; more = true }) ≡ None → version ≡ V12
    by_version V12 none = refl
    by_version V10 none = absurd cc
    by_version V11 none =
        absurd (some_fails (is_fragment m.kind && not (has_fragments V11)) (nat_lt limit (length m.payload)) (not (can_have_size m.kind (length m.payload)))
        (fault 7 BadKind) (fault 8 TooLarge) (fault 8 BadSize) (fault 6 NotFragmentable) none)
