-- Octets are those of one list of messages; and a message that was put out is refused for its size
-- alone, or taken once all of it is there.
use Rattle.std.proofs.Common.{◌≡◌, ℕ, ◌-◌, ◌<◌, ◌≤◌, ◌^◌, ◌&&◌, nat_lt, not, Bool, true, false, cond, List, [], ◌∷◌, ◌++◌, length, take, Option, Some, None, refl, sym, ap, subst, ◌∙◌, append-nil, length-append, arith}
use Rattle.std.proofs.lemmas.Bool.Decides.{nat_tests}
use Rattle.std.specs.List.{All, flat_map}
use Rattle.giop_msg.specs.Fault.{Test, fault, first_failing}
use Rattle.giop_msg.specs.Header.{fault_of, field_tests, header_fault, header_octets, is_1_0}
use Rattle.giop_msg.specs.Kind.{is_fragment}
use Rattle.giop_msg.specs.Msg.{IsMessage, head_of, message_octets}
use Rattle.giop_msg.specs.Version.{has_fragments}
use Rattle.giop_msg.specs.Stream.{BeginsWithFault, BeginsWithMessage, Msgs, Unread}
use Rattle.giop_msg.specs.declared.fault.WireFault.{WireFault}
use Rattle.giop_msg.specs.declared.fault.WireKind.TheVariants.{BadKind, ReservedFlags, TooLarge}
use Rattle.giop_msg.specs.declared.msg.Msg.{Msg}
use Rattle.giop_msg.proofs.HeaderLemmas.{header_fault-header_octets}
use Rattle.giop_msg.proofs.StreamLemmas.{each_head, length-message_octets, same_splits, take-message_octets}
use Rattle.giop_session.specs.Worlds.OnTheWay.{IsFramed, OnTheWay}

-- ---- octets are those of one list of messages

no_message : (limit : ℕ) → BeginsWithMessage limit [] → ⊥
no_message limit (m, more, is, e) =
    absurd (omega (arith, ap length e, length-append (message_octets m) more, length-message_octets m))

split_is : (messages : List Msg) → All IsFramed messages → Msgs (2 ^ 32 - 1) (flat_map message_octets messages) messages []
split_is messages each = record {
  whole = sym (append-nil (flat_map message_octets messages));
  each = each;
  partial = no_message (2 ^ 32 - 1);
}

pub one_list : (unread : Unread) (one other : List Msg) (outgoing : List ℕ) → OnTheWay unread one outgoing → OnTheWay unread other outgoing → one ≡ other
one_list unread one other outgoing a b =
    (same_splits (2 ^ 32 - 1) (flat_map message_octets one) one other [] [] (split_is one a.each)
    (subst (λ octets. Msgs (2 ^ 32 - 1) octets other []) (b.octets ∙ sym a.octets) (split_is other b.each))).0

-- ---- the size is all that another limit judges

-- of three tests and what follows, where nothing fails with the third in another form
third_alone : (one two large small : Bool) (e f g : WireFault) (after : Option WireFault)
    → cond one (Some e) (cond two (Some f) (cond large (Some g) after)) ≡ None
    → cond one (Some e) (cond two (Some f) (cond small (Some g) after)) ≡ cond small (Some g) None
third_alone true two large small e f g after none = absurd cc
third_alone false true large small e f g after none = absurd cc
third_alone false false true small e f g after none = absurd cc
third_alone false false false small e f g after none = ap (cond small (Some g)) none

-- the tests behind the first
abbrev others_of : List Test → List Test
others_of [] = []
others_of (t ∷ tests) = tests

-- a header of a message that is sound elsewhere
header_here : (limit : ℕ) (m : Msg) → IsFramed m
    → header_fault limit (header_octets (head_of m)) ≡ cond (nat_lt limit (length m.payload)) (Some (fault 8 TooLarge)) None
header_here limit m is =
    let h = head_of m in
    let sound : fault_of (2 ^ 32 - 1) h ≡ None = sym (header_fault-header_octets (2 ^ 32 - 1) h is.sized) ∙ is.sound in
    header_fault-header_octets limit h is.sized
    ∙ third_alone (h.more && is_1_0 h.version) (is_fragment h.kind && not (has_fragments h.version)) (nat_lt (2 ^ 32 - 1) (length m.payload))
    (nat_lt limit (length m.payload)) (fault 6 ReservedFlags) (fault 7 BadKind) (fault 8 TooLarge)
    (first_failing (others_of (field_tests limit h))) sound

front_here : (limit : ℕ) (m : Msg) (more : List ℕ) → IsFramed m
    → header_fault limit (take 12 (message_octets m ++ more)) ≡ cond (nat_lt limit (length m.payload)) (Some (fault 8 TooLarge)) None
front_here limit m more is = ap (header_fault limit) (take-message_octets m more) ∙ header_here limit m is

less : (n m : ℕ) → nat_lt n m ≡ true → n < m
less n m is = grind (arith, nat_tests)

no_less : (n m : ℕ) → m ≤ n → nat_lt n m ≡ false
no_less n m is = grind (arith, nat_tests)

not_over : (n m : ℕ) → nat_lt n m ≡ false → m ≤ n
not_over n m is = grind (arith, nat_tests)

-- a message within some limit is one that a framer of the largest limit reads
pub framed_by : (limit : ℕ) (m : Msg) → IsMessage limit m → IsFramed m
framed_by limit m is =
    let h = head_of m in
    let sound : fault_of limit h ≡ None = sym (header_fault-header_octets limit h is.sized) ∙ is.sound in record {
      sized = is.sized;
      sound = header_fault-header_octets (2 ^ 32 - 1) h is.sized
          ∙ third_alone (h.more && is_1_0 h.version) (is_fragment h.kind && not (has_fragments h.version)) (nat_lt limit (length m.payload))
          (nat_lt (2 ^ 32 - 1) (length m.payload)) (fault 6 ReservedFlags) (fault 7 BadKind) (fault 8 TooLarge)
          (first_failing (others_of (field_tests (2 ^ 32 - 1) h))) sound
          ∙ ap (λ large. cond large (Some (fault 8 TooLarge)) None) (no_less (2 ^ 32 - 1) (length m.payload) (omega (arith, is.sized)));
    }

none_large : (large : Bool) (e : WireFault) → cond large (Some e) None ≡ None → large ≡ false
none_large true e none = absurd cc
none_large false e none = refl

-- and no larger than that limit
pub within_limit : (limit : ℕ) (m : Msg) → IsMessage limit m → length m.payload ≤ limit
within_limit limit m is =
    not_over limit (length m.payload)
    (none_large (nat_lt limit (length m.payload)) (fault 8 TooLarge) (sym (header_here limit m (framed_by limit m is)) ∙ is.sound))

-- what a test leaves a fault of
by_size : (large : Bool) (g e : WireFault) → cond large (Some g) None ≡ Some e → (large ≡ true) × (e ≡ g)
by_size true g e is = (refl, cc)
by_size false g e is = absurd cc

pub refused_by_size : (limit : ℕ) (m : Msg) (more : List ℕ) (e : WireFault) → IsFramed m → BeginsWithFault limit (message_octets m ++ more) e
    → (e ≡ fault 8 TooLarge) × (limit < length m.payload)
refused_by_size limit m more e is stands =
    let found = by_size (nat_lt limit (length m.payload)) (fault 8 TooLarge) e (sym (front_here limit m more is) ∙ stands.1) in
    (found.1, less limit (length m.payload) found.0)

-- ---- what waits, with nothing outgoing, has nothing on its way

-- a message in full is taken or refused
no_wait : (limit : ℕ) (m : Msg) (more : List ℕ) → IsFramed m → (BeginsWithMessage limit (message_octets m ++ more) → ⊥)
    → ((e : WireFault) → BeginsWithFault limit (message_octets m ++ more) e → ⊥) → ⊥
no_wait limit m more is no_message no_fault = by_size (nat_lt limit (length m.payload)) refl
  where
    long : 12 ≤ length (message_octets m ++ more)
    long = omega (arith, length-append (message_octets m) more, length-message_octets m)

    by_size : (large : Bool) → nat_lt limit (length m.payload) ≡ large → ⊥
    by_size true here = no_fault (fault 8 TooLarge) (long, front_here limit m more is ∙ ap (λ large. cond large (Some (fault 8 TooLarge)) None) here)
    by_size false here =
        let sound : header_fault limit (header_octets (head_of m)) ≡ None =
        header_here limit m is ∙ ap (λ large. cond large (Some (fault 8 TooLarge)) None) here in
        no_message (m, more, record { sized = is.sized; sound = sound }, refl)

pub nothing_left : (unread : Unread) (messages : List Msg) → OnTheWay unread messages [] → messages ≡ []
nothing_left unread [] way = refl
nothing_left unread (m ∷ messages) way =
    let more = flat_map message_octets messages in
    let whole : message_octets m ++ more ≡ unread.octets = way.octets ∙ append-nil unread.octets in
    absurd (no_wait unread.limit m more (each_head (2 ^ 32 - 1) m messages way.each)
    (λ begins. way.waits.no_message (subst (BeginsWithMessage unread.limit) whole begins))
    (λ e begins. way.waits.no_fault e (subst (λ octets. BeginsWithFault unread.limit octets e) whole begins)))
