-- One step of the framer: what a slice of octets begins with, and what is taken away.
use Rattle.std.proofs.Common.{Option, Some, ◌≡◌, ℕ, ◌+◌, ◌<◌, ◌≤◌, ◌^◌, List, [], ◌∷◌, ◌++◌, length, take, drop, get_or, None, refl, sym, ap, subst, ◌∙◌, append_assoc, append-nil, length-append, inl, inr, arith}
use Rattle.std.specs.List.{All, flat_map, slice_range}
use Rattle.std.proofs.lemmas.List.{take_at, take-append-drop, length-take, length-drop, drop-drop, get_or-take, get_or_past, flat_map_more}
use Rattle.std.proofs.lemmas.List.Elements.{All-append}
use Rattle.std.proofs.lemmas.Grind.{flat_map-append}
use Rattle.std.proofs.lemmas.Bool.{cases_lt}
use Rattle.giop_msg.specs.declared.framer.begun.Begun.{Begun}
use Rattle.giop_msg.specs.declared.header.Header.{Header}
use Rattle.giop_msg.specs.declared.fault.WireFault.{WireFault}
use Rattle.giop_msg.specs.declared.msg.Msg.{Msg}
use Rattle.giop_msg.specs.Framing.{begun_octets, CanStand, IsBefore, message_of, payload_so_far, with_begun}
use Rattle.giop_msg.specs.Header.{header_octets, header_of, header_fault}
use Rattle.giop_msg.specs.Msg.{head_of, message_octets, IsMessage}
use Rattle.giop_msg.specs.Stream.{Unread, BeginsWithFault, Waits, AppendsTaken, TakesMessage}
use Rattle.giop_msg.proofs.FaultLemmas.{header_fault-of_fields, octet_fault-sound, sizes_of_sound}
use Rattle.giop_msg.proofs.HeaderLemmas.{header_of-header_octets, length-header_octets, sound_octets}
use Rattle.giop_msg.proofs.StreamLemmas.{length-message_octets, header_of-message_octets, each_one}

below_in_front : (octets : List ℕ) → ((i : ℕ) → get_or octets i 0 < 256) → (i : ℕ) → get_or (take 12 octets) i 0 < 256
below_in_front octets below i = elim (cases_lt i 12) as (λ _. get_or (take 12 octets) i 0 < 256) [
  | inl h ↦ rw (get_or-take 12 octets i 0 h) (below i)
  | inr h ↦ rw (get_or_past (take 12 octets) i 0 (simp length-take (omega arith))) (omega arith)
]

-- fewer octets than a header's hold no message and no fault
pub waits_for_header : (limit : ℕ) (octets : List ℕ) → length octets < 12 → Waits (record { limit = limit; octets = octets })
waits_for_header limit octets short = record {
  no_message = λ (m, more, is, eq). absurd (omega (arith, ap length eq, length-append (message_octets m) more, length-message_octets m));
  no_fault = λ e stands. absurd (omega (arith, stands.0));
}

-- this header, which is sound, stands at the front of the octets
pub record BeginsWithHeader (limit : ℕ) (octets : List ℕ) (h : Header) : Type 0 where
  pub is : h ≡ header_of (take 12 octets)
  pub sound : header_fault limit (take 12 octets) ≡ None

pub begins_with_header : (limit : ℕ) (octets front : List ℕ) (h : Header) → front ≡ take 12 octets → h ≡ header_of front →
    header_fault limit front ≡ None → BeginsWithHeader limit octets h
begins_with_header limit octets front h e is sound = record { is = is ∙ ap header_of e; sound = sym (ap (header_fault limit) e) ∙ sound }

-- a sound header and fewer octets after it than it says are no message and no fault
pub waits_for_payload : (limit : ℕ) (octets : List ℕ) (h : Header) → BeginsWithHeader limit octets h → length octets < 12 + h.size →
    Waits (record { limit = limit; octets = octets })
waits_for_payload limit octets h begins short = record {
  no_message = λ (m, more, is, eq).
      let heads : h ≡ head_of m = begins.is ∙ ap (λ o. header_of (take 12 o)) eq ∙ header_of-message_octets limit m more is in
      let sizes : h.size ≡ length m.payload = ap (λ (x : Header). x.size) heads in
      absurd (omega (arith, sizes, ap length eq, length-append (message_octets m) more, length-message_octets m));
  no_fault = λ e stands. let found = stands.1 in let sound = begins.sound in let no : ⊥ = cc in absurd no;
}

head_of-message_of : (h : Header) (payload : List ℕ) → length payload ≡ h.size → head_of (message_of h payload) ≡ h
head_of-message_of h payload e = rw e refl

payload_and_more : (octets : List ℕ) (size : ℕ) (payload : List ℕ) → payload ≡ take size (drop 12 octets) → length payload ≡ size →
    drop 12 octets ≡ payload ++ drop (12 + length payload) octets
payload_and_more octets size payload part long =
    sym (take-append-drop size (drop 12 octets)) ∙ ap (λ xs. xs ++ drop size (drop 12 octets)) (sym part)
    ∙ ap (λ xs. payload ++ xs) (drop-drop size 12 octets ∙ ap (λ n. drop (12 + n) octets) (sym long))

-- a sound header at the front, and the octets that it says after it, are a message
pub message_at_front : (limit : ℕ) (octets : List ℕ) (h : Header) (payload : List ℕ) → ((i : ℕ) → get_or octets i 0 < 256) →
    BeginsWithHeader limit octets h → limit < 2 ^ 32 → 12 + h.size ≤ length octets → payload ≡ slice_range octets 12 (12 + h.size) →
    IsMessage limit (message_of h payload) × (octets ≡ message_octets (message_of h payload) ++ drop (12 + length payload) octets)
message_at_front limit octets h payload below begins limited there slice =
    let part : payload ≡ take h.size (drop 12 octets) = slice ∙ ap (λ n. take n (drop 12 octets)) (omega arith) in
    let long : length payload ≡ h.size = rw part (simp (length-take, length-drop) (omega arith)) in
    let twelve : length (take 12 octets) ≡ 12 = simp length-take (omega arith) in
    let below_twelve : (i : ℕ) → get_or (take 12 octets) i 0 < 256 = below_in_front octets below in
    let head = head_of-message_of h payload long in
    let front : header_octets (head_of (message_of h payload)) ≡ take 12 octets =
    ap header_octets (head ∙ begins.is) ∙ sound_octets limit (take 12 octets) twelve below_twelve begins.sound in
    let fields = sym (header_fault-of_fields limit (take 12 octets) (octet_fault-sound limit (take 12 octets) begins.sound)) ∙ begins.sound in
    let within : h.size ≤ limit = subst (λ (x : Header). x.size ≤ limit) (sym begins.is) (sizes_of_sound limit (header_of (take 12 octets)) fields).0 in (
      record { sized = omega (arith, long, within); sound = ap (header_fault limit) front ∙ begins.sound },
      sym (take-append-drop 12 octets)
          ∙ ap (λ xs. xs ++ drop 12 octets) (sym front)
          ∙ ap (λ xs. header_octets (head_of (message_of h payload)) ++ xs) (payload_and_more octets h.size payload part long)
          ∙ sym (append_assoc (header_octets (head_of (message_of h payload))) payload (drop (12 + length payload) octets)),
    )

-- octets that begin with a message are at least as long
pub message_fits : (octets : List ℕ) (m : Msg) (more : List ℕ) → octets ≡ message_octets m ++ more → 12 + length m.payload ≤ length octets
message_fits octets m more e = omega (arith, ap length e, length-append (message_octets m) more, length-message_octets m)

-- nothing is taken at first
pub taken_none : (unread : Unread) (before : List Msg) → AppendsTaken unread before unread before
taken_none unread before = record {
  taken = [];
  appended = sym (append-nil before);
  takes = record { each = λ k d h. absurd (omega (arith, h)); octets = refl; limit = refl };
}

-- one message more is taken
pub taken_more : (old middle new : Unread) (before after : List Msg) (m : Msg) → AppendsTaken old before middle after → TakesMessage middle m new →
    AppendsTaken old before new (after ++ m ∷ [])
taken_more old middle new before after m so_far next = record {
  taken = so_far.taken ++ m ∷ [];
  appended = ap (λ ms. ms ++ m ∷ []) so_far.appended ∙ append_assoc before so_far.taken (m ∷ []);
  takes = record {
    each = All-append (IsMessage old.limit) so_far.taken (m ∷ []) so_far.takes.each
        (each_one old.limit m (subst (λ n. IsMessage n m) so_far.takes.limit next.is_message));
    octets =
        so_far.takes.octets ∙ ap (λ s. flat_map message_octets so_far.taken ++ s) next.octets
        ∙ sym (append_assoc (flat_map message_octets so_far.taken) (message_octets m) new.octets)
        ∙ ap (λ s. s ++ new.octets) (flat_map_more message_octets [] so_far.taken m);
    limit = next.limit ∙ so_far.takes.limit;
  };
}

-- a message that is taken leaves fewer octets
pub takes_fewer : (old new : Unread) (m : Msg) → TakesMessage old m new → length new.octets < length old.octets
takes_fewer old new m takes = omega (arith, ap length takes.octets, length-append (message_octets m) new.octets, length-message_octets m)

-- what a header's octets and the others are, where nothing is wrong with it
pub record HasFront (limit : ℕ) (octets : List ℕ) (h : Header) (payload : List ℕ) : Type 0 where
  pub octets_are : octets ≡ header_octets h ++ payload
  pub sound : header_fault limit (header_octets h) ≡ None

pub has_front : (limit : ℕ) (octets head payload : List ℕ) (h : Header) → ((i : ℕ) → get_or octets i 0 < 256) → 12 ≤ length octets →
    head ≡ take 12 octets → payload ≡ drop 12 octets → h ≡ header_of head → header_fault limit head ≡ None → HasFront limit octets h payload
has_front limit octets head payload h below there front back is sound =
    let twelve : length (take 12 octets) ≡ 12 = simp length-take (omega arith) in
    let sound_front : header_fault limit (take 12 octets) ≡ None = ap (header_fault limit) (sym front) ∙ sound in
    let heads : header_octets h ≡ take 12 octets =
    ap header_octets (is ∙ ap header_of front) ∙ sound_octets limit (take 12 octets) twelve (below_in_front octets below) sound_front in
    record {
      octets_are = sym (take-append-drop 12 octets) ∙ ap (λ xs. xs ++ drop 12 octets) (sym heads) ∙ ap (λ xs. header_octets h ++ xs) (sym back);
      sound = ap (header_fault limit) heads ∙ sound_front;
    }

-- a message that came in part begins with its header
begins_with_begun : (b : Begun) (behind : Unread) → IsBefore b behind → BeginsWithHeader behind.limit (begun_octets b ++ behind.octets) b.header
begins_with_begun b behind before =
    let front : take 12 (begun_octets b ++ behind.octets) ≡ header_octets b.header =
    ap (take 12) (append_assoc (header_octets b.header) (payload_so_far b) behind.octets)
    ∙ take_at (header_octets b.header) (payload_so_far b ++ behind.octets) 12 (length-header_octets b.header) in
    record {
      is = sym (ap header_of front ∙ header_of-header_octets b.header before.sized);
      sound = ap (header_fault behind.limit) front ∙ before.sound;
    }

-- a message that came in part stands before the octets behind it, and both are what is unread
pub record Stands (b : Begun) (behind unread : Unread) : Type 0 where
  pub before : IsBefore b behind
  pub same : with_begun (Some b) behind ≡ unread

pub stands : (begun : Option Begun) (b : Begun) (behind unread : Unread) → begun ≡ Some b → CanStand begun behind → with_begun begun behind ≡ unread →
    Stands b behind unread
stands begun b behind unread is can same = record {
  before = subst (λ o. CanStand o behind) is can;
  same = ap (λ o. with_begun o behind) (sym is) ∙ same;
}

-- no fault stands at its front
pub begun_is_sound : (b : Begun) (behind unread : Unread) (e : WireFault) → Stands b behind unread → BeginsWithFault unread.limit unread.octets e → ⊥
begun_is_sound b behind unread e both fault =
    let front : BeginsWithFault behind.limit (begun_octets b ++ behind.octets) e =
    subst (λ (u : Unread). BeginsWithFault u.limit u.octets e) (sym both.same) fault in
    let found = front.1 in let sound = (begins_with_begun b behind both.before).sound in let no : ⊥ = cc in no

-- while its payload isn't whole, it is neither a message nor a fault
pub begun_waits : (b : Begun) (behind unread : Unread) → Stands b behind unread → length (payload_so_far b) < b.header.size → Waits unread
begun_waits b behind unread both part =
    let long = length-append (begun_octets b) behind.octets in
    let none : length behind.octets ≡ 0 = ap length (both.before.last part) in
    let own = length-append (header_octets b.header) (payload_so_far b) in
    let head = length-header_octets b.header in
    subst Waits both.same (waits_for_payload _ _ _ (begins_with_begun b behind both.before) (omega arith))

-- where it is whole, it is a message, and what is behind it is left
whole_is_taken : (b : Begun) (behind : Unread) → IsBefore b behind → b.header.size ≤ length (payload_so_far b) →
    TakesMessage (with_begun (Some b) behind) (message_of b.header (payload_so_far b)) behind
whole_is_taken b behind before whole =
    let long : length (payload_so_far b) ≡ b.header.size = omega (arith, before.within) in
    let head = head_of-message_of b.header (payload_so_far b) long in
    record {
      is_message = record {
        sized = omega (arith, before.sized);
        sound = ap (λ (h : Header). header_fault behind.limit (header_octets h)) head ∙ before.sound;
      };
      octets = ap (λ (h : Header). (header_octets h ++ payload_so_far b) ++ behind.octets) (sym head);
      limit = refl;
    }

pub begun_is_taken : (b : Begun) (behind unread : Unread) → Stands b behind unread → b.header.size ≤ length (payload_so_far b) →
    TakesMessage unread (message_of b.header (payload_so_far b)) behind
begun_is_taken b behind unread both whole =
    subst (λ u. TakesMessage u (message_of b.header (payload_so_far b)) behind) both.same (whole_is_taken b behind both.before whole)

-- messages are taken, and then more of them
pub taken_then : (old middle new : Unread) (before between after : List Msg) → AppendsTaken old before middle between →
    AppendsTaken middle between new after → AppendsTaken old before new after
taken_then old middle new before between after a b = record {
  taken = a.taken ++ b.taken;
  appended = b.appended ∙ ap (λ ms. ms ++ b.taken) a.appended ∙ append_assoc before a.taken b.taken;
  takes = record {
    each = All-append (IsMessage old.limit) a.taken b.taken a.takes.each (subst (λ n. All (IsMessage n) b.taken) a.takes.limit b.takes.each);
    octets =
        a.takes.octets ∙ ap (λ s. flat_map message_octets a.taken ++ s) b.takes.octets
        ∙ sym (append_assoc (flat_map message_octets a.taken) (flat_map message_octets b.taken) new.octets)
        ∙ ap (λ s. s ++ new.octets) (sym (flat_map-append message_octets a.taken b.taken));
    limit = b.takes.limit ∙ a.takes.limit;
  };
}
