-- Every stream has a split into messages and a rest.
use Rattle.std.proofs.Common.{◌≡◌, ◌⊎◌, ℕ, zero, suc, ◌+◌, ◌<◌, ◌≤◌, ◌^◌, List, [], ◌∷◌, ◌++◌, length, take, drop, Option, Some, None, refl, sym, ap, ◌∙◌, append_assoc, length-append, inl, inr, arith}
use Rattle.std.specs.List.{flat_map, slice_range}
use Rattle.std.proofs.lemmas.Bool.{cases_lt}
use Rattle.std.proofs.lemmas.List.Elements.{All-cons, All-nil}
use Rattle.giop_cdr.specs.Layout.{AreOctets}
use Rattle.giop_cdr.proofs.LayoutLemmas.{octets_of_whole}
use Rattle.giop_msg.specs.declared.fault.WireFault.{WireFault}
use Rattle.giop_msg.specs.declared.msg.Msg.{Msg}
use Rattle.giop_msg.specs.Header.{header_of, header_fault}
use Rattle.giop_msg.specs.Laws.{EverySplit}
use Rattle.giop_msg.specs.Msg.{message_octets, IsMessage}
use Rattle.giop_msg.specs.Stream.{BeginsWithMessage, Msgs}
use Rattle.giop_msg.specs.Framing.{message_of}
use Rattle.giop_msg.proofs.FramerLemmas.{BeginsWithHeader, message_at_front, waits_for_header, waits_for_payload}
use Rattle.giop_msg.proofs.HeaderLemmas.{bounded}
use Rattle.giop_msg.proofs.StreamLemmas.{length-message_octets, message_or_fault}

-- a message stands at the front of octets, or none does
abbrev HasFront : ℕ → List ℕ → Type 0
HasFront limit octets = BeginsWithMessage limit octets ⊎ (BeginsWithMessage limit octets → ⊥)

front_by : (limit : ℕ) (octets : List ℕ) → limit < 2 ^ 32 → AreOctets octets → 12 ≤ length octets
    → (found : Option WireFault) → header_fault limit (take 12 octets) ≡ found → HasFront limit octets
front_by limit octets limited each long (Some e) is = inr (λ begins. message_or_fault limit octets e begins (long, is))
front_by limit octets limited each long None sound =
    let begins : BeginsWithHeader limit octets (header_of (take 12 octets)) = record { is = refl; sound = sound } in
    elim (cases_lt (length octets) (12 + (header_of (take 12 octets)).size)) as (λ _. HasFront limit octets) [
      | inl short ↦ inr (waits_for_payload limit octets (header_of (take 12 octets)) begins short).no_message
      | inr whole ↦
          let payload : List ℕ = slice_range octets 12 (12 + (header_of (take 12 octets)).size) in
          let found = message_at_front limit octets (header_of (take 12 octets)) payload (bounded octets each) begins limited whole refl in
          inl (message_of (header_of (take 12 octets)) payload, drop (12 + length payload) octets, found.0, found.1)
    ]

front : (limit : ℕ) (octets : List ℕ) → limit < 2 ^ 32 → AreOctets octets → HasFront limit octets
front limit octets limited each = elim (cases_lt (length octets) 12) as (λ _. HasFront limit octets) [
  | inl short ↦ inr (waits_for_header limit octets short).no_message
  | inr long ↦ front_by limit octets limited each long (header_fault limit (take 12 octets)) refl
]

-- a split of a stream
abbrev Split : ℕ → List ℕ → Type 0
Split limit stream = (messages : List Msg) × (rest : List ℕ) × Msgs limit stream messages rest

ends : (limit : ℕ) (stream : List ℕ) → (BeginsWithMessage limit stream → ⊥) → Split limit stream
ends limit stream none = ([], stream, record { whole = refl; each = All-nil (IsMessage limit); partial = none })

goes_on : (limit : ℕ) (stream : List ℕ) (m : Msg) (more : List ℕ) → IsMessage limit m → stream ≡ message_octets m ++ more → Split limit more
    → Split limit stream
goes_on limit stream m more is e (messages, rest, split) = (
  m ∷ messages,
  rest,
  record {
    whole =
        e ∙ ap (λ s. message_octets m ++ s) split.whole
        ∙ sym (append_assoc (message_octets m) (flat_map message_octets messages) rest);
    each = All-cons (IsMessage limit) m messages is split.each;
    partial = split.partial;
  },
)

splits : (fuel : ℕ) (limit : ℕ) (stream : List ℕ) → limit < 2 ^ 32 → AreOctets stream → length stream ≤ fuel → Split limit stream
splits zero limit stream limited each few = ends limit stream (waits_for_header limit stream (omega arith)).no_message
splits (suc fuel) limit stream limited each few = elim (front limit stream limited each) as (λ _. Split limit stream) [
  | inr none ↦ ends limit stream none
  | inl (m, more, is, e) ↦
      let fewer : length more ≤ fuel = omega (arith, few, ap length e, length-append (message_octets m) more, length-message_octets m) in
      goes_on limit stream m more is e (splits fuel limit more limited (octets_of_whole stream (message_octets m) more e each).1 fewer)
]

pub every_split : EverySplit
every_split limit stream limited each = splits (length stream) limit stream limited each (omega arith)
