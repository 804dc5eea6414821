-- Texts of JSON that stand for octets.
use Rattle.std.proofs.Common.{◌≡◌, ℕ, ◌<◌, ◌≤◌, ◌^◌, nat_lt, Bool, true, false, if◌then◌else◌, Option, Some, None}
use Rattle.std.proofs.Common.{option_map, option_and_then, List, [], ◌∷◌, length, drop, get_or, bytes_eq, ◌+◌, ◌==◌, ◌&&◌, inl, inr, refl, sym, ap, ◌∙◌, arith}
use Rattle.std.proofs.lemmas.Bool.{lt-ltb, le-ltb, ltb-true, eq-eqb, ne_eqb, and_parts, cases_lt}
use Rattle.std.proofs.lemmas.List.{drop_more, length-drop}
use Rattle.std.proofs.lemmas.Str.{encodes_same, encodes-chars}
use Rattle.std.proofs.Math.ListN.{drop_of_length-le}
use Rattle.std.specs.Cmp.Lexicographic.{bytes_decides}
use Rattle.std.specs.Str.{IsUtf8, chars}
use Rattle.giop_json.specs.JsonText.{text_of, octets_of_chars}
use Rattle.giop_types.proofs.Coding.MemberLoops.{left_is}
use Rattle.giop_types.proofs.Coding.PartLoops.{IsEachPart}

abbrev pub octet_of_char : ℕ → Option ℕ
octet_of_char c = if nat_lt c (2 ^ 8) then Some c else None

more_chars : (b : Bool) (c : ℕ) (cs : List ℕ) → (if b then option_map (λ octets. c ∷ octets) (octets_of_chars cs) else None)
    ≡ option_and_then (λ y. option_map (λ ys. y ∷ ys) (octets_of_chars cs)) (if b then Some c else None)
more_chars true c cs = refl
more_chars false c cs = refl

pub octets_of_chars-each : IsEachPart octet_of_char octets_of_chars
octets_of_chars-each = record { none = refl; more = λ c cs. more_chars (nat_lt c (2 ^ 8)) c cs }

pub low_char : (c : ℕ) → c < 2 ^ 8 → octet_of_char c ≡ Some c
low_char c h = rw (lt-ltb c (2 ^ 8) h) refl

pub high_char : (c : ℕ) → 2 ^ 8 ≤ c → octet_of_char c ≡ None
high_char c h = rw (le-ltb c (2 ^ 8) h) refl

-- ---- octets beside the characters of a text

-- both lists from a place on
here : (k : ℕ) (os cs : List ℕ) (c : ℕ) → k < length os → k < length cs → c ≡ get_or cs k c
    → bytes_eq (drop k os) (drop k cs) ≡ bytes_eq (get_or os k 0 ∷ drop (k + 1) os) (c ∷ drop (k + 1) cs)
here k os cs c lt le is = rw (drop_more os k 0 lt, left_is cs k c le is) refl

heads : (b : Bool) (o c : ℕ) (os cs : List ℕ) → (o == c) ≡ b → bytes_eq (o ∷ os) (c ∷ cs) ≡ (b && bytes_eq os cs)
heads b o c os cs is = rw is refl

too_few : (k : ℕ) (os cs : List ℕ) (c : ℕ) → length os ≤ k → k < length cs → c ≡ get_or cs k c → bytes_eq (drop k os) (drop k cs) ≡ false
too_few k os cs c few lt is = rw (drop_of_length-le os few, left_is cs k c lt is) refl

second_fails : (a b : Bool) → a ≡ true → (a && b) ≡ false → b ≡ false
second_fails true b is h = h
second_fails false b is h = absurd cc

pub goes_on : (k : ℕ) (os cs : List ℕ) (c : ℕ) → k < length cs → c ≡ get_or cs k c → (nat_lt k (length os) && (get_or os k 0 == c)) ≡ true
    → bytes_eq (drop k os) (drop k cs) ≡ bytes_eq (drop (k + 1) os) (drop (k + 1) cs)
goes_on k os cs c le is at =
    let parts = and_parts (nat_lt k (length os)) (get_or os k 0 == c) at in
    here k os cs c (ltb-true k (length os) parts.0) le is ∙ heads true (get_or os k 0) c (drop (k + 1) os) (drop (k + 1) cs) parts.1

pub parts_here : (k : ℕ) (os cs : List ℕ) (c : ℕ) → k < length cs → c ≡ get_or cs k c → (nat_lt k (length os) && (get_or os k 0 == c)) ≡ false
    → bytes_eq (drop k os) (drop k cs) ≡ false
parts_here k os cs c le is at = elim (cases_lt k (length os)) [
  | inl lt ↦ here k os cs c lt le is
      ∙ heads false (get_or os k 0) c (drop (k + 1) os) (drop (k + 1) cs)
      (second_fails (nat_lt k (length os)) (get_or os k 0 == c) (lt-ltb k (length os) lt) at)
  | inr few ↦ too_few k os cs c few le is
]

none_left : (os : List ℕ) → bytes_eq os [] ≡ (length os == 0)
none_left [] = refl
none_left (o ∷ os) = sym (ne_eqb (length (o ∷ os)) 0 (λ e. omega arith))

same_end : (k : ℕ) (os : List ℕ) → k ≤ length os → (length (drop k os) == 0) ≡ (k == length os)
same_end k os le = elim (cases_lt k (length os)) [
  | inl lt ↦ ne_eqb (length (drop k os)) 0 (λ e. omega (arith, length-drop k os)) ∙ sym (ne_eqb k (length os) (λ e. omega arith))
  | inr ge ↦ eq-eqb (length (drop k os)) 0 (omega (arith, length-drop k os)) ∙ sym (eq-eqb k (length os) (omega arith))
]

pub at_end : (k : ℕ) (os cs : List ℕ) → length cs ≤ k → k ≤ length os → bytes_eq (drop k os) (drop k cs) ≡ (k == length os)
at_end k os cs few le =
    rw (drop_of_length-le cs few) (none_left (drop k os) ∙ same_end k os le)

pub place_bound : (k : ℕ) (os : List ℕ) (c : ℕ) → (nat_lt k (length os) && (get_or os k 0 == c)) ≡ true → k < length os
place_bound k os c at = ltb-true k (length os) (and_parts (nat_lt k (length os)) (get_or os k 0 == c) at).0

-- octets are the characters of a text where their text is that text
pub same_texts : (os s : List ℕ) → IsUtf8 s → bytes_eq os (chars s) ≡ bytes_eq (text_of os) s
same_texts os s utf8 = both_or_none (bytes_eq os (chars s)) (bytes_eq (text_of os) s)
    (λ e. (bytes_decides (text_of os) s).1 (ap text_of ((bytes_decides os (chars s)).0 e) ∙ encodes-chars s utf8))
    (λ e. (bytes_decides os (chars s)).1 (encodes_same os (chars s) ((bytes_decides (text_of os) s).0 e ∙ sym (encodes-chars s utf8))))
  where
    both_or_none : (a b : Bool) → (a ≡ true → b ≡ true) → (b ≡ true → a ≡ true) → a ≡ b
    both_or_none true b to from = sym (to refl)
    both_or_none false true to from = from refl
    both_or_none false false to from = refl
