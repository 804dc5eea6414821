-- Names that are put in order from the last to the first, and what is found there.
use Rattle.std.proofs.Common.{◌≡◌, ◌<◌, ◌≤◌, ℕ, zero, suc, ◌+◌, ◌^◌, nat_lt, Bor, BTreeMap, Ordering}
use Rattle.std.proofs.Common.{Bool, true, false, cond, if◌then◌else◌, Option, Some, None}
use Rattle.std.proofs.Common.{option_map, unwrap_or, List, [], ◌∷◌, length, drop, get_or, bytes_eq, refl, sym, ap, ◌∙◌, arith, nat_cmp}
use Rattle.std.proofs.Math.ListN.{drop_of_length-le}
use Rattle.std.proofs.lemmas.Bool.{lt-ltb, le-ltb}
use Rattle.std.proofs.lemmas.Map.Text.{is_eq-slice_cmp}
use Rattle.std.specs.BTreeMap.{get, is_at, IsEmpty}
use Rattle.std.specs.Cmp.Lexicographic.{slice_cmp}
use Rattle.std.specs.Map.{lookup}
use Rattle.std.specs.Str.{IsUtf8, chars}
use Rattle.giop_json.specs.FromJson.{ordinal_in, name_shown}
use Rattle.giop_json.specs.JsonText.{text_of, octets_in, octets_of_chars}
use Rattle.giop_json.specs.Ordinals.{ordinal_from, HasOrdinals}
use Rattle.giop_types.proofs.Coding.MemberLoops.{left_is}
use Rattle.giop_json.proofs.JsonTextLemmas.{same_texts}

-- the order of names
abbrev pub by_octets : Bor (List ℕ) → Bor (List ℕ) → Ordering
by_octets name other = slice_cmp nat_cmp name.now other.now

-- ---- the order as it is made

pub none_put : (names : List (List ℕ)) (n : ℕ) (map : BTreeMap (Bor (List ℕ)) ℕ) → length names ≤ n → IsEmpty map → HasOrdinals n map (drop n names)
none_put names n map le empty octets = rw (drop_of_length-le names le) (ap (lookup (is_at (by_octets octets))) empty)

-- the name before those that are there
pub name_put : (names : List (List ℕ)) (n m : ℕ) (name : List ℕ) (key : Bor (List ℕ)) (old new : BTreeMap (Bor (List ℕ)) ℕ) → n < length names
    → name ≡ get_or names n name → key.now ≡ name → n + 1 ≡ m
    → ((q : Bor (List ℕ)) → get by_octets new q ≡ cond (is_at (by_octets key) q) (Some n) (get by_octets old q))
    → HasOrdinals m old (drop m names) → HasOrdinals n new (drop n names)
name_put names n m name key old new lt is said next updates held octets =
    updates octets
    ∙ ap (λ b. cond b (Some n) (get by_octets old octets)) (is_eq-slice_cmp key.now octets.now ∙ ap (λ x. bytes_eq x octets.now) said)
    ∙ ap (cond (bytes_eq name octets.now) (Some n)) (held octets ∙ ap (λ k. ordinal_from k octets.now (drop k names)) (sym next))
    ∙ ap (ordinal_from n octets.now) (sym (left_is names n name lt is))

pub all_put : (names : List (List ℕ)) (n : ℕ) (map : BTreeMap (Bor (List ℕ)) ℕ) → n ≤ 0 → HasOrdinals n map (drop n names) → HasOrdinals 0 map names
all_put names zero map le held = held
all_put names (suc n) map le held = absurd (omega arith)

-- ---- what is found

octets_are_chars : (cs os : List ℕ) → octets_of_chars cs ≡ Some os → os ≡ cs
octets_are_chars [] os h = cc
octets_are_chars (c ∷ cs) os h = first (nat_lt c (2 ^ 8)) (octets_of_chars cs) (octets_are_chars cs) h
  where
    first : (b : Bool) (o : Option (List ℕ)) → ((os : List ℕ) → o ≡ Some os → os ≡ cs)
        → (if b then option_map (λ os. c ∷ os) o else None) ≡ Some os → os ≡ c ∷ cs
    first true (Some rest) more is = let same = more rest refl in cc
    first true None more is = absurd cc
    first false o more is = absurd cc

finds : (a b : Bool) (o : Option ℕ) (n k m many : ℕ) → a ≡ b → (if a then Some n else o) ≡ Some k → (o ≡ Some k → (k ≡ n + 1 + m) × (m < many))
    → (k ≡ n + (if b then 0 else m + 1)) × ((if b then 0 else m + 1) < suc many)
finds true true o n k m many same h rest = let e : k ≡ n = cc in (omega (arith, e), omega arith)
finds false false o n k m many same h rest = let r = rest h in (omega (arith, r.0), omega (arith, r.1))
finds true false o n k m many same h rest = absurd cc
finds false true o n k m many same h rest = absurd cc

misses : (a b : Bool) (o : Option ℕ) (n m many : ℕ) → a ≡ b → (if a then Some n else o) ≡ None → (o ≡ None → m ≡ many) → (if b then 0 else m + 1) ≡ suc many
misses true b o n m many same h rest = absurd cc
misses false false o n m many same h rest = let r = rest h in omega (arith, r)
misses false true o n m many same h rest = absurd cc

module _ (s : List ℕ) (utf8 : IsUtf8 s) where
  found_from : (names : List (List ℕ)) (n k : ℕ) → ordinal_from n (chars s) names ≡ Some k
      → (k ≡ n + ordinal_in s names) × (ordinal_in s names < length names)
  found_from [] n k h = absurd cc
  found_from (name ∷ names) n k h =
      finds (bytes_eq name (chars s)) (bytes_eq (text_of name) s) (ordinal_from (n + 1) (chars s) names) n k (ordinal_in s names) (length names)
      (same_texts name s utf8) h (found_from names (n + 1) k)

  missed_from : (names : List (List ℕ)) (n : ℕ) → ordinal_from n (chars s) names ≡ None → ordinal_in s names ≡ length names
  missed_from [] n h = refl
  missed_from (name ∷ names) n h =
      misses (bytes_eq name (chars s)) (bytes_eq (text_of name) s) (ordinal_from (n + 1) (chars s) names) n (ordinal_in s names) (length names)
      (same_texts name s utf8) h (missed_from names (n + 1))

  -- the ordinal of a text is that of its octets
  pub ordinal_of_octets : (names : List (List ℕ)) (octets : List ℕ) → Some octets ≡ octets_in s
      → name_shown names s ≡ Some (unwrap_or (ordinal_from 0 octets names) (length names))
  ordinal_of_octets names octets is =
      let same : octets ≡ chars s = octets_are_chars (chars s) octets (sym is) in
      by_outcome (ordinal_from 0 octets names) (ap (λ os. ordinal_from 0 os names) (sym same))
    where
      by_outcome : (o : Option ℕ) → ordinal_from 0 (chars s) names ≡ o → name_shown names s ≡ Some (unwrap_or o (length names))
      by_outcome (Some k) at =
          let found = found_from names 0 k at in
          let here : ordinal_in s names ≡ k = omega (arith, found.0) in
          rw (lt-ltb (ordinal_in s names) (length names) found.1) (ap (λ i. Some i) here)
      by_outcome None at =
          let missed = missed_from names 0 at in
          rw (missed, le-ltb (length names) (length names) (omega arith), sym is) refl
