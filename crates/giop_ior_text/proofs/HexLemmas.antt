-- Hexadecimal digits: what the crate that decodes them answers, as the grammar of octets says it.
use Rattle.std.proofs.Common.{◌≡◌, ℕ, zero, suc, ◌+◌, ◌*◌, ◌<◌, Bool, true, false, if◌then◌else◌, List, [], ◌∷◌, length, Some, None, Result, Ok, Err, refl, sym, ap, ◌∙◌, subst, arith}
use Rattle.std.proofs.lemmas.Bool.{ltb-true}
use Rattle.std.proofs.lemmas.Bool.Decides.{nat_tests}
use Rattle.std.proofs.lemmas.List.Elements.{All-cons, All-head, All-nil, All-tail}
use Rattle.std.specs.Char.{is_digit, digit_value}
use Rattle.hex.specs.declared.error.FromHexError.{FromHexError}
use Rattle.hex.specs.Hex.{hex_digit_value, value_at, digit_or_error, pair_value, decode_pairs, decode_of, encode_lower, IsBytes, ◌>>=◌}
use Rattle.hex.proofs.Pairs.{cons_byte, decode_pairs-ok_pair}
use Rattle.hex.proofs.HexLemmas.{decode_of-even, decode_of-ok, decode_of-encode_lower}
use Rattle.giop_cdr.specs.Layout.{AreOctets}
use Rattle.giop_ior_text.specs.IorText.{OctetText, OctetsText}

-- the value of a digit
digit_same : (c : ℕ) → hex_digit_value c ≡ (if is_digit c 16 then Some (digit_value c) else None)
digit_same c = grind (arith, nat_tests)

-- ---- what the grammar says is decoded

digit_read : (c i : ℕ) → is_digit c 16 ≡ true → value_at c i ≡ Ok (digit_value c)
digit_read c i is = rw (digit_same c, is) refl

pair_read : (h l i : ℕ) → is_digit h 16 ≡ true → is_digit l 16 ≡ true → pair_value h l i ≡ Ok (16 * digit_value h + digit_value l)
pair_read h l i high low = rw (digit_read h i high, digit_read l (i + 1) low) (ap Ok (omega arith))

pairs_read : (octets text : List ℕ) (i : ℕ) → OctetsText octets text → decode_pairs i text ≡ Ok octets
unfolding decode_pairs
pairs_read [] text i is = rw is refl
pairs_read (o ∷ octets) text i is =
    let d = is.3 in
    let pair = pair_read d.high d.low i d.is_high d.is_low in
    rw (is.2, d.parts) (decode_pairs-ok_pair i d.high d.low _ is.1 pair
    ∙ ap (cons_byte (16 * digit_value d.high + digit_value d.low)) (pairs_read octets is.1 (i + 2) is.4)
    ∙ ap (λ (x : ℕ). Ok (x ∷ octets)) (sym d.value))

two_each : (octets text : List ℕ) → OctetsText octets text → length text ≡ 2 * length octets
two_each [] text is = rw is refl
two_each (o ∷ octets) text is =
    let d = is.3 in
    let more = two_each octets is.1 is.4 in
    rw (is.2, d.parts) (omega (arith, more))

pub octets_read : (octets text : List ℕ) → OctetsText octets text → decode_of text ≡ Ok octets
octets_read octets text is = decode_of-even text (omega (arith, two_each octets text is)) ∙ pairs_read octets text 0 is

-- ---- and nothing else is

step : {A B : Type 0} (r : Result A FromHexError) (f : A → Result B FromHexError) (y : B) → (r >>= f) ≡ Ok y → (x : A) × (r ≡ Ok x) × (f x ≡ Ok y)
step (Ok x) f y is = (x, refl, is)
step (Err e) f y is = absurd (cc)

answer_is : {A : Type 0} {x y : A} → ◌≡◌ {A = Result A FromHexError} (Ok x) (Ok y) → x ≡ y
answer_is is = cc

digit_found : (c i v : ℕ) → value_at c i ≡ Ok v → (is_digit c 16 ≡ true) × (v ≡ digit_value c)
digit_found c i v is = go (is_digit c 16) refl (rw (digit_same c) at is)
  where
    go : (b : Bool) → is_digit c 16 ≡ b → digit_or_error c i (if b then Some (digit_value c) else None) ≡ Ok v → (is_digit c 16 ≡ true) × (v ≡ digit_value c)
    go true same h = (same, sym (answer_is h))
    go false same h = absurd (cc)

sum_same : (a b x y : ℕ) → a ≡ x → b ≡ y → a * 16 + b ≡ 16 * x + y
sum_same a b x y one two = omega arith

pair_found : (h l i v : ℕ) → pair_value h l i ≡ Ok v → OctetText v (h ∷ l ∷ [])
pair_found h l i v is =
    let high = step (value_at h i) _ v is in
    let low = step (value_at l (i + 1)) _ v high.2 in
    let one = digit_found h i high.0 high.1 in
    let two = digit_found l (i + 1) low.0 low.1 in
    record { high = h; low = l; parts = refl; is_high = one.0; is_low = two.0; value = sym (answer_is low.2) ∙ sum_same _ _ _ _ one.1 two.1 }

pairs_found : (octets text : List ℕ) (i : ℕ) → decode_pairs i text ≡ Ok octets → OctetsText octets text
unfolding decode_pairs
pairs_found octets [] i is = subst (λ (u : List ℕ). OctetsText u []) (answer_is is) refl
pairs_found octets (d ∷ []) i is = absurd (cc)
pairs_found octets (h ∷ l ∷ text) i is =
    let one = step (pair_value h l i) _ octets is in
    let more = step (decode_pairs (i + 2) text) _ octets one.2 in
    subst (λ (u : List ℕ). OctetsText u (h ∷ l ∷ text)) (answer_is more.2)
    (h ∷ l ∷ [], text, refl, pair_found h l i one.0 one.1, pairs_found more.0 text (i + 2) more.1)

pub octets_found : (octets text : List ℕ) → decode_of text ≡ Ok octets → OctetsText octets text
octets_found octets text is =
    let even = (decode_of-ok text octets is).0 in
    pairs_found octets text 0 (sym (decode_of-even text even) ∙ is)

-- ---- what is encoded

bytes_of : (octets : List ℕ) → AreOctets octets → IsBytes octets
bytes_of [] all i = omega arith
bytes_of (o ∷ octets) all zero = All-head (λ octet. octet < 256) o octets all
bytes_of (o ∷ octets) all (suc i) = bytes_of octets (All-tail (λ octet. octet < 256) o octets all) i

-- the digits of octets say them
pub digits_say : (octets : List ℕ) → AreOctets octets → OctetsText octets (encode_lower octets)
digits_say octets all = octets_found octets (encode_lower octets) (decode_of-encode_lower octets (bytes_of octets all))

sixteen : (h l octet : ℕ) → is_digit h 16 ≡ true → is_digit l 16 ≡ true → octet ≡ 16 * digit_value h + digit_value l → octet < 256
sixteen h l octet high low is =
    let one : digit_value h < 16 = ltb-true (digit_value h) 16 high in
    let two : digit_value l < 16 = ltb-true (digit_value l) 16 low in
    omega arith

-- what digits say is octets
pub are_octets_said : (octets text : List ℕ) → OctetsText octets text → AreOctets octets
are_octets_said [] text is = All-nil (λ octet. octet < 256)
are_octets_said (o ∷ octets) text is =
    let d = is.3 in
    All-cons (λ octet. octet < 256) o octets (sixteen d.high d.low o d.is_high d.is_low d.value) (are_octets_said octets is.1 is.4)
