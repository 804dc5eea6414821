-- The parts of a written corbaloc, one behind the other.
use Rattle.std.proofs.Common.{◌≡◌, ℕ, ◌+◌, ◌/◌, ◌%◌, ◌^◌, ◌<◌, ◌≤◌, ◌==◌, Bool, true, false, not, List, [], ◌∷◌, ◌++◌, length, get_or, take, codes, if◌then◌else◌, refl, sym, ap, ◌∙◌, arith, append_assoc, inl, inr}
use Rattle.std.specs.Fmt.{decimal}
use Rattle.std.proofs.lemmas.Fmt.{decimal_step}
use Rattle.std.specs.List.{flat_map}
use Rattle.std.proofs.lemmas.Bool.{cases_lt}
use Rattle.std.proofs.lemmas.Bool.Decides.{nat_tests}
use Rattle.std.proofs.lemmas.Grind.{common_steps}
use Rattle.percent_encoding.specs.AsciiSet.{should_percent_encode}
use Rattle.percent_encoding.specs.Percent.{percent_encode, percent_encode_byte, encode_byte}
use Rattle.giop_ior.specs.declared.addresses.address.Address.{Address}
use Rattle.giop_ior.specs.declared.addresses.key_text.TheConstants.{ESCAPED}
use Rattle.giop_ior.specs.Corbaloc.{is_key_octet}
use Rattle.giop_ior.specs.CorbalocWriting.{address_text, comma_before, addresses_text, key_octet_text, key_text}
use Rattle.giop_ior.proofs.KeyLemmas.{keeps}

-- ---- the addresses

onto : (one : Address) (more : List Address) (a : Address)
    → addresses_text ((one ∷ more) ++ a ∷ []) ≡ addresses_text (one ∷ more) ++ 44 ∷ address_text a
onto one [] a = refl
onto one (two ∷ more) a =
    ap (λ u. address_text one ++ 44 ∷ u) (onto two more a) ∙ sym (append_assoc (address_text one) (44 ∷ addresses_text (two ∷ more)) (44 ∷ address_text a))

some_onto : (front : List Address) (a : Address) → 0 < length front → addresses_text (front ++ a ∷ []) ≡ addresses_text front ++ 44 ∷ address_text a
some_onto [] a some = absurd (omega arith)
some_onto (one ∷ more) a some = onto one more a

-- the first address
first_address : (addresses : List Address) (i : ℕ) (d : Address) → i < length addresses → i ≡ 0
    → addresses_text (take (i + 1) addresses) ≡ addresses_text (take i addresses) ++ address_text (get_or addresses i d)
first_address [] i d within none = absurd (omega arith)
first_address (a ∷ more) i d within none = rw none refl

-- one address more
more_addresses : (addresses : List Address) (i : ℕ) (d : Address) → i < length addresses → 0 < i
    → addresses_text (take (i + 1) addresses) ≡ addresses_text (take i addresses) ++ 44 ∷ address_text (get_or addresses i d)
more_addresses addresses i d within above =
    let next : take (i + 1) addresses ≡ take i addresses ++ get_or addresses i d ∷ [] = grind (arith, common_steps) in
    let some : length (take i addresses) ≡ i = grind (arith, common_steps) in
    ap addresses_text next ∙ some_onto (take i addresses) (get_or addresses i d) (omega arith)

-- the address at an index, behind those before it
pub addresses_on : (addresses : List Address) (i : ℕ) (d : Address) → i < length addresses
    → addresses_text (take (i + 1) addresses) ≡ addresses_text (take i addresses) ++ (comma_before i ++ address_text (get_or addresses i d))
addresses_on addresses i d within = elim (cases_lt 0 i) [
  | inl above ↦
      let some : (i == 0) ≡ false = grind (arith, nat_tests) in
      rw some (more_addresses addresses i d within above)
  | inr none ↦
      let zero_is : i ≡ 0 = omega arith in
      let first : (i == 0) ≡ true = grind (arith, nat_tests) in
      rw first (first_address addresses i d within zero_is)
]

pub listed_on : (old before after : List ℕ) (addresses : List Address) (i : ℕ) (a : Address) → i < length addresses
    → before ≡ old ++ addresses_text (take i addresses) → after ≡ before ++ (comma_before i ++ address_text a) → a ≡ get_or addresses i a
    → after ≡ old ++ addresses_text (take (i + 1) addresses)
listed_on old before after addresses i a within front back there =
    back ∙ ap (λ u. u ++ (comma_before i ++ address_text a)) front
    ∙ append_assoc old (addresses_text (take i addresses)) (comma_before i ++ address_text a)
    ∙ ap (λ u. old ++ (addresses_text (take i addresses) ++ (comma_before i ++ address_text u))) there
    ∙ ap (λ u. old ++ u) (sym (addresses_on addresses i a within))

-- a number's last digit behind the others
pub number_on : (old before after : List ℕ) (n : ℕ) → 10 ≤ n → n < 2 ^ 64
    → before ≡ old ++ decimal (n / 10) → after ≡ before ++ (48 + n % 10) ∷ [] → after ≡ old ++ decimal n
number_on old before after n above small front back =
    back ∙ ap (λ u. u ++ (48 + n % 10) ∷ []) front ∙ append_assoc old (decimal (n / 10)) ((48 + n % 10) ∷ [])
    ∙ ap (λ u. old ++ u) (sym (decimal_step n above small))

-- ---- the key

by_test : (p q : Bool) (xs ys : List ℕ) → not q ≡ p → (if q then xs else ys) ≡ (if p then ys else xs)
by_test true true xs ys h = let wrong : false ≡ true = h in absurd (cc)
by_test true false xs ys h = refl
by_test false true xs ys h = refl
by_test false false xs ys h = let wrong : true ≡ false = h in absurd (cc)

escapes_all : (key : List ℕ) → flat_map (encode_byte ESCAPED) key ≡ flat_map key_octet_text key
escapes_all [] = refl
escapes_all (x ∷ key) =
    ap (λ u. u ++ flat_map (encode_byte ESCAPED) key) (by_test (is_key_octet x) (should_percent_encode ESCAPED x) (percent_encode_byte x) (x ∷ []) (keeps x))
    ∙ ap (λ u. key_octet_text x ++ u) (escapes_all key)

-- a key that isn't empty, as the crate percent_encoding escapes it
pub key_escaped : (key : List ℕ) → 0 < length key → codes "/" ++ percent_encode ESCAPED key ≡ key_text key
unfolding percent_encode
key_escaped [] some = absurd (omega arith)
key_escaped (x ∷ key) some = ap (λ u. codes "/" ++ u) (escapes_all (x ∷ key))

-- the key behind what was written before
pub key_on : (old key : List ℕ) → 0 < length key → old ++ codes "/" ++ percent_encode ESCAPED key ≡ old ++ key_text key
key_on old key some = append_assoc old (codes "/") (percent_encode ESCAPED key) ∙ ap (λ u. old ++ u) (key_escaped key some)
