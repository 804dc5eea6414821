-- A corbaloc text is read as the grammar has it.
use Rattle.std.proofs.Common.{◌≡◌, ◌≢◌, ℕ, ◌+◌, ◌==◌, ◌&&◌, Bool, true, false, List, [], ◌∷◌, ◌++◌, length, drop, Option, Some, None, Ok, Err, if◌then◌else◌, codes, refl, sym, ap, subst, ◌∙◌, arith, append_assoc, append-nil, inl, inr, IfOk, IfErr, IsOk, ◌⊎◌}
use Rattle.std.specs.Char.{is_digit, digit_value}
use Rattle.std.specs.List.{slice_split, join_with_byte}
use Rattle.std.proofs.lemmas.Bool.{false≢true, ltb-true, eqb-true}
use Rattle.std.proofs.lemmas.List.Splits.{join_with_byte-slice_split, slice_split_none, slice_split_at, length-slice_split}
use Rattle.percent_encoding.specs.Percent.{percent_decode}
use Rattle.percent_encoding.proofs.PercentLemmas.{percent_decode-nil, percent_decode_escape, percent_decode_not_percent}
use Rattle.giop_ior.specs.declared.addresses.address.Address.{Address}
use Rattle.giop_ior.specs.declared.addresses.corbaloc.Corbaloc.{Corbaloc}
use Rattle.giop_ior.specs.declared.addresses.corbaloc_fault.CorbalocFault.{CorbalocFault}
use Rattle.giop_ior.specs.declared.addresses.corbaloc_fault.CorbalocKind.TheVariants.{BadPrefix}
use Rattle.giop_ior.specs.Corbaloc.{CorbalocText, AddressesText, AddressText, KeyPartText, KeyText, KeyOctetText, is_key_octet}
use Rattle.giop_ior.specs.CorbalocFault.{Read, fault, IsAnswered, no_memory}
use Rattle.giop_ior.specs.CorbalocReading.{cut, begins, address_at, each_at, addresses_at, key_fault, key_unless, key_at, is_escape, wrong_key_octet, corbaloc_of_parts, corbaloc_of}
use Rattle.giop_ior.proofs.AddressLemmas.{begins_found, address_found, address_only, address_lacks}
use Rattle.giop_ior.proofs.CutLemmas.{Lacks, cut_some, cut_is, cut_lacks}
use Rattle.giop_ior.proofs.KeyFaultLemmas.{kept_goes_on, escape_goes_on}
use Rattle.giop_ior.proofs.NumberLemmas.{both}
use Rattle.giop_ior.proofs.PartLemmas.{lacks_both, lacks_literal}
use Rattle.giop_ior.proofs.StepLemmas.{then_none, step_ok, ok_is}

-- ---- the addresses

each_found : (at : ℕ) (one : List ℕ) (more : List (List ℕ)) (addresses : List Address)
    → each_at at (one ∷ more) ≡ Ok addresses → AddressesText addresses (join_with_byte 44 (one ∷ more))
each_found at one [] addresses is =
    let a = step_ok (address_at at one) _ addresses is in
    subst (λ u. AddressesText u one) (ok_is a.2) (address_found at one a.0 a.1)
each_found at one (two ∷ more) addresses is =
    let a = step_ok (address_at at one) _ addresses is in
    let rest = step_ok (each_at (at + length one + 1) (two ∷ more)) _ addresses a.2 in
    let back = each_found (at + length one + 1) two more rest.0 rest.1 in
    subst (λ u. AddressesText u (join_with_byte 44 (one ∷ two ∷ more))) (ok_is rest.2)
    (onto a.0 rest.0 one (join_with_byte 44 (two ∷ more)) (address_found at one a.0 a.1) back)
  where
    onto : (a : Address) (rest : List Address) (first back : List ℕ) → AddressText a first → AddressesText rest back
        → AddressesText (a ∷ rest) (first ++ 44 ∷ back)
    onto a [] first back here there = absurd there
    onto a (b ∷ rest) first back here there = (first, back, sym (append_assoc first (44 ∷ []) back), here, there)

pub addresses_found : (at : ℕ) (text : List ℕ) (addresses : List Address) → addresses_at at text ≡ Ok addresses → AddressesText addresses text
addresses_found at text addresses is = go (slice_split (λ x. x == 44) text) refl
  where
    go : (pieces : List (List ℕ)) → slice_split (λ x. x == 44) text ≡ pieces → AddressesText addresses text
    go [] parted = let none : 0 ≡ length (slice_split (λ x. x == 44) text) = sym (ap length parted) in
        absurd (omega (arith, none, length-slice_split (λ x. x == 44) text))
    go (one ∷ more) parted =
        let joined : join_with_byte 44 (one ∷ more) ≡ text = ap (join_with_byte 44) (sym parted) ∙ join_with_byte-slice_split 44 text in
        subst (λ u. AddressesText addresses u) joined (each_found at one more addresses (ap (each_at at) (sym parted) ∙ is))

-- no address has a comma or a slash
lacks_comma : (text : List ℕ) (a : Address) → AddressText a text → Lacks 44 text
lacks_comma text a is = address_lacks 44 text a refl refl refl refl refl (lacks_literal 44 (codes "iiop:") refl) is

lacks_slash : (text : List ℕ) (a : Address) → AddressText a text → Lacks 47 text
lacks_slash text a is = address_lacks 47 text a refl refl refl refl refl (lacks_literal 47 (codes "iiop:") refl) is

pub addresses_only : (at : ℕ) (text : List ℕ) (addresses : List Address) → AddressesText addresses text → addresses_at at text ≡ Ok addresses
addresses_only at text [] is = absurd is
addresses_only at text (a ∷ []) is =
    rw (slice_split_none (λ x. x == 44) text (lacks_comma text a is), address_only at text a is) refl
addresses_only at text (a ∷ b ∷ more) is =
    let whole : text ≡ is.0 ++ 44 ∷ is.1 = is.2 ∙ append_assoc is.0 (44 ∷ []) is.1 in
    rw (
      whole,
      slice_split_at (λ x. x == 44) is.0 44 is.1 (lacks_comma is.0 a is.3) refl,
      address_only at is.0 a is.3,
      addresses_only (at + length is.0 + 1) is.1 (b ∷ more) is.4,
    )
    refl

addresses_lack_slash : (text : List ℕ) (addresses : List Address) → AddressesText addresses text → Lacks 47 text
addresses_lack_slash text [] is = absurd is
addresses_lack_slash text (a ∷ []) is = lacks_slash text a is
addresses_lack_slash text (a ∷ b ∷ more) is =
    rw is.2 (lacks_both 47 (is.0 ++ 44 ∷ []) is.1 (lacks_both 47 is.0 (44 ∷ []) (lacks_slash is.0 a is.3) (lacks_literal 47 (44 ∷ []) refl))
    (addresses_lack_slash is.1 (b ∷ more) is.4))

-- ---- the key

not_percent : (x : ℕ) → is_key_octet x ≡ true → x ≢ 37
not_percent x kept e = false≢true (sym (ap is_key_octet e) ∙ kept)

kept_found : (x : ℕ) (text : List ℕ) → is_key_octet x ≡ true → KeyText (percent_decode text) text → KeyText (percent_decode (x ∷ text)) (x ∷ text)
kept_found x text kept rest = rw (percent_decode_not_percent x text (not_percent x kept)) (x ∷ [], text, refl, inl (refl, kept), rest)

escaped_found : (x y z : ℕ) (text : List ℕ) → is_escape x y z ≡ true → KeyText (percent_decode text) text
    → KeyText (percent_decode (x ∷ y ∷ z ∷ text)) (x ∷ y ∷ z ∷ text)
escaped_found x y z text escape rest =
    let one = both (x == 37 && is_digit y 16) (is_digit z 16) escape in
    let two = both (x == 37) (is_digit y 16) one.0 in
    let mark : x ≡ 37 = eqb-true x 37 two.0 in
    rw (percent_decode_escape x y z text mark (ltb-true (digit_value y) 16 two.1) (ltb-true (digit_value z) 16 one.1))
    (x ∷ y ∷ z ∷ [], text, refl, inr (record { high = y; low = z; parts = ap (λ u. u ∷ y ∷ z ∷ []) mark; is_high = two.1; is_low = one.1; value = refl }), rest)

pub key_found : (at : ℕ) (text : List ℕ) → key_fault at text ≡ None → KeyText (percent_decode text) text
key_found at [] is = rw percent_decode-nil refl
key_found at (x ∷ []) is =
    let here = then_none (is_key_octet x) None (fault at (wrong_key_octet x)) is in
    kept_found x [] here.0 (key_found (at + 1) [] refl)
key_found at (x ∷ y ∷ []) is =
    let here = then_none (is_key_octet x) (key_fault (at + 1) (y ∷ [])) (fault at (wrong_key_octet x)) is in
    kept_found x (y ∷ []) here.0 (key_found (at + 1) (y ∷ []) here.1)
key_found at (x ∷ y ∷ z ∷ text) is = go (key_found (at + 1) (y ∷ z ∷ text)) (key_found (at + 3) text) (is_key_octet x) refl is
  where
    go : (key_fault (at + 1) (y ∷ z ∷ text) ≡ None → KeyText (percent_decode (y ∷ z ∷ text)) (y ∷ z ∷ text))
        → (key_fault (at + 3) text ≡ None → KeyText (percent_decode text) text)
        → (kept : Bool) → is_key_octet x ≡ kept
        → (if kept then key_fault (at + 1) (y ∷ z ∷ text) else if is_escape x y z then key_fault (at + 3) text else Some (fault at (wrong_key_octet x))) ≡ None
        → KeyText (percent_decode (x ∷ y ∷ z ∷ text)) (x ∷ y ∷ z ∷ text)
    go one three true kept h = kept_found x (y ∷ z ∷ text) kept (one h)
    go one three false kept h =
        let here = then_none (is_escape x y z) (key_fault (at + 3) text) (fault at (wrong_key_octet x)) h in
        escaped_found x y z text here.0 (three here.1)

pub key_only : (at : ℕ) (text key : List ℕ) → KeyText key text → (key_fault at text ≡ None) × (percent_decode text ≡ key)
key_only at text [] is = rw is (refl, percent_decode-nil)
key_only at text (octet ∷ key) is = go (λ k. key_only k is.1 key is.4) is.3
  where
    go : ((k : ℕ) → (key_fault k is.1 ≡ None) × (percent_decode is.1 ≡ key)) → KeyOctetText octet is.0
        → (key_fault at text ≡ None) × (percent_decode text ≡ octet ∷ key)
    go behind (inl kept) =
        let whole : text ≡ octet ∷ is.1 = is.2 ∙ ap (λ u. u ++ is.1) kept.0 in
        let step = kept_goes_on at (octet ∷ is.1) (omega arith) kept.1 in
        let rest = behind (at + 1) in
        rw whole (step.1 ∙ rest.0, percent_decode_not_percent octet is.1 (not_percent octet kept.1) ∙ ap (λ u. octet ∷ u) rest.1)
    go behind (inr escaped) =
        let whole : text ≡ 37 ∷ escaped.high ∷ escaped.low ∷ is.1 = is.2 ∙ ap (λ u. u ++ is.1) escaped.parts in
        let tests : is_escape 37 escaped.high escaped.low ≡ true = rw (escaped.is_high, escaped.is_low) refl in
        let step = escape_goes_on at (37 ∷ escaped.high ∷ escaped.low ∷ is.1) refl tests in
        let rest = behind (at + 3) in
        let decoded = percent_decode_escape 37 escaped.high escaped.low is.1 refl (ltb-true (digit_value escaped.high) 16 escaped.is_high)
        (ltb-true (digit_value escaped.low) 16 escaped.is_low) in
        rw whole (step.1 ∙ rest.0, decoded ∙ ap (λ u. u ∷ percent_decode is.1) (sym escaped.value) ∙ ap (λ u. octet ∷ u) rest.1)

-- ---- the whole text

unless_found : (o : Option CorbalocFault) (at : ℕ) (text key : List ℕ) → key_fault at text ≡ o → key_unless o text ≡ Ok key → KeyText key text
unless_found (Some e) at text key is h = absurd (cc)
unless_found None at text key is h = subst (λ u. KeyText u text) (ok_is h) (key_found at text is)

whole_found : (o : Option (List ℕ × List ℕ)) (text body : List ℕ) (c : Corbaloc) → text ≡ codes "corbaloc:" ++ body
    → cut 47 body ≡ o → corbaloc_of_parts body o ≡ Ok c → CorbalocText c text
unfolding key_at
whole_found None text body c begins parted is =
    let list = step_ok (addresses_at 9 body) _ c is in
    let own : CorbalocText (record { addresses = list.0; key = [] }) text =
    record {
      front = body;
      back = [];
      parts = begins ∙ sym (append-nil (codes "corbaloc:" ++ body));
      listed = addresses_found 9 body list.0 list.1;
      keyed = inl (refl, refl);
    } in
    subst (λ u. CorbalocText u text) (ok_is list.2) own
whole_found (Some p) text body c begins parted is =
    let there = cut_some 47 body p.0 p.1 parted in
    let list = step_ok (addresses_at 9 p.0) _ c is in
    let key = step_ok (key_at (9 + length p.0 + 1) p.1) _ c list.2 in
    let own : CorbalocText (record { addresses = list.0; key = key.0 }) text =
    record {
      front = p.0;
      back = 47 ∷ p.1;
      parts = begins ∙ ap (λ u. codes "corbaloc:" ++ u) there.parts;
      listed = addresses_found 9 p.0 list.0 list.1;
      keyed = inr (p.1, refl, unless_found (key_fault (9 + length p.0 + 1) p.1) (9 + length p.0 + 1) p.1 key.0 refl key.1);
    } in
    subst (λ u. CorbalocText u text) (ok_is key.2) own

-- what is answered is spelled
pub corbaloc_found : (text : List ℕ) (c : Corbaloc) → corbaloc_of text ≡ Ok c → CorbalocText c text
unfolding corbaloc_of
corbaloc_found text c is = go (begins (codes "corbaloc:") text) refl is
  where
    go : (p : Bool) → begins (codes "corbaloc:") text ≡ p
        → (if p then corbaloc_of_parts (drop 9 text) (cut 47 (drop 9 text)) else Err (fault 0 BadPrefix)) ≡ Ok c → CorbalocText c text
    go true front h = whole_found (cut 47 (drop 9 text)) text (drop 9 text) c (begins_found (codes "corbaloc:") text front) refl h
    go false front h = absurd (cc)

-- what is spelled is answered
pub corbaloc_only : (text : List ℕ) (c : Corbaloc) → CorbalocText c text → corbaloc_of text ≡ Ok c
unfolding corbaloc_of key_at
corbaloc_only text c is = go is.keyed
  where
    lacks : Lacks 47 is.front
    lacks = addresses_lack_slash is.front c.addresses is.listed

    go : KeyPartText c.key is.back → corbaloc_of text ≡ Ok c
    go (inl none) =
        let whole : text ≡ codes "corbaloc:"
        ++ is.front = is.parts ∙ ap (λ u. codes "corbaloc:" ++ is.front ++ u) none.0 ∙ append-nil (codes "corbaloc:" ++ is.front) in
        rw (whole, cut_lacks 47 is.front lacks, addresses_only 9 is.front c.addresses is.listed)
        (ap (λ u. Ok (record { addresses = c.addresses; key = u })) (sym none.1))
    go (inr some) =
        let whole : text ≡ codes "corbaloc:"
        ++ (is.front ++ 47 ∷ some.0) = is.parts ∙ ap (λ u. codes "corbaloc:" ++ is.front ++ u) some.1 ∙ simp append_assoc in
        let key = key_only (9 + length is.front + 1) some.0 c.key some.2 in
        rw (whole, cut_is 47 is.front some.0 lacks, addresses_only 9 is.front c.addresses is.listed, key.0, key.1) refl

-- ---- what a call answers

pub answer_found : (text : List ℕ) (r : Read Corbaloc) → IfOk r (λ c. corbaloc_of text ≡ Ok c) → IfOk r (λ c. CorbalocText c text)
answer_found text (Ok c) is = corbaloc_found text c is
answer_found text (Err e) is = tt

pub answer_only : (text : List ℕ) (r : Read Corbaloc) → IfOk r (λ c. corbaloc_of text ≡ Ok c)
    → IfErr r (λ e. (corbaloc_of text ≡ Err e) ⊎ ((e ≡ no_memory) × IsOk (corbaloc_of text))) → (c : Corbaloc) → CorbalocText c text → IsAnswered r c
answer_only text (Ok d) is refused c spelled = ok_is (sym is ∙ corbaloc_only text c spelled)
answer_only text (Err e) is (inl other) c spelled = let wrong = sym other ∙ corbaloc_only text c spelled in absurd (cc)
answer_only text (Err e) is (inr wanting) c spelled = wanting.0
