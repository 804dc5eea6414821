-- A key is refused as the grammar has it.
use Rattle.std.proofs.Common.{◌≡◌, ℕ, ◌+◌, ◌<◌, ◌==◌, ◌&&◌, Bool, true, false, List, [], ◌∷◌, ◌++◌, length, Some, None, refl, sym, ap, subst, ◌∙◌, arith, add-zero, append-nil, inl, inr}
use Rattle.std.specs.Char.{is_digit}
use Rattle.std.proofs.lemmas.Bool.{eqb-true}
use Rattle.percent_encoding.specs.Percent.{percent_decode}
use Rattle.giop_ior.specs.declared.addresses.corbaloc_fault.CorbalocFault.{CorbalocFault}
use Rattle.giop_ior.specs.Corbaloc.{KeyOctetText, KeyText, is_key_octet}
use Rattle.giop_ior.specs.CorbalocReading.{key_fault, key_octet_len, is_escape}
use Rattle.giop_ior.specs.Refused.{RefusedKey}
use Rattle.giop_ior.proofs.GrammarLemmas.{key_found}
use Rattle.giop_ior.proofs.KeyFaultLemmas.{key_stops}
use Rattle.giop_ior.proofs.KeyFirstLemmas.{key_stops_at, kept_passes, escape_passes, short_len, no_escape_one, no_escape_two}
use Rattle.giop_ior.proofs.NumberLemmas.{both}

-- a key octet takes one octet or three
spelled_len : (value : ℕ) (first rest : List ℕ) → KeyOctetText value first → 0 < key_octet_len (first ++ rest)
spelled_len value first rest (inl kept) = rw (kept.0, kept.1) (omega arith)
spelled_len value first rest (inr escape) = rw (escape.parts, escape.is_high, escape.is_low) (omega arith)

pub not_spelled_there : (text : List ℕ) → key_octet_len text ≡ 0 → (value : ℕ) (first rest : List ℕ) → text ≡ first ++ rest
    → KeyOctetText value first → ⊥
not_spelled_there text none value first rest whole is =
    let some = spelled_len value first rest is in
    let same : key_octet_len (first ++ rest) ≡ 0 = ap key_octet_len (sym whole) ∙ none in
    omega (arith, some, same)

-- where no key octet stands, none is taken
pub none_spelled : (x : ℕ) (text : List ℕ) → ((value : ℕ) (first rest : List ℕ) → x ∷ text ≡ first ++ rest → KeyOctetText value first → ⊥)
    → key_octet_len (x ∷ text) ≡ 0
none_spelled x text lacking = go (is_key_octet x) refl text lacking
  where
    go : (kept : Bool) → is_key_octet x ≡ kept → (text : List ℕ)
        → ((value : ℕ) (first rest : List ℕ) → x ∷ text ≡ first ++ rest → KeyOctetText value first → ⊥)
        → key_octet_len (x ∷ text) ≡ 0
    go true kept text lacking = absurd (lacking x (x ∷ []) text refl (inl (refl, kept)))
    go false kept [] lacking = short_len x 0 0 kept (no_escape_one x)
    go false kept (y ∷ []) lacking = short_len x y 0 kept (no_escape_two x y)
    go false kept (y ∷ z ∷ more) lacking = by_escape (is_escape x y z) refl
      where
        by_escape : (escape : Bool) → is_escape x y z ≡ escape → key_octet_len (x ∷ y ∷ z ∷ more) ≡ 0
        by_escape false is = short_len x y z kept is
        by_escape true is =
            let one = both (x == 37 && is_digit y 16) (is_digit z 16) is in
            let two = both (x == 37) (is_digit y 16) one.0 in
            absurd (lacking _ (x ∷ y ∷ z ∷ []) more refl
            (inr (record { high = y; low = z; parts = ap (λ u. u ∷ y ∷ z ∷ []) (eqb-true x 37 two.0); is_high = two.1; is_low = one.1; value = refl })))

-- a key before others is passed over
key_passes : (at : ℕ) (key front more : List ℕ) → KeyText key front → key_fault at (front ++ more) ≡ key_fault (at + length front) more
key_passes at [] front more is = rw is (ap (λ k. key_fault k more) (sym (add-zero at)))
key_passes at (octet ∷ key) front more is = go (λ k. key_passes k key is.1 more is.4) is.3
  where
    go : ((k : ℕ) → key_fault k (is.1 ++ more) ≡ key_fault (k + length is.1) more) → KeyOctetText octet is.0
        → key_fault at (front ++ more) ≡ key_fault (at + length front) more
    go behind (inl kept) =
        let whole : front ≡ octet ∷ is.1 = is.2 ∙ ap (λ u. u ++ is.1) kept.0 in
        let place : at + 1 + length is.1 ≡ at + length front = omega (arith, ap length whole) in
        ap (λ u. key_fault at (u ++ more)) whole ∙ kept_passes at octet kept.1 (is.1 ++ more) ∙ behind (at + 1) ∙ ap (λ k. key_fault k more) place
    go behind (inr escaped) =
        let whole : front ≡ 37 ∷ escaped.high ∷ escaped.low ∷ is.1 = is.2 ∙ ap (λ u. u ++ is.1) escaped.parts in
        let tests : is_escape 37 escaped.high escaped.low ≡ true = rw (escaped.is_high, escaped.is_low) refl in
        let place : at + 3 + length is.1 ≡ at + length front = omega (arith, ap length whole) in
        ap (λ u. key_fault at (u ++ more)) whole ∙ escape_passes at 37 escaped.high escaped.low refl tests (is.1 ++ more) ∙ behind (at + 3)
        ∙ ap (λ k. key_fault k more) place

pub key_refused : (at : ℕ) (text : List ℕ) (e : CorbalocFault) → key_fault at text ≡ Some e → RefusedKey at text e
key_refused at text e is =
    let s = key_stops_at at text e is in
    let right : key_fault at (s.good ++ []) ≡ None = s.goes_on [] in
    record {
      key = percent_decode (s.good ++ []);
      front = s.good;
      octet = s.wrong;
      back = s.back;
      parts = s.whole;
      keyed = subst (λ u. KeyText (percent_decode (s.good ++ [])) u) (append-nil s.good) (key_found at (s.good ++ []) right);
      none = not_spelled_there (s.wrong ∷ s.back) s.none;
      is = s.is;
    }

pub key_refuses : (at : ℕ) (text : List ℕ) (e : CorbalocFault) → RefusedKey at text e → key_fault at text ≡ Some e
key_refuses at text e why =
    ap (key_fault at) why.parts ∙ key_passes at why.key why.front (why.octet ∷ why.back) why.keyed
    ∙ key_stops (at + length why.front) (why.octet ∷ why.back) (none_spelled why.octet why.back why.none) (omega arith) ∙ ap Some (sym why.is)
