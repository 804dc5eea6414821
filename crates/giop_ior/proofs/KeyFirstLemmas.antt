-- An octet of a key that is wrong: what stands before it can be gone on with, and it can't.
use Rattle.std.proofs.Common.{◌≡◌, ℕ, ◌+◌, ◌==◌, ◌&&◌, Bool, true, false, List, [], ◌∷◌, ◌++◌, length, length-append, take, Option, Some, None, Ok, Err, if◌then◌else◌, codes, refl, sym, ap, subst, ◌∙◌, arith, add-zero, append_assoc, append-nil, inl, slice_index}
use Rattle.std.specs.Char.{is_digit}
use Rattle.percent_encoding.specs.Percent.{percent_decode}
use Rattle.giop_ior.specs.declared.addresses.address.Address.{Address}
use Rattle.giop_ior.specs.declared.addresses.corbaloc.Corbaloc.{Corbaloc}
use Rattle.giop_ior.specs.declared.addresses.corbaloc_fault.CorbalocFault.{CorbalocFault}
use Rattle.giop_ior.specs.declared.addresses.corbaloc_fault.CorbalocKind.TheVariants.{BadEscape, BadChar}
use Rattle.giop_ior.specs.Corbaloc.{CorbalocText, is_key_octet}
use Rattle.giop_ior.specs.CorbalocFault.{fault}
use Rattle.giop_ior.specs.CorbalocReading.{addresses_at, key_fault, key_octet_len, key_unless, key_at, is_escape, wrong_key_octet, corbaloc_of}
use Rattle.giop_ior.specs.FirstFault.{IsFirstFault}
use Rattle.giop_ior.proofs.CutLemmas.{Lacks, cut_is}
use Rattle.giop_ior.proofs.GrammarLemmas.{corbaloc_found}
use Rattle.giop_ior.proofs.HostFaultLemmas.{RefusedAt, is_first}
use Rattle.giop_ior.proofs.KeyFaultLemmas.{kept_goes_on, escape_goes_on, key_stops, spelling_len, not_spelled}
use Rattle.giop_ior.proofs.PieceLemmas.{head_is}

-- the octets of a key before one that is wrong
pub record KeyStops (at : ℕ) (text : List ℕ) (e : CorbalocFault) : Type 0 where
  pub good : List ℕ
  pub wrong : ℕ
  pub back : List ℕ
  pub whole : text ≡ good ++ wrong ∷ back
  pub goes_on : (more : List ℕ) → key_fault at (good ++ more) ≡ key_fault (at + length good) more
  pub none : key_octet_len (wrong ∷ back) ≡ 0
  pub is : e ≡ fault (at + length good) (wrong_key_octet wrong)

stops_here : (at x : ℕ) (text : List ℕ) (e : CorbalocFault) → key_octet_len (x ∷ text) ≡ 0 → e ≡ fault at (wrong_key_octet x) → KeyStops at (x ∷ text) e
stops_here at x text e none is = record {
  good = [];
  wrong = x;
  back = text;
  whole = refl;
  goes_on = λ more. ap (λ k. key_fault k more) (sym (add-zero at));
  none = none;
  is = is ∙ ap (λ k. fault k (wrong_key_octet x)) (sym (add-zero at));
}

-- octets that are passed over, and the rest
stops_later : (at n : ℕ) (first text : List ℕ) (e : CorbalocFault) → length first ≡ n
    → ((more : List ℕ) → key_fault at (first ++ more) ≡ key_fault (at + n) more) → KeyStops (at + n) text e → KeyStops at (first ++ text) e
stops_later at n first text e size passes s =
    let place : at + n + length s.good ≡ at + length (first ++ s.good) = omega (arith, size, length-append first s.good) in
    record {
      good = first ++ s.good;
      wrong = s.wrong;
      back = s.back;
      whole = ap (λ u. first ++ u) s.whole ∙ sym (append_assoc first s.good (s.wrong ∷ s.back));
      goes_on = λ more.
          ap (key_fault at) (append_assoc first s.good more) ∙ passes (s.good ++ more) ∙ s.goes_on more ∙ ap (λ k. key_fault k more) place;
      none = s.none;
      is = s.is ∙ ap (λ k. fault k (wrong_key_octet s.wrong)) place;
    }

pub kept_passes : (at x : ℕ) → is_key_octet x ≡ true → (more : List ℕ) → key_fault at (x ∷ more) ≡ key_fault (at + 1) more
kept_passes at x kept more = (kept_goes_on at (x ∷ more) (omega arith) kept).1

pub escape_passes : (at x y z : ℕ) → is_key_octet x ≡ false → is_escape x y z ≡ true → (more : List ℕ)
    → key_fault at (x ∷ y ∷ z ∷ more) ≡ key_fault (at + 3) more
escape_passes at x y z not_kept escape more = (escape_goes_on at (x ∷ y ∷ z ∷ more) not_kept escape).1

some_fault : {d e : CorbalocFault} → ◌≡◌ {A = Option CorbalocFault} (Some d) (Some e) → e ≡ d
some_fault is = cc

-- one octet, or none
pub short_len : (x y z : ℕ) → is_key_octet x ≡ false → is_escape x y z ≡ false
    → spelling_len (is_key_octet x) (is_escape x y z) ≡ 0
short_len x y z not_kept no_escape = rw (not_kept, no_escape) refl

pub no_escape_one : (x : ℕ) → is_escape x 0 0 ≡ false
no_escape_one x = go (x == 37)
  where
    go : (p : Bool) → (p && is_digit 0 16 && is_digit 0 16) ≡ false
    go true = refl
    go false = refl

pub no_escape_two : (x y : ℕ) → is_escape x y 0 ≡ false
no_escape_two x y = go (x == 37) (is_digit y 16)
  where
    go : (p q : Bool) → (p && q && is_digit 0 16) ≡ false
    go true true = refl
    go true false = refl
    go false true = refl
    go false false = refl

pub key_stops_at : (at : ℕ) (text : List ℕ) (e : CorbalocFault) → key_fault at text ≡ Some e → KeyStops at text e
key_stops_at at [] e is = absurd (cc)
key_stops_at at (x ∷ []) e is = go (is_key_octet x) refl is
  where
    go : (kept : Bool) → is_key_octet x ≡ kept → (if kept then None else Some (fault at (wrong_key_octet x))) ≡ Some e → KeyStops at (x ∷ []) e
    go true kept is = absurd (cc)
    go false kept is = stops_here at x [] e (short_len x 0 0 kept (no_escape_one x)) (some_fault is)
key_stops_at at (x ∷ y ∷ []) e is = go (key_stops_at (at + 1) (y ∷ []) e) (is_key_octet x) refl is
  where
    go : (key_fault (at + 1) (y ∷ []) ≡ Some e → KeyStops (at + 1) (y ∷ []) e) → (kept : Bool) → is_key_octet x ≡ kept
        → (if kept then key_fault (at + 1) (y ∷ []) else Some (fault at (wrong_key_octet x))) ≡ Some e → KeyStops at (x ∷ y ∷ []) e
    go one true kept is = stops_later at 1 (x ∷ []) (y ∷ []) e refl (kept_passes at x kept) (one is)
    go one false kept is = stops_here at x (y ∷ []) e (short_len x y 0 kept (no_escape_two x y)) (some_fault is)
key_stops_at at (x ∷ y ∷ z ∷ text) e is = go (key_stops_at (at + 1) (y ∷ z ∷ text) e) (key_stops_at (at + 3) text e) (is_key_octet x) refl is
  where
    by_escape : (key_fault (at + 3) text ≡ Some e → KeyStops (at + 3) text e) → is_key_octet x ≡ false → (escape : Bool) → is_escape x y z ≡ escape
        → (if escape then key_fault (at + 3) text else Some (fault at (wrong_key_octet x))) ≡ Some e → KeyStops at (x ∷ y ∷ z ∷ text) e
    by_escape three kept true escape is = stops_later at 3 (x ∷ y ∷ z ∷ []) text e refl (escape_passes at x y z kept escape) (three is)
    by_escape three kept false escape is = stops_here at x (y ∷ z ∷ text) e (short_len x y z kept escape) (some_fault is)

    go : (key_fault (at + 1) (y ∷ z ∷ text) ≡ Some e → KeyStops (at + 1) (y ∷ z ∷ text) e)
        → (key_fault (at + 3) text ≡ Some e → KeyStops (at + 3) text e) → (kept : Bool) → is_key_octet x ≡ kept
        → (if kept then key_fault (at + 1) (y ∷ z ∷ text)
        else if is_escape x y z then key_fault (at + 3) text else Some (fault at (wrong_key_octet x))) ≡ Some e
        → KeyStops at (x ∷ y ∷ z ∷ text) e
    go one three true kept is = stops_later at 1 (x ∷ []) (y ∷ z ∷ text) e refl (kept_passes at x kept) (one is)
    go one three false kept is = by_escape three kept (is_escape x y z) refl is

-- what stands before a key
pub record BeforeKey (left : List ℕ) : Type 0 where
  stops : (text : List ℕ) (e : CorbalocFault) → key_fault (length left) text ≡ Some e → corbaloc_of (left ++ text) ≡ Err e
  listed : (text : List ℕ) → key_fault (length left) text ≡ None → (c : Corbaloc) × CorbalocText c (left ++ text)

pub before_key : (list : List ℕ) (addresses : List Address) → Lacks 47 list → addresses_at 9 list ≡ Ok addresses
    → BeforeKey (codes "corbaloc:" ++ (list ++ 47 ∷ []))
unfolding corbaloc_of key_at
before_key list addresses lacks is = record {
  stops = λ text e wrong.
      ap (λ u. corbaloc_of (codes "corbaloc:" ++ u)) (append_assoc list (47 ∷ []) text)
      ∙ rw (cut_is 47 list text lacks, is, at_place text (Some e) wrong) refl;
  listed = λ text right.
      let reads : corbaloc_of (codes "corbaloc:" ++ (list ++ 47 ∷ text)) ≡ Ok (record { addresses = addresses; key = percent_decode text }) =
      rw (cut_is 47 list text lacks, is, at_place text None right) refl in
      let seam = ap (λ u. codes "corbaloc:" ++ u) (append_assoc list (47 ∷ []) text) in (
        record { addresses = addresses; key = percent_decode text },
        corbaloc_found (codes "corbaloc:" ++ (list ++ 47 ∷ []) ++ text) (record { addresses = addresses; key = percent_decode text })
            (ap corbaloc_of seam ∙ reads),
      );
}
  where
    at_place : (text : List ℕ) (o : Option CorbalocFault) → key_fault (length (codes "corbaloc:" ++ (list ++ 47 ∷ []))) text ≡ o
        → key_fault (9 + length list + 1) text ≡ o
    at_place text o is =
        let place : 9 + length list + 1 ≡ length (codes "corbaloc:" ++ (list ++ 47 ∷ [])) =
        sym (length-append (codes "corbaloc:") (list ++ 47 ∷ []) ∙ ap (λ k. 9 + k) (length-append list (47 ∷ [])) ∙ omega arith) in
        ap (λ k. key_fault k text) place ∙ is

-- three octets tell what spells the first of a key
by_three : (text : List ℕ) → key_octet_len text ≡ key_octet_len (take 3 text)
by_three [] = refl
by_three (x ∷ []) = refl
by_three (x ∷ y ∷ []) = refl
by_three (x ∷ y ∷ z ∷ text) = refl

pub key_first : (left text : List ℕ) (e : CorbalocFault) → BeforeKey left → KeyStops (length left) text e → IsFirstFault (left ++ text) e
key_first left text e before s =
    let place : length left + length s.good ≡ length on = sym (length-append left s.good) in
    let whole : on ++ (s.wrong ∷ s.back) ≡ left ++ text = append_assoc left s.good (s.wrong ∷ s.back) ∙ ap (λ u. left ++ u) (sym s.whole) in
    let told : fault (length on) (wrong_key_octet s.wrong) ≡ e = sym (s.is ∙ ap (λ k. fault k (wrong_key_octet s.wrong)) place) in
    subst (λ u. IsFirstFault u e) whole
    (subst (λ u. IsFirstFault (on ++ (s.wrong ∷ s.back)) u) told (by_mark (s.wrong == 37) refl))
  where
    on : List ℕ
    on = left ++ s.good

    shown : (part : List ℕ) → key_fault (length left + length s.good) part ≡ None → (c : Corbaloc) × CorbalocText c (on ++ (part ++ []))
    shown part right =
        let there = before.listed (s.good ++ part) (s.goes_on part ∙ right) in (
          there.0,
          subst (λ u. CorbalocText there.0 u)
              (sym (append_assoc left s.good part) ∙ ap (λ u. on ++ u) (sym (append-nil part))) there.1,
        )

    refused : (x : ℕ) (other : List ℕ) → key_octet_len (x ∷ other) ≡ 0 → RefusedAt (length on) (on ++ (x ∷ other))
    refused x other none =
        let here = s.goes_on (x ∷ other) ∙ key_stops (length left + length s.good) (x ∷ other) none (omega arith) in
        let place : length left + length s.good ≡ length on = sym (length-append left s.good) in (
          wrong_key_octet x,
          ap corbaloc_of (append_assoc left s.good (x ∷ other))
              ∙ before.stops (s.good ++ x ∷ other) (fault (length left + length s.good) (wrong_key_octet x)) here
              ∙ ap (λ k. Err (fault k (wrong_key_octet x))) place,
        )

    by_escape : (other : List ℕ) → take 3 other ≡ take 3 (s.wrong ∷ s.back) → RefusedAt (length on) (on ++ other)
    by_escape [] same = absurd (cc)
    by_escape (x ∷ other) same =
        refused x other (by_three (x ∷ other) ∙ ap key_octet_len same ∙ sym (by_three (s.wrong ∷ s.back)) ∙ s.none)

    by_octet : (s.wrong == 37) ≡ false → (other : List ℕ) → take 1 other ≡ take 1 (s.wrong ∷ s.back) → RefusedAt (length on) (on ++ other)
    by_octet no_mark [] same = absurd (cc)
    by_octet no_mark (x ∷ other) same =
        let first : x ≡ s.wrong = head_is same in
        let parts = not_spelled (is_key_octet s.wrong) (is_escape s.wrong (slice_index (s.wrong ∷ s.back) 1) (slice_index (s.wrong ∷ s.back) 2)) s.none in
        let mark : (x == 37) ≡ false = ap (λ u. u == 37) first ∙ no_mark in
        let kept : is_key_octet x ≡ false = ap is_key_octet first ∙ parts.0 in
        refused x other (short_len x (slice_index (x ∷ other) 1) (slice_index (x ∷ other) 2) kept (rw mark refl))

    by_mark : (b : Bool) → (s.wrong == 37) ≡ b → IsFirstFault (on ++ (s.wrong ∷ s.back)) (fault (length on) (wrong_key_octet s.wrong))
    by_mark true is =
        let there = shown (codes "%41") refl in
        rw is
        (is_first on (s.wrong ∷ s.back) (codes "%41") [] there.0 BadEscape 3
        (65, record { high = 52; low = 49; parts = refl; is_high = refl; is_low = refl; value = refl }) there.1 refl by_escape)
    by_mark false is =
        let there = shown (codes "a") refl in
        rw is (is_first on (s.wrong ∷ s.back) (codes "a") [] there.0 BadChar 1 (97, inl (refl, refl)) there.1 refl (by_octet is))

pub unless_err : (o : Option CorbalocFault) (text : List ℕ) (e : CorbalocFault) → key_unless o text ≡ Err e → o ≡ Some e
unless_err None text e is = absurd (cc)
unless_err (Some d) text e is = cc
