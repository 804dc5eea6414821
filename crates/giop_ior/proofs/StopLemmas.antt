-- Where the reading of a corbaloc stops: what stands before the first part that is none, and that
-- nothing behind the part changes it.
use Rattle.std.proofs.Common.{◌≡◌, ℕ, ◌+◌, ◌==◌, Bool, true, false, List, [], ◌∷◌, ◌++◌, length, length-append, Option, Some, None, Ok, Err, codes, refl, sym, ap, subst, ◌∙◌, add-zero, arith, append_assoc, append-nil, inl, inr, ◌⊎◌}
use Rattle.std.specs.List.{slice_split, AllByRecursion}
use Rattle.std.proofs.lemmas.Bool.{eqb-true}
use Rattle.std.proofs.lemmas.List.Elements.{All-nil, All-from_recursion, recursion_from_All}
use Rattle.std.proofs.lemmas.List.Splits.{slice_split_none, slice_split_at}
use Rattle.giop_ior.specs.declared.addresses.address.Address.{Address}
use Rattle.giop_ior.specs.declared.addresses.corbaloc.Corbaloc.{Corbaloc}
use Rattle.giop_ior.specs.declared.addresses.corbaloc_fault.CorbalocFault.{CorbalocFault}
use Rattle.giop_ior.specs.Corbaloc.{CorbalocText, AddressesText, AddressText}
use Rattle.giop_ior.specs.CorbalocFault.{Read, ◌>>=◌}
use Rattle.giop_ior.specs.CorbalocReading.{cut, address_at, each_at, addresses_at, corbaloc_of}
use Rattle.giop_ior.specs.FirstFault.{ends_address}
use Rattle.giop_ior.proofs.AddressLemmas.{address_found}
use Rattle.giop_ior.proofs.CutLemmas.{Lacks, cut_some, cut_none, cut_is, cut_lacks, split_some, split_none}
use Rattle.giop_ior.proofs.PartLemmas.{lacks_both, lacks_literal}
use Rattle.giop_ior.proofs.PieceLemmas.{piece, piece_ends, piece_whole, piece_and_rest, IsEnded, piece_free, free_lacks, lacks_free}
use Rattle.giop_ior.proofs.StepLemmas.{step_err, then_err}

-- ---- a list of addresses

-- addresses with a comma behind each, which are passed over
pub record Done (at : ℕ) (done : List ℕ) : Type 0 where
  pub lacks : Lacks 47 done
  pub stops : (back : List ℕ) (e : CorbalocFault) → addresses_at (at + length done) back ≡ Err e → addresses_at at (done ++ back) ≡ Err e
  pub listed : (back : List ℕ) (more : List Address) → AddressesText more back → (all : List Address) × AddressesText all (done ++ back)

pub nothing_done : (at : ℕ) → Done at []
nothing_done at = record {
  lacks = All-nil (λ x. (x == 47) ≡ false);
  stops = λ back e is. ap (λ k. addresses_at k back) (sym (add-zero at)) ∙ is;
  listed = λ back more is. (more, is);
}

onto : (a : Address) (more : List Address) (first rest : List ℕ) → AddressText a first → AddressesText more rest
    → (all : List Address) × AddressesText all (first ++ 44 ∷ rest)
onto a [] first rest here there = absurd there
onto a (b ∷ more) first rest here there = (a ∷ b ∷ more, (first, rest, sym (append_assoc first (44 ∷ []) rest), here, there))

one_done : (at : ℕ) (first done : List ℕ) (a : Address) → address_at at first ≡ Ok a → Lacks 44 first → Lacks 47 first
    → Done (at + length first + 1) done → Done at (first ++ 44 ∷ done)
one_done at first done a ok comma slash is = record {
  lacks = lacks_both 47 first (44 ∷ done) slash (lacks_both 47 (44 ∷ []) done (lacks_literal 47 (44 ∷ []) refl) is.lacks);
  stops = λ back e wrong.
      let place : at + length (first ++ 44 ∷ done) ≡ at + length first + 1 + length done = omega (arith, length-append first (44 ∷ done)) in
      let rest = is.stops back e (ap (λ k. addresses_at k back) (sym place) ∙ wrong) in
      rw (append_assoc first (44 ∷ done) back, slice_split_at (λ x. x == 44) first 44 (done ++ back) comma refl, ok, rest) refl;
  listed = λ back more there.
      let rest = is.listed back more there in
      let all = onto a rest.0 first (done ++ back) (address_found at first a ok) rest.1 in
      (all.0, subst (λ u. AddressesText all.0 u) (sym (append_assoc first (44 ∷ done) back)) all.1);
}

-- the addresses before one that is none
pub record Stopped (at : ℕ) (text : List ℕ) (e : CorbalocFault) : Type 0 where
  pub done : List ℕ
  pub back : List ℕ
  pub is_done : Done at done
  pub whole : text ≡ done ++ back
  pub wrong : address_at (at + length done) (piece back) ≡ Err e

stopped_here : (at : ℕ) (text : List ℕ) (e : CorbalocFault) → address_at at (piece text) ≡ Err e → Stopped at text e
stopped_here at text e wrong = record {
  done = [];
  back = text;
  is_done = nothing_done at;
  whole = refl;
  wrong = ap (λ k. address_at k (piece text)) (add-zero at) ∙ wrong;
}

stopped_later : (at : ℕ) (first back : List ℕ) (a : Address) (e : CorbalocFault) → address_at at first ≡ Ok a → Lacks 44 first → Lacks 47 first
    → Stopped (at + length first + 1) back e → Stopped at (first ++ 44 ∷ back) e
stopped_later at first back a e ok comma slash s =
    let place : at + length (first ++ 44 ∷ s.done) ≡ at + length first + 1 + length s.done = omega (arith, length-append first (44 ∷ s.done)) in
    record {
      done = first ++ 44 ∷ s.done;
      back = s.back;
      is_done = one_done at first s.done a ok comma slash s.is_done;
      whole = ap (λ u. first ++ 44 ∷ u) s.whole ∙ sym (append_assoc first (44 ∷ s.done) s.back);
      wrong = ap (λ k. address_at k (piece s.back)) place ∙ s.wrong;
    }

pub lacks_parts : (octet : ℕ) (one two : List ℕ) → Lacks octet (one ++ two) → Lacks octet one × Lacks octet two
lacks_parts octet one two lacks =
    let both = go one (recursion_from_All _ (one ++ two) lacks) in (All-from_recursion _ one both.0, All-from_recursion _ two both.1)
  where
    go : (one : List ℕ) → AllByRecursion (λ x. (x == octet) ≡ false) (one ++ two)
        → AllByRecursion (λ x. (x == octet) ≡ false) one × AllByRecursion (λ x. (x == octet) ≡ false) two
    go [] lacks = (tt, lacks)
    go (x ∷ one) lacks = let rest = go one lacks.1 in ((lacks.0, rest.0), rest.1)

-- an address and those behind it, of which one is none
each_err : (at : ℕ) (one : List ℕ) (more : List (List ℕ)) (e : CorbalocFault) → each_at at (one ∷ more) ≡ Err e
    → (address_at at one ≡ Err e) ⊎ ((a : Address) × (address_at at one ≡ Ok a) × (each_at (at + length one + 1) more ≡ Err e))
each_err at one more e is = go (step_err (address_at at one) _ e is)
  where
    go : (address_at at one ≡ Err e)
        ⊎ ((a : Address) × (address_at at one ≡ Ok a) × ((each_at (at + length one + 1) more >>= λ rest. Ok (a ∷ rest)) ≡ Err e))
        → (address_at at one ≡ Err e) ⊎ ((a : Address) × (address_at at one ≡ Ok a) × (each_at (at + length one + 1) more ≡ Err e))
    go (inl here) = inl here
    go (inr there) = inr (there.0, there.1, then_err (each_at (at + length one + 1) more) (λ rest. there.0 ∷ rest) e there.2)

one_is : {one two : List ℕ} {more rest : List (List ℕ)} → one ∷ more ≡ two ∷ rest → one ≡ two
one_is e = cc

more_is : {one two : List ℕ} {more rest : List (List ℕ)} → one ∷ more ≡ two ∷ rest → more ≡ rest
more_is e = cc

pub stopped_in : (pieces : List (List ℕ)) (at : ℕ) (text : List ℕ) (e : CorbalocFault)
    → slice_split (λ x. x == 44) text ≡ pieces → Lacks 47 text → each_at at pieces ≡ Err e → Stopped at text e
stopped_in [] at text e parted slash is = absurd (cc)
stopped_in (one ∷ more) at text e parted slash is =
    go (λ back. stopped_in more (at + length one + 1) back e) (cut 44 text) refl (each_err at one more e is)
  where
    go : ((back : List ℕ) → slice_split (λ x. x == 44) back ≡ more → Lacks 47 back → each_at (at + length one + 1) more ≡ Err e
        → Stopped (at + length one + 1) back e)
        → (o : Option (List ℕ × List ℕ)) → cut 44 text ≡ o
        → (address_at at one ≡ Err e) ⊎ ((a : Address) × (address_at at one ≡ Ok a) × (each_at (at + length one + 1) more ≡ Err e))
        → Stopped at text e
    go later None cutting (inl here) =
        let same : one ≡ text = one_is (sym parted ∙ split_none 44 text cutting) in
        let whole : piece text ≡ one = piece_whole text (lacks_free text (cut_none 44 text cutting) slash) ∙ sym same in
        stopped_here at text e (ap (address_at at) whole ∙ here)
    go later None cutting (inr there) =
        let last : more ≡ [] = more_is (sym parted ∙ split_none 44 text cutting) in
        let none : each_at (at + length one + 1) [] ≡ Err e = ap (each_at (at + length one + 1)) (sym last) ∙ there.2 in
        absurd (cc)
    go later (Some p) cutting found =
        let is_cut = cut_some 44 text p.0 p.1 cutting in
        let parts = sym parted ∙ split_some 44 text p.0 p.1 cutting in
        let lacks = lacks_parts 47 p.0 (44 ∷ p.1) (subst (λ u. Lacks 47 u) is_cut.parts slash) in
        let behind = (lacks_parts 47 (44 ∷ []) p.1 lacks.1).1 in
        by_first (one_is parts) is_cut.parts is_cut.first lacks.0 (later p.1 (sym (more_is parts)) behind) found
      where
        by_first : one ≡ p.0 → text ≡ p.0 ++ 44 ∷ p.1 → Lacks 44 p.0 → Lacks 47 p.0
            → (each_at (at + length one + 1) more ≡ Err e → Stopped (at + length one + 1) p.1 e)
            → (address_at at one ≡ Err e) ⊎ ((a : Address) × (address_at at one ≡ Ok a) × (each_at (at + length one + 1) more ≡ Err e))
            → Stopped at text e
        by_first same whole comma slash rest (inl here) =
            let first : piece text ≡ one = ap piece whole ∙ piece_ends p.0 44 p.1 (lacks_free p.0 comma slash) refl ∙ sym same in
            stopped_here at text e (ap (address_at at) first ∙ here)
        by_first same whole comma slash rest (inr there) =
            let later = subst (λ u. Stopped (at + length u + 1) p.1 e) same (rest there.2) in
            subst (λ u. Stopped at u e) (sym whole) (stopped_later at p.0 p.1 there.0 e (ap (address_at at) (sym same) ∙ there.1) comma slash later)

-- ---- what stands before an address

pub record BeforeAddress (left : List ℕ) : Type 0 where
  pub stops : (text : List ℕ) (e : CorbalocFault) → address_at (length left) (piece text) ≡ Err e → corbaloc_of (left ++ text) ≡ Err e
  pub listed : (a : Address) (text : List ℕ) → AddressText a text → (c : Corbaloc) × CorbalocText c (left ++ text)

then_stops : {A B : Type 0} (r : Read A) (f : A → Read B) (e : CorbalocFault) → r ≡ Err e → (r >>= f) ≡ Err e
then_stops r f e is = rw is refl

pub list_stops : (list : List ℕ) (e : CorbalocFault) → Lacks 47 list → addresses_at 9 list ≡ Err e → corbaloc_of (codes "corbaloc:" ++ list) ≡ Err e
unfolding corbaloc_of
list_stops list e lacks is = rw (cut_lacks 47 list lacks) (then_stops (addresses_at 9 list) _ e is)

pub list_stops_before : (list key : List ℕ) (e : CorbalocFault) → Lacks 47 list → addresses_at 9 list ≡ Err e
    → corbaloc_of (codes "corbaloc:" ++ (list ++ 47 ∷ key)) ≡ Err e
unfolding corbaloc_of
list_stops_before list key e lacks is = rw (cut_is 47 list key lacks) (then_stops (addresses_at 9 list) _ e is)

address_stops : (at : ℕ) (text : List ℕ) (e : CorbalocFault) → Lacks 44 text → address_at at text ≡ Err e → addresses_at at text ≡ Err e
address_stops at text e lacks is = rw (slice_split_none (λ x. x == 44) text lacks) (then_stops (address_at at text) _ e is)

address_stops_before : (at : ℕ) (text more : List ℕ) (e : CorbalocFault) → Lacks 44 text → address_at at text ≡ Err e
    → addresses_at at (text ++ 44 ∷ more) ≡ Err e
address_stops_before at text more e lacks is = rw (slice_split_at (λ x. x == 44) text 44 more lacks refl) (then_stops (address_at at text) _ e is)

done_stops : (done text : List ℕ) (e : CorbalocFault) → Done 9 done → address_at (9 + length done) (piece text) ≡ Err e
    → corbaloc_of (codes "corbaloc:" ++ (done ++ text)) ≡ Err e
done_stops done text e is wrong = go (piece_and_rest text)
  where
    first : List ℕ
    first = piece text

    comma : Lacks 44 first
    comma = free_lacks ends_address 44 first refl (piece_free text)

    slash : Lacks 47 first
    slash = free_lacks ends_address 47 first refl (piece_free text)

    at_slash : (back : List ℕ) → text ≡ first ++ 47 ∷ back → corbaloc_of (codes "corbaloc:" ++ (done ++ text)) ≡ Err e
    at_slash back whole =
        let here = list_stops_before (done ++ first) back e (lacks_both 47 done first is.lacks slash)
        (is.stops first e (address_stops (9 + length done) first e comma wrong)) in
        ap (λ u. corbaloc_of (codes "corbaloc:" ++ u)) (ap (λ u. done ++ u) whole ∙ sym (append_assoc done first (47 ∷ back))) ∙ here

    more_stops : (more : List ℕ) → addresses_at 9 (done ++ (first ++ 44 ∷ more)) ≡ Err e
    more_stops more = is.stops (first ++ 44 ∷ more) e (address_stops_before (9 + length done) first more e comma wrong)

    more_lacks : (more : List ℕ) → Lacks 47 more → Lacks 47 (done ++ (first ++ 44 ∷ more))
    more_lacks more lacks = lacks_both 47 done (first ++ 44 ∷ more) is.lacks
        (lacks_both 47 first (44 ∷ more) slash (lacks_both 47 (44 ∷ []) more (lacks_literal 47 (44 ∷ []) refl) lacks))

    at_comma : (back : List ℕ) → text ≡ first ++ 44 ∷ back → (o : Option (List ℕ × List ℕ)) → cut 47 back ≡ o
        → corbaloc_of (codes "corbaloc:" ++ (done ++ text)) ≡ Err e
    at_comma back whole None cutting =
        ap (λ u. corbaloc_of (codes "corbaloc:" ++ (done ++ u))) whole
        ∙ list_stops (done ++ (first ++ 44 ∷ back)) e (more_lacks back (cut_none 47 back cutting)) (more_stops back)
    at_comma back whole (Some p) cutting =
        let is_cut = cut_some 47 back p.0 p.1 cutting in
        let seam : done ++ (first ++ 44 ∷ (p.0 ++ 47 ∷ p.1)) ≡ done ++ (first ++ 44 ∷ p.0) ++ 47 ∷ p.1 = simp append_assoc in
        ap (λ u. corbaloc_of (codes "corbaloc:" ++ (done ++ u))) (whole ∙ ap (λ u. first ++ 44 ∷ u) is_cut.parts)
        ∙ ap (λ u. corbaloc_of (codes "corbaloc:" ++ u)) seam
        ∙ list_stops_before (done ++ (first ++ 44 ∷ p.0)) p.1 e (more_lacks p.0 is_cut.first) (more_stops p.0)

    go : (text ≡ piece text) ⊎ IsEnded text → corbaloc_of (codes "corbaloc:" ++ (done ++ text)) ≡ Err e
    go (inl all) =
        ap (λ u. corbaloc_of (codes "corbaloc:" ++ (done ++ u))) all
        ∙ list_stops (done ++ first) e (lacks_both 47 done first is.lacks slash) (is.stops first e (address_stops (9 + length done) first e comma wrong))
    go (inr ended) = by_mark (ended.mark == 44) (ended.mark == 47) refl refl
      where
        by_mark : (p q : Bool) → (ended.mark == 44) ≡ p → (ended.mark == 47) ≡ q → corbaloc_of (codes "corbaloc:" ++ (done ++ text)) ≡ Err e
        by_mark true q one two =
            at_comma ended.back (ended.whole ∙ ap (λ m. first ++ m ∷ ended.back) (eqb-true ended.mark 44 one)) (cut 47 ended.back) refl
        by_mark false true one two = at_slash ended.back (ended.whole ∙ ap (λ m. first ++ m ∷ ended.back) (eqb-true ended.mark 47 two))
        by_mark false false one two = let wrong : false ≡ true = sym (rw (one, two) refl) ∙ ended.marks in absurd (cc)

pub before_address : (done : List ℕ) → Done 9 done → BeforeAddress (codes "corbaloc:" ++ done)
before_address done is = record {
  stops = λ text e wrong.
      let place : length (codes "corbaloc:" ++ done) ≡ 9 + length done = omega (arith, length-append (codes "corbaloc:") done) in
      done_stops done text e is (ap (λ k. address_at k (piece text)) (sym place) ∙ wrong);
  listed = λ a text there.
      let all = is.listed text (a ∷ []) there in (
        record { addresses = all.0; key = [] },
        record {
          front = done ++ text;
          back = [];
          parts = sym (append-nil (codes "corbaloc:" ++ (done ++ text)));
          listed = all.1;
          keyed = inl (refl, refl);
        },
      );
}
