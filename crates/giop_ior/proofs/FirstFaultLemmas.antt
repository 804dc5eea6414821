-- The first fault of a corbaloc text is the first by the grammar: the whole text.
use Rattle.std.proofs.Common.{◌≡◌, ℕ, ◌+◌, ◌==◌, Bool, true, false, List, [], ◌∷◌, ◌++◌, length, length-append, take, drop, Option, Some, None, Ok, Err, if◌then◌else◌, codes, refl, sym, ap, subst, ◌∙◌, arith, append_assoc, inl, inr, ◌⊎◌, nat_eq, IfErr, IsOk}
use Rattle.std.specs.Cmp.Lexicographic.{pointwise}
use Rattle.std.specs.List.{slice_split}
use Rattle.giop_ior.specs.declared.addresses.address.Address.{Address}
use Rattle.giop_ior.specs.declared.addresses.corbaloc.Corbaloc.{Corbaloc}
use Rattle.giop_ior.specs.declared.addresses.corbaloc_fault.CorbalocFault.{CorbalocFault}
use Rattle.giop_ior.specs.declared.addresses.corbaloc_fault.CorbalocKind.TheVariants.{BadPrefix}
use Rattle.giop_ior.specs.Corbaloc.{CorbalocText}
use Rattle.giop_ior.specs.CorbalocFault.{Read, fault, ◌>>=◌, no_memory}
use Rattle.giop_ior.specs.CorbalocReading.{cut, begins, address_at, addresses_at, key_fault, key_at, corbaloc_of_parts, corbaloc_of}
use Rattle.giop_ior.specs.FirstFault.{IsFirstFault}
use Rattle.giop_ior.proofs.AddressFaultLemmas.{address_first}
use Rattle.giop_ior.proofs.AddressLemmas.{begins_found}
use Rattle.giop_ior.proofs.CutLemmas.{Lacks, cut_some, cut_none}
use Rattle.giop_ior.proofs.HostFaultLemmas.{is_first}
use Rattle.giop_ior.proofs.KeyFirstLemmas.{key_stops_at, before_key, key_first, unless_err}
use Rattle.giop_ior.proofs.PieceLemmas.{piece, piece_slash}
use Rattle.giop_ior.proofs.PartLemmas.{host_found}
use Rattle.giop_ior.proofs.StepLemmas.{step_err, then_err}
use Rattle.giop_ior.proofs.StopLemmas.{Stopped, stopped_in, nothing_done, before_address}

abbrev pub with_key : List Address → List ℕ → Read Corbaloc
with_key addresses key = Ok (record { addresses = addresses; key = key })

pub err_is : {A : Type 0} {d e : CorbalocFault} → ◌≡◌ {A = Read A} (Err d) (Err e) → d ≡ e
err_is is = cc

list_first : (list text : List ℕ) (e : CorbalocFault) → (text ≡ list) ⊎ ((key : List ℕ) × (text ≡ list ++ 47 ∷ key))
    → Lacks 47 list → addresses_at 9 list ≡ Err e → IsFirstFault (codes "corbaloc:" ++ text) e
list_first list text e ends lacks is = go ends (stopped_in (slice_split (λ x. x == 44) list) 9 list e refl lacks is)
  where
    at_done : (done back : List ℕ) → address_at (9 + length done) (piece back) ≡ Err e
        → address_at (length (codes "corbaloc:" ++ done)) (piece back) ≡ Err e
    at_done done back wrong =
        let place : length (codes "corbaloc:" ++ done) ≡ 9 + length done = omega (arith, length-append (codes "corbaloc:") done) in
        ap (λ k. address_at k (piece back)) place ∙ wrong

    go : (text ≡ list) ⊎ ((key : List ℕ) × (text ≡ list ++ 47 ∷ key)) → Stopped 9 list e → IsFirstFault (codes "corbaloc:" ++ text) e
    go (inl all) s =
        subst (λ u. IsFirstFault (codes "corbaloc:" ++ u) e) (sym (all ∙ s.whole))
        (address_first (codes "corbaloc:" ++ s.done) s.back e (before_address s.done s.is_done) (at_done s.done s.back s.wrong))
    go (inr more) s =
        let whole : s.done ++ (s.back ++ 47 ∷ more.0) ≡ text =
        sym (append_assoc s.done s.back (47 ∷ more.0)) ∙ ap (λ u. u ++ 47 ∷ more.0) (sym s.whole) ∙ sym more.1 in
        let wrong = ap (address_at (9 + length s.done)) (piece_slash s.back more.0) ∙ s.wrong in
        subst (λ u. IsFirstFault (codes "corbaloc:" ++ u) e) whole
        (address_first (codes "corbaloc:" ++ s.done) (s.back ++ 47 ∷ more.0) e (before_address s.done s.is_done)
        (at_done s.done (s.back ++ 47 ∷ more.0) wrong))

key_of_text_first : (list key : List ℕ) (addresses : List Address) (e : CorbalocFault) → Lacks 47 list → addresses_at 9 list ≡ Ok addresses
    → key_at (9 + length list + 1) key ≡ Err e → IsFirstFault (codes "corbaloc:" ++ (list ++ 47 ∷ key)) e
unfolding key_at
key_of_text_first list key addresses e lacks ok wrong =
    let found = unless_err (key_fault (9 + length list + 1) key) key e wrong in
    let place : length (codes "corbaloc:" ++ (list ++ 47 ∷ [])) ≡ 9 + length list + 1 =
    length-append (codes "corbaloc:") (list ++ 47 ∷ []) ∙ ap (λ k. 9 + k) (length-append list (47 ∷ [])) ∙ omega arith in
    let there = key_stops_at (length (codes "corbaloc:" ++ (list ++ 47 ∷ []))) key e (ap (λ k. key_fault k key) place ∙ found) in
    subst (λ u. IsFirstFault (codes "corbaloc:" ++ u) e) (append_assoc list (47 ∷ []) key)
    (key_first (codes "corbaloc:" ++ (list ++ 47 ∷ [])) key e (before_key list addresses lacks ok) there)

prefix_first : (text : List ℕ) → begins (codes "corbaloc:") text ≡ false → IsFirstFault text (fault 0 BadPrefix)
unfolding corbaloc_of
prefix_first text none =
    is_first [] text (codes "corbaloc:") (codes ":h") shown.0 BadPrefix 9 refl shown.1 refl (λ other same. (BadPrefix, refused other same))
  where
    shown : (c : Corbaloc) × CorbalocText c (codes "corbaloc::h")
    shown = (before_address [] (nothing_done 9)).listed (record { major = 1; minor = 0; host = codes "h"; port = 2809 }) (codes ":h") (record {
      protocol = codes ":";
      version = [];
      end = [];
      parts = refl;
      is_protocol = inl refl;
      is_version = inl (refl, refl, refl);
      is_host = host_found (codes "h") refl;
      is_port = inl (refl, refl);
    })

    refused : (other : List ℕ) → take 9 other ≡ take 9 text → corbaloc_of other ≡ Err (fault 0 BadPrefix)
    refused other same =
        let no : begins (codes "corbaloc:") other ≡ false = ap (λ u. pointwise nat_eq u (codes "corbaloc:")) same ∙ none in
        rw no refl

-- each fault that is told is the first
pub first_fault : (text : List ℕ) (e : CorbalocFault) → corbaloc_of text ≡ Err e → IsFirstFault text e
unfolding corbaloc_of
first_fault text e is = go (begins (codes "corbaloc:") text) refl is
  where
    body : List ℕ
    body = drop 9 text

    by_key : (p : List ℕ × List ℕ) → cut 47 body ≡ Some p
        → (addresses_at 9 p.0 ≡ Err e)
        ⊎ ((addresses : List Address) × (addresses_at 9 p.0 ≡ Ok addresses)
        × ((key_at (9 + length p.0 + 1) p.1 >>= λ key. with_key addresses key) ≡ Err e))
        → IsFirstFault (codes "corbaloc:" ++ body) e
    by_key p cutting (inl wrong) =
        let is_cut = cut_some 47 body p.0 p.1 cutting in
        list_first p.0 body e (inr (p.1, is_cut.parts)) is_cut.first wrong
    by_key p cutting (inr there) =
        let is_cut = cut_some 47 body p.0 p.1 cutting in
        let wrong = then_err (key_at (9 + length p.0 + 1) p.1) _ e there.2 in
        subst (λ u. IsFirstFault (codes "corbaloc:" ++ u) e) (sym is_cut.parts) (key_of_text_first p.0 p.1 there.0 e is_cut.first there.1 wrong)

    by_body : (o : Option (List ℕ × List ℕ)) → cut 47 body ≡ o → corbaloc_of_parts body o ≡ Err e → IsFirstFault (codes "corbaloc:" ++ body) e
    by_body None cutting is = list_first body body e (inl refl) (cut_none 47 body cutting) (then_err (addresses_at 9 body) _ e is)
    by_body (Some p) cutting is = by_key p cutting (step_err (addresses_at 9 p.0) _ e is)

    go : (b : Bool) → begins (codes "corbaloc:") text ≡ b
        → (if b then corbaloc_of_parts body (cut 47 body) else Err (fault 0 BadPrefix)) ≡ Err e → IsFirstFault text e
    go true front is =
        subst (λ u. IsFirstFault u e) (sym (begins_found (codes "corbaloc:") text front)) (by_body (cut 47 body) refl is)
    go false front is = subst (λ u. IsFirstFault text u) (err_is is) (prefix_first text front)

-- so is what a call tells
pub answer_first : (text : List ℕ) (r : Read Corbaloc)
    → IfErr r (λ e. (corbaloc_of text ≡ Err e) ⊎ ((e ≡ no_memory) × IsOk (corbaloc_of text))) → IfErr r (λ e. IsFirstFault text e ⊎ (e ≡ no_memory))
answer_first text (Ok c) is = tt
answer_first text (Err e) (inl refused) = inl (first_fault text e refused)
answer_first text (Err e) (inr wanting) = inr wanting.0
