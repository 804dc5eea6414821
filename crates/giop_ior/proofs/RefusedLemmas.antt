-- A corbaloc text is refused as the grammar has it.
use Rattle.std.proofs.Common.{◌≡◌, ℕ, ◌+◌, ◌==◌, Bool, true, false, List, ◌∷◌, ◌++◌, length, drop, Option, Some, None, Ok, Err, if◌then◌else◌, codes, refl, sym, ap, ◌∙◌, ◌⊎◌, inl, inr}
use Rattle.std.specs.List.{slice_split}
use Rattle.std.proofs.lemmas.Bool.{false≢true}
use Rattle.giop_ior.specs.declared.addresses.address.Address.{Address}
use Rattle.giop_ior.specs.declared.addresses.corbaloc_fault.CorbalocFault.{CorbalocFault}
use Rattle.giop_ior.specs.declared.addresses.corbaloc_fault.CorbalocKind.TheVariants.{BadPrefix}
use Rattle.giop_ior.specs.Corbaloc.{AddressesText}
use Rattle.giop_ior.specs.CorbalocFault.{fault, ◌>>=◌}
use Rattle.giop_ior.specs.CorbalocReading.{cut, begins, addresses_at, key_fault, key_at, corbaloc_of_parts, corbaloc_of}
use Rattle.giop_ior.specs.Refused.{RefusedAddresses, RefusedKey, RefusedParts, RefusedCorbaloc}
use Rattle.giop_ior.proofs.AddressLemmas.{begins_found, begins_only}
use Rattle.giop_ior.proofs.CutLemmas.{cut_some, cut_none, cut_is, cut_lacks}
use Rattle.giop_ior.proofs.FirstFaultLemmas.{with_key, err_is}
use Rattle.giop_ior.proofs.GrammarLemmas.{addresses_found, addresses_only}
use Rattle.giop_ior.proofs.KeyFirstLemmas.{unless_err}
use Rattle.giop_ior.proofs.RefusedAddressLemmas.{each_refused, each_refuses}
use Rattle.giop_ior.proofs.RefusedKeyLemmas.{key_refused, key_refuses}
use Rattle.giop_ior.proofs.StepLemmas.{step_err, then_err}

parts_refused : (text : List ℕ) (e : CorbalocFault) → corbaloc_of_parts text (cut 47 text) ≡ Err e → RefusedParts 9 text e
unfolding key_at
parts_refused text e is = go (cut 47 text) refl is
  where
    by_list : (list key : List ℕ) → (addresses_at 9 list ≡ Err e)
        ⊎ ((addresses : List Address) × (addresses_at 9 list ≡ Ok addresses)
        × ((key_at (9 + length list + 1) key >>= λ key. with_key addresses key) ≡ Err e))
        → RefusedAddresses 9 list e ⊎ ((addresses : List Address) × AddressesText addresses list × RefusedKey (9 + length list + 1) key e)
    by_list list key (inl wrong) = inl (each_refused 9 (slice_split (λ x. x == 44) list) e wrong)
    by_list list key (inr there) =
        let at = 9 + length list + 1 in
        inr (
          there.0,
          addresses_found 9 list there.0 there.1,
          key_refused at key e (unless_err (key_fault at key) key e (then_err (key_at at key) _ e there.2)),
        )

    go : (o : Option (List ℕ × List ℕ)) → cut 47 text ≡ o → corbaloc_of_parts text o ≡ Err e → RefusedParts 9 text e
    go None parted is =
        inl (cut_none 47 text parted, each_refused 9 (slice_split (λ x. x == 44) text) e (then_err (addresses_at 9 text) _ e is))
    go (Some p) parted is =
        let there = cut_some 47 text p.0 p.1 parted in
        inr (p.0, p.1, (there.parts, there.first), by_list p.0 p.1 (step_err (addresses_at 9 p.0) _ e is))

parts_refuses : (text : List ℕ) (e : CorbalocFault) → RefusedParts 9 text e → corbaloc_of_parts text (cut 47 text) ≡ Err e
unfolding key_at
parts_refuses text e (inl none) = rw (cut_lacks 47 text none.0, each_refuses 9 (slice_split (λ x. x == 44) text) e none.1) refl
parts_refuses text e (inr some) = rw (some.2.0, cut_is 47 some.0 some.1 some.2.1) (by some.3)
  where
    by : RefusedAddresses 9 some.0 e
        ⊎ ((addresses : List Address) × AddressesText addresses some.0 × RefusedKey (9 + length some.0 + 1) some.1 e)
        → corbaloc_of_parts (some.0 ++ 47 ∷ some.1) (Some (some.0, some.1)) ≡ Err e
    by (inl wrong) = rw (each_refuses 9 (slice_split (λ x. x == 44) some.0) e wrong) refl
    by (inr there) =
        rw (addresses_only 9 some.0 there.0 there.1, key_refuses (9 + length some.0 + 1) some.1 e there.2) refl

-- each fault that is told is the text's
pub corbaloc_refused : (text : List ℕ) (e : CorbalocFault) → corbaloc_of text ≡ Err e → RefusedCorbaloc text e
unfolding corbaloc_of
corbaloc_refused text e is = go (begins (codes "corbaloc:") text) refl is
  where
    none : begins (codes "corbaloc:") text ≡ false → (rest : List ℕ) → text ≡ codes "corbaloc:" ++ rest → ⊥
    none front rest whole = false≢true (sym front ∙ ap (begins (codes "corbaloc:")) whole ∙ begins_only (codes "corbaloc:") rest)

    go : (b : Bool) → begins (codes "corbaloc:") text ≡ b
        → (if b then corbaloc_of_parts (drop 9 text) (cut 47 (drop 9 text)) else Err (fault 0 BadPrefix)) ≡ Err e → RefusedCorbaloc text e
    go true front is = inr (drop 9 text, begins_found (codes "corbaloc:") text front, parts_refused (drop 9 text) e is)
    go false front is = inl (none front, sym (err_is is))

-- and the text's fault is told
pub corbaloc_refuses : (text : List ℕ) (e : CorbalocFault) → RefusedCorbaloc text e → corbaloc_of text ≡ Err e
unfolding corbaloc_of
corbaloc_refuses text e (inl none) = rw (none_begins (begins (codes "corbaloc:") text) refl, none.1) refl
  where
    none_begins : (b : Bool) → begins (codes "corbaloc:") text ≡ b → begins (codes "corbaloc:") text ≡ false
    none_begins true is = absurd (none.0 (drop 9 text) (begins_found (codes "corbaloc:") text is))
    none_begins false is = is
corbaloc_refuses text e (inr some) = rw some.1 (parts_refuses some.0 e some.2)
