-- A table with one call.
use Rattle.std.proofs.Common.{◌≡◌, ℕ, List, [], ◌∷◌, length, map, refl, sym, ap, ◌∙◌}
use Rattle.std.specs.FinMap as finite
use Rattle.std.specs.FinMap.{entries-insert, len-empty, len-entries}
use Rattle.std.specs.Cmp.{nat_cmp_total}
use Rattle.std.specs.Ordering.{nat_cmp}

no_item : {A : Type 0} (xs : List A) → length xs ≡ 0 → xs ≡ []
no_item [] none = refl
no_item (x ∷ xs) none = absurd cc

module _ (V : Type 0) where
  no_entries : finite.entries (finite.empty {X = V} {R = nat_cmp}) ≡ []
  no_entries = no_item _ (sym (len-entries (finite.empty {X = V} {R = nat_cmp})) ∙ len-empty nat_cmp V)

  pub keys_none : finite.keys (finite.empty {X = V} {R = nat_cmp}) ≡ []
  keys_none = ap (map (λ e. e.0)) no_entries

  pub keys_one : (id : ℕ) (v : V) → finite.keys (finite.insert (finite.empty {X = V} {R = nat_cmp}) id v) ≡ id ∷ []
  keys_one id v =
      ap (map (λ e. e.0)) (entries-insert nat_cmp_total (finite.empty {X = V} {R = nat_cmp}) id v
      ∙ ap (finite.put nat_cmp id v) no_entries)
