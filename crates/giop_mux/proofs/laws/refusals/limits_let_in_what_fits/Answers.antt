use Rattle.std.proofs.Common.{ℕ, ◌≡◌, ◌≤◌, ◌+◌, ◌-◌, ◌==◌, ◌&&◌, ◌↔◌, Bool, true, false, cond, Option, Some, None, is_some, is_none, refl, arith}
use Rattle.std.proofs.lemmas.Bool.Decides.{nat_tests}
use Rattle.std.specs.Cmp.{nat_cmp_total}
use Rattle.std.specs.FinMap as finite
use Rattle.std.specs.FinMap.{len-insert, len-remove}
use Rattle.giop_ids.specs.ById.{ById, put}
use Rattle.giop_mux.specs.declared.refusal.Refusal.{Refusal}
use Rattle.giop_mux.specs.declared.refusal.Refusal.TheVariants.{TooManyCalls}
use Rattle.giop_mux.specs.Calls.{room_refusal}
use Rattle.giop_mux.proofs.laws.refusals.limits_let_in_what_fits.Goals as goal

-- what is told where there is no room, and where there is
abbrev refused_if : (F : Type 0) → Bool → Option (Refusal F)
refused_if F full = cond full (Some TooManyCalls) None

-- one entry more fits exactly where there are fewer than the limit
one_more : (F : Type 0) (n limit : ℕ) (full : Bool) → (n == limit) ≡ full → n ≤ limit
    → (refused_if F full ≡ None) ↔ (n + 1 ≤ limit)
one_more F n limit true e within = (λ is. absurd cc, λ less. absurd (grind (arith, nat_tests)))
one_more F n limit false e within = (λ is. grind (arith, nat_tests), λ less. refl)

-- how many there are then, by what stood there
put_fits : {E : Type 0} (F : Type 0) (held entry : Option E) (n size limit : ℕ) → n ≤ limit
    → size ≡ cond (is_some entry) (cond (is_some held) n (n + 1)) (cond (is_some held) (n - 1) n)
    → (refused_if F (is_none held && is_some entry && (n == limit)) ≡ None) ↔ (size ≤ limit)
put_fits F None None n size limit within e = (λ is. omega arith, λ fits. refl)
put_fits F None (Some entry) n size limit within e = rw e (one_more F n limit (n == limit) refl within)
put_fits F (Some held) entry n size limit within e = (λ is. by_entry (is_some entry) e, λ fits. refl)
  where
    by_entry : (b : Bool) → size ≡ cond b n (n - 1) → size ≤ limit
    by_entry true e = omega arith
    by_entry false e = omega arith

fits : {E F : Type 0} (m : ById E) (limit id : ℕ) (entry : Option E) → finite.len m ≤ limit
    → (room_refusal {F = F} m limit id entry ≡ None) ↔ (finite.len (put m id entry) ≤ limit)
fits m limit id None within =
    put_fits _ (finite.get m id) None (finite.len m) _ limit within (len-remove nat_cmp_total m id)
fits m limit id (Some entry) within =
    put_fits _ (finite.get m id) (Some entry) (finite.len m) _ limit within (len-insert nat_cmp_total m id entry)

pub returns : goal.returns
returns g c = fits
