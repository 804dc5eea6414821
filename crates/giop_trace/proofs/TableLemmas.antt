-- The table of an observer: each entry may be taken out, and what is put back stands in its place.
use Rattle.std.proofs.Common.{◌≡◌, ℕ, true, false, Option, Some, None}
use Rattle.std.specs.Option.{option_map}
use Rattle.std.specs.FinMap as finite
use Rattle.giop_ids.specs.ById.{ById}
use Rattle.giop_ids.proofs.Puts.{put-put}

-- no entry is of an open call
pub never_open : {V : Type 0} (entry : Option V) → option_map (λ _. true) entry ≡ Some false → ⊥
never_open None is_open = absurd cc
never_open (Some v) is_open = absurd cc

-- taken out and put back
pub put_back : {V : Type 0} (m : ById V) (id : ℕ) (v : V)
    → finite.insert (finite.remove m id) id v ≡ finite.insert m id v
put_back m id v = put-put m id None (Some v)
