-- How code keeps values by id: slots that ascend by their ids, each of which shows a value or none.
use Rattle.std.specs.Prelude.{◌≡◌, ℕ, true, cond, List, [], ◌∷◌, Option, Some, is_some}
use Rattle.std.specs.Ordering.{nat_cmp}
use Rattle.std.specs.FinMap as finite
use Rattle.std.specs.Map.{lookup}
use Rattle.std.specs.BTreeMap.{is_at}
use Rattle.giop_ids.specs.ById.{ById, put}

-- the values that the slots show
abbrev pub entries_by : {X V : Type 0} → (X → Option V) → List (ℕ × X) → ById V
entries_by shown [] = finite.empty
entries_by shown (slot ∷ slots) = put (entries_by shown slots) slot.0 (shown slot.1)

-- each slot shows a value
abbrev pub AreFull : {X V : Type 0} → (X → Option V) → List (ℕ × X) → Type 0
AreFull {X} shown slots = (id : ℕ) (x : X)
    → lookup (is_at (nat_cmp id)) slots ≡ Some x → is_some (shown x) ≡ true

-- this stands in the slot of the id now, or there is no such slot, and each other slot is as it was
abbrev pub Becomes : {X : Type 0} → (old new : List (ℕ × X)) → ℕ → Option X → Type 0
Becomes old new id slot = (q : ℕ) → lookup (is_at (nat_cmp q)) new
    ≡ cond (is_at (nat_cmp id) q) slot (lookup (is_at (nat_cmp q)) old)
