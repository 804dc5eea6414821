-- What is stored for ids: a finite map.
use Rattle.std.specs.Prelude.{◌≡◌, ℕ, ◌==◌, true, Bool, List, map, sum_by, Option, Some, None, is_some}
use Rattle.std.specs.List.{list_any}
use Rattle.std.specs.Ordering.{nat_cmp}
use Rattle.std.specs.FinMap as finite
use Rattle.std.specs.Coded.{Coded, coded_ℕ}
use Rattle.giop_ids.specs.declared.addressed.Addressed.{Addressed}

-- a value under each of some ids
abbrev pub ById : Type 0 → Type 0
ById V = finite.FinMap nat_cmp V

-- such a map is stored as the list of its ids and values
abbrev pub by_id_code : {V : Type 0} → Coded V → Coded (ById V)
by_id_code code = finite.code coded_ℕ code

-- the map with this value under the id, or with none there
abbrev pub put : {V : Type 0} → ById V → ℕ → Option V → ById V
put m id None = finite.remove m id
put m id (Some v) = finite.insert m id v

-- whether the id stands in the list
abbrev pub is_listed : List ℕ → ℕ → Bool
is_listed ids id = list_any (λ other. other == id) ids

-- the ids that are addressed, in order, each as often as it is
abbrev pub ids_of : {X : Type 0} → List (Addressed X) → List ℕ
ids_of all = map (λ one. one.id) all

-- each id of the map stands in the list
abbrev pub HasOnly : {V : Type 0} → ById V → List ℕ → Type 0
HasOnly m ids = (id : ℕ) → is_some (finite.get m id) ≡ true → is_listed ids id ≡ true

-- each id that is addressed stands in the list
abbrev pub AddressesOnly : {X : Type 0} → List (Addressed X) → List ℕ → Type 0
AddressesOnly all ids = (id : ℕ) → is_listed (ids_of all) id ≡ true → is_listed ids id ≡ true

-- what a value weighs, if there is one
abbrev pub weight_in : {V : Type 0} → (V → ℕ) → Option V → ℕ
weight_in weight None = 0
weight_in weight (Some v) = weight v

-- what all values of the map weigh together
unfoldable pub sum_of : {V : Type 0} → (V → ℕ) → ById V → ℕ
sum_of weight m = sum_by weight (finite.values m)
