-- How deep a JSON value nests.
use Rattle.std.specs.Prelude.{ℕ, ◌-◌, ◌==◌, Bool, true, false, if◌then◌else◌}
use Rattle.serde_json.specs.Data.{Data, array, object, Items, item, no_items, Members, member, no_members}

-- whether arrays and objects nest so deep at most
unfoldable mutual
  pub shallow : ℕ → Data → Bool
  shallow n (array ds) = if n == 0 then false else items_shallow (n - 1) ds
  shallow n (object ms) = if n == 0 then false else members_shallow (n - 1) ms
  shallow n _ = true

  pub items_shallow : ℕ → Items → Bool
  items_shallow n no_items = true
  items_shallow n (item d ds) = if shallow n d then items_shallow n ds else false

  pub members_shallow : ℕ → Members → Bool
  members_shallow n no_members = true
  members_shallow n (member k d ms) = if shallow n d then members_shallow n ms else false
