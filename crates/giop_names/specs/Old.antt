-- Interface files as they were before types had names: no part is a name, and nothing stands beside
-- the plain form.
use Rattle.std.specs.Prelude.{◌&&◌, Bool, true, false, not, is_some}
use Rattle.serde_json.specs.Data.{Data, array, object, Items, item, no_items}
use Rattle.serde_json.specs.Data.{Members, member, no_members}
use Rattle.giop_names.specs.Scopes.{is_left_out, scope_at, scope_under, name_in}
use Rattle.giop_names.specs.declared.scope.Scope.{Scope}
use Rattle.giop_names.specs.declared.scope.Scope.TheVariants as is

-- whether a name stands for a part, or for what it is a part of
abbrev pub is_named : Scope → Bool
is_named is.Named = true
is_named _ = false

-- the parts of a part are no names, and of none of them is one, or left out
unfoldable mutual
  pub has_old_parts : Scope → Data → Bool
  has_old_parts scope (array ds) = items_old (scope_at scope) ds
  has_old_parts scope (object ms) = members_old scope ms
  has_old_parts scope _ = true

  pub items_old : Scope → Items → Bool
  items_old scope no_items = true
  items_old scope (item d ds) =
      not (is_some (name_in scope d)) && (has_old_parts scope d && items_old scope ds)

  pub members_old : Scope → Members → Bool
  members_old scope no_members = true
  members_old scope (member k d ms) = not (is_left_out scope k)
      && (not (is_some (name_in (scope_under scope k) d))
      && (has_old_parts (scope_under scope k) d && members_old scope ms))

-- a part that is no name, of which no part is, and of which none is left out
abbrev pub is_old : Scope → Data → Bool
is_old scope d = not (is_some (name_in scope d)) && has_old_parts scope d
