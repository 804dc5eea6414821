-- Objects of one key.
use Rattle.std.proofs.Common.{◌≡◌, ℕ, List, length, ◌==◌, Some, refl}
use Rattle.serde_json.specs.Find.{as_object}
use Rattle.serde_json.specs.View.{view, members_view}
use Rattle.serde_json.specs.declared.value.Value.{Value as Json}
use Rattle.serde_json.proofs.Views.{Entry, members_len-members_view}
use Rattle.giop_names.specs.Scopes.{has_one_key}

-- an object has as many members as its map has entries
pub counted : (j : Json) (es : List Entry) (n : ℕ) → Some (members_view es) ≡ as_object (view j) → n ≡ length es
    → (n == 1) ≡ has_one_key (view j)
counted j es n is long = rw (← is, members_len-members_view es, long) refl
