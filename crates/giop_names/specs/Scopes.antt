-- Where the parts of an interface file stand, and which of them are names (docs/FORMATS.md).
use Rattle.std.specs.Prelude.{ℕ, ◌==◌, codes, bytes_eq, Bool, false, ◌||◌, if◌then◌else◌, List, []}
use Rattle.std.specs.Prelude.{Option, None, option_and_then, option_map, unwrap_or}
use Rattle.serde_json.specs.Data.{Data, string}
use Rattle.serde_json.specs.Events.{members_len}
use Rattle.serde_json.specs.Find.{get, as_str, as_object}
use Rattle.giop_names.specs.declared.scope.Scope.{Scope}
use Rattle.giop_names.specs.declared.scope.Scope.TheVariants as is

-- whether the plain form has no such key there
abbrev pub is_left_out : Scope → List ℕ → Bool
is_left_out is.Interface k =
    bytes_eq k (codes "id") || bytes_eq k (codes "types") || bytes_eq k (codes "comment")
is_left_out is.Operation k = bytes_eq k (codes "raises") || bytes_eq k (codes "comment")
is_left_out _ k = false

-- where what is under a key stands
abbrev pub scope_under : Scope → List ℕ → Scope
scope_under is.Interface k =
    if bytes_eq k (codes "operations") then is.Operations else is.Elsewhere
scope_under is.Operations k = is.Operation
scope_under is.Named k = is.Named
scope_under _ k = is.Elsewhere

-- where an item of a list stands
abbrev pub scope_at : Scope → Scope
scope_at is.Named = is.Named
scope_at _ = is.Elsewhere

-- whether a part is an object of one key
abbrev pub has_one_key : Data → Bool
has_one_key d = unwrap_or (option_map (λ ms. members_len ms == 1) (as_object d)) false

-- the text under the key `type`, in an object that has no other key
abbrev pub lone_type : Data → Option (List ℕ)
lone_type d = if has_one_key d then option_and_then as_str (get (codes "type") d) else None

-- the name that a part is; the file, its operations and an operation are none
abbrev pub name_in : Scope → Data → Option (List ℕ)
name_in is.Elsewhere d = lone_type d
name_in is.Named d = lone_type d
name_in _ d = None

-- the text that a part is, which is empty where it is none
abbrev pub text_in : Data → List ℕ
text_in (string s) = s
text_in _ = []
