-- An object has no operation of a name that none of its offer has.
use Rattle.std.proofs.Common.{◌≡◌, ◌∙◌, ◌||◌, ℕ, Bool, true, false, cond, List, [], ◌∷◌, map, Option, Some, None, Vec, refl, ap}
use Rattle.std.specs.BTreeMap.{is_at}
use Rattle.std.specs.Cmp.Lexicographic.{slice_cmp}
use Rattle.std.specs.List.{list_any}
use Rattle.std.specs.Map.{lookup}
use Rattle.std.specs.Ordering.{nat_cmp}
use Rattle.std.specs.declared.alloc.Global.{Global}
use Rattle.giop_types.specs.declared.interfaces.interface.Interface.{Interface}
use Rattle.giop_types.specs.declared.interfaces.interface.Operation.{Operation}
use Rattle.giop_json.specs.InterfaceFromJson.{Signature, interface_view, operation_view}
use Rattle.giop_types.specs.Objects.{offer_of, own_or}
use Rattle.giop_msg.specs.Messages.Request.{operation_in}

-- whether the name is that of one of these
abbrev pub is_among : List ℕ → List (List ℕ × Signature) → Bool
is_among name operations = list_any (λ one. is_at (slice_cmp nat_cmp name) one.0) operations

apart : {A : Type 0} (here there : Bool) (x : A) {rest : Option A} → (here || there) ≡ false → (there ≡ false → rest ≡ None) → cond here (Some x) rest ≡ None
apart true there x none others = absurd cc
apart false there x none others = others none

missing : (name : List ℕ) (es : List (Vec ℕ Global × Operation)) → is_among name (map (λ e. (e.0.items, operation_view e.1)) es) ≡ false
    → lookup (is_at (λ key. slice_cmp nat_cmp name key.items)) es ≡ None
missing name [] none = refl
missing name (e ∷ es) none =
    apart (is_at (slice_cmp nat_cmp name) e.0.items) (is_among name (map (λ e. (e.0.items, operation_view e.1)) es)) e.1 none (missing name es)

-- where none of all objects has an offer of its own
pub no_such_name : (interface : Interface) (key name : List ℕ) → interface.objects.entries ≡ []
    → is_among name (interface_view interface).operations ≡ false → operation_in (offer_of interface key) name ≡ None
no_such_name interface key name alone none =
    ap (λ entries. operation_in (own_or interface.general (lookup (is_at (λ k. slice_cmp nat_cmp key k.items)) entries)) name) alone
    ∙ missing name interface.general.operations.entries none
