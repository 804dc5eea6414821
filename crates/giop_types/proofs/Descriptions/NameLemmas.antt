-- Names of items, one after the other.
use Rattle.std.proofs.Common.{◌≡◌, ℕ, List, [], ◌∷◌, map, refl, ap}
use Rattle.std.specs.List.{list_any}
use Rattle.giop_types.specs.declared.description.desc.NamedDesc.{NamedDesc}
use Rattle.giop_types.specs.declared.description.desc.CaseDesc.{CaseDesc}
use Rattle.giop_types.specs.Descriptions.Checked.{has_doubled, same_name, field_names, branch_names}
use Rattle.giop_types.specs.Values.Views.{named_view, case_view, fields_of, branches_of}
use Rattle.giop_types.proofs.Values.ViewLemmas.{view-Named, view-Case}
use Rattle.giop_types.proofs.Coding.ListLoops.{IsSome}

-- whether an item has this name
pub is_named-some : {X : Type 0} (named : X → List ℕ) (name : List ℕ)
    → IsSome (λ x _. same_name (named x) name) (λ xs. list_any (λ other. same_name other name) (map named xs))
is_named-some named name = record { none = refl; more = λ x xs. refl }

-- whether two items have the same name
pub doubled-some : {X : Type 0} (named : X → List ℕ)
    → IsSome (λ x xs. list_any (λ other. same_name other (named x)) (map named xs)) (λ xs. has_doubled same_name (map named xs))
doubled-some named = record { none = refl; more = λ x xs. refl }

pub field_names_of : (ms : List NamedDesc) → field_names (fields_of (map named_view ms)) ≡ map (λ m. m.name) ms
field_names_of [] = refl
field_names_of (m ∷ ms) = rw (view-Named m) (ap (λ names. m.name ∷ names) (field_names_of ms))

pub branch_names_of : (bs : List CaseDesc) → branch_names (branches_of (map case_view bs)) ≡ map (λ b. b.name) bs
branch_names_of [] = refl
branch_names_of (b ∷ bs) = rw (view-Case b) (ap (λ names. b.name ∷ names) (branch_names_of bs))
