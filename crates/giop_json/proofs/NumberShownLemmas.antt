-- A description of a number shows what a whole number says.
use Rattle.std.proofs.Common.{◌≡◌, ℕ, true, refl, Some, None, option_map, Vec, Global}
use Rattle.std.proofs.lemmas.Bool.{false≢true}
use Rattle.serde_json.specs.Data as json
use Rattle.giop_cdr.specs.declared.octet_list.OctetList.{OctetList}
use Rattle.giop_types.specs.declared.description.desc.Desc.{Desc}
use Rattle.giop_types.specs.declared.description.desc.Desc.TheVariants as desc
use Rattle.giop_types.specs.declared.description.desc.NamedDesc.{NamedDesc}
use Rattle.giop_types.specs.declared.description.desc.CaseDesc.{CaseDesc}
use Rattle.giop_types.specs.declared.description.desc.Desc.TheFolds.{ind-Desc}
use Rattle.giop_types.specs.declared.description.desc.Desc.TheOpen as level
use Rattle.giop_types.specs.declared.description.desc.Desc.TheFolds as folds
use Rattle.giop_types.specs.declared.description.desc.Desc.TheViews as views
use Rattle.giop_types.specs.Descriptions.Shape.{Shape, is_leaf}
use Rattle.giop_types.specs.Values.Views.{desc_view, Selected, Named, desc_step, case_step, named_step}
use Rattle.giop_json.specs.FromJson.{number_tree, shown, whole}

-- what a description shows that is none of these
abbrev ShowsNumber : Desc → Type 0
ShowsNumber d =
    (j : json.Data) → (d ≡ desc.Boolean → ⊥) → (d ≡ desc.Char → ⊥) → ((n : ℕ) → d ≡ desc.Text n → ⊥) → ((n : ℕ) → d ≡ desc.Octets n → ⊥)
    → ((names : Vec OctetList Global) → d ≡ desc.Labels names → ⊥) → is_leaf (desc_view d) ≡ true
    → shown (desc_view d) j ≡ option_map (number_tree (desc_view d)) (whole j)

layer : (y : level.Desc-F Desc CaseDesc NamedDesc) → ShowsNumber (views.roll-Desc y)
unfolding shown
layer level.Boolean j boolean char text octets labels leaf = absurd (boolean desc.rolls-Boolean)
layer level.Char j boolean char text octets labels leaf = absurd (char desc.rolls-Char)
layer (level.Text n) j boolean char text octets labels leaf = absurd (text n (desc.rolls-Text n))
layer (level.Octets n) j boolean char text octets labels leaf = absurd (octets n (desc.rolls-Octets n))
layer (level.Labels names) j boolean char text octets labels leaf = absurd (labels names (desc.rolls-Labels names))
layer level.Octet j boolean char text octets labels leaf = rw (folds.fold-roll-Desc Shape Selected Named desc_step case_step named_step level.Octet) refl
layer level.Short j boolean char text octets labels leaf = rw (folds.fold-roll-Desc Shape Selected Named desc_step case_step named_step level.Short) refl
layer level.UShort j boolean char text octets labels leaf = rw (folds.fold-roll-Desc Shape Selected Named desc_step case_step named_step level.UShort) refl
layer level.Long j boolean char text octets labels leaf = rw (folds.fold-roll-Desc Shape Selected Named desc_step case_step named_step level.Long) refl
layer level.ULong j boolean char text octets labels leaf = rw (folds.fold-roll-Desc Shape Selected Named desc_step case_step named_step level.ULong) refl
layer level.LongLong j boolean char text octets labels leaf = rw (folds.fold-roll-Desc Shape Selected Named desc_step case_step named_step level.LongLong) refl
layer level.ULongLong j boolean char text octets labels leaf =
    rw (folds.fold-roll-Desc Shape Selected Named desc_step case_step named_step level.ULongLong) refl
layer (level.Members ms) j boolean char text octets labels leaf =
    absurd (false≢true (rw (folds.fold-roll-Desc Shape Selected Named desc_step case_step named_step (level.Members ms)) at leaf))
layer (level.Choice disc cases None) j boolean char text octets labels leaf =
    absurd (false≢true (rw (folds.fold-roll-Desc Shape Selected Named desc_step case_step named_step (level.Choice disc cases None)) at leaf))
layer (level.Choice disc cases (Some m)) j boolean char text octets labels leaf =
    absurd (false≢true (rw (folds.fold-roll-Desc Shape Selected Named desc_step case_step named_step (level.Choice disc cases (Some m))) at leaf))
layer (level.Items d n) j boolean char text octets labels leaf =
    absurd (false≢true (rw (folds.fold-roll-Desc Shape Selected Named desc_step case_step named_step (level.Items d n)) at leaf))
layer (level.Row d n) j boolean char text octets labels leaf =
    absurd (false≢true (rw (folds.fold-roll-Desc Shape Selected Named desc_step case_step named_step (level.Row d n)) at leaf))

pub number_shown : (d : Desc) → ShowsNumber d
number_shown = ind-Desc ShowsNumber (λ c. Unit {0}) (λ m. Unit {0}) (λ x y is. layer x) (λ x y is. tt) (λ x y is. tt)
