-- What a description says has one member by default at most in each of its unions.
use Rattle.std.proofs.Common.{◌≡◌, true, refl, subst, List, [], ◌∷◌, map, rules, Some, None}
use Rattle.giop_types.specs.declared.description.desc.Desc.{Desc, the_lemmas}
use Rattle.giop_types.specs.declared.description.desc.NamedDesc.{NamedDesc}
use Rattle.giop_types.specs.declared.description.desc.CaseDesc.{CaseDesc}
use Rattle.giop_types.specs.declared.description.desc.Desc.TheFolds.{ind-Desc}
use Rattle.giop_types.specs.declared.description.desc.Desc.TheOpen as level
use Rattle.giop_types.specs.declared.description.desc.Desc.TheBlock as block
use Rattle.giop_types.specs.declared.description.desc.Desc.TheFolds as folds
use Rattle.giop_types.specs.declared.description.desc.Desc.TheViews as views
use denote.Hole.Holds.{Such}
use Rattle.giop_json.specs.Plain.{is_plain, fields_plain, branches_plain}
use Rattle.giop_types.specs.Values.Views.{desc_view, named_view, case_view, fields_of, branches_of, Selected, Named, desc_step, case_step, named_step}
use Rattle.giop_types.specs.Descriptions.Shape.{Shape}
use Rattle.giop_types.proofs.Values.ViewLemmas.{view-Named, view-Case}

abbrev IsPlain : Desc → Type 0
IsPlain d = is_plain (desc_view d) ≡ true

abbrev IsPlainNamed : NamedDesc → Type 0
IsPlainNamed m = is_plain (desc_view m.desc) ≡ true

abbrev IsPlainCase : CaseDesc → Type 0
IsPlainCase b = is_plain (desc_view b.desc) ≡ true

fields : (ms : List ((m : NamedDesc) × IsPlainNamed m)) → fields_plain (fields_of (map named_view (map (λ e. e.0) ms))) ≡ true
unfolding is_plain
fields [] = refl
fields (m ∷ ms) = rw (view-Named m.0, m.1) (fields ms)

branches : (bs : List ((b : CaseDesc) × IsPlainCase b)) → branches_plain (branches_of (map case_view (map (λ e. e.0) bs))) ≡ true
unfolding is_plain
branches [] = refl
branches (b ∷ bs) = rw (view-Case b.0, b.1) (branches bs)

-- a description, and that it is so; a case, and a named one
abbrev APlain : Type 0
APlain = Such block.the_family (folds.claims IsPlain IsPlainCase IsPlainNamed) block.member-Desc

abbrev ACase : Type 0
ACase = Such block.the_family (folds.claims IsPlain IsPlainCase IsPlainNamed) block.member-CaseDesc

abbrev ANamed : Type 0
ANamed = Such block.the_family (folds.claims IsPlain IsPlainCase IsPlainNamed) block.member-NamedDesc

-- a level of a description whose parts are such
abbrev parts_of : level.Desc-F APlain ACase ANamed → level.Desc-F Desc CaseDesc NamedDesc
parts_of y = folds.map-Desc APlain ACase ANamed Desc CaseDesc NamedDesc (λ e. e.0) (λ e. e.0) (λ e. e.0) y

layer : (y : level.Desc-F APlain ACase ANamed) → IsPlain (views.roll-Desc (parts_of y))
unfolding is_plain
layer level.Boolean = search (rules, the_lemmas)
layer level.Octet = search (rules, the_lemmas)
layer level.Char = search (rules, the_lemmas)
layer level.Short = search (rules, the_lemmas)
layer level.UShort = search (rules, the_lemmas)
layer level.Long = search (rules, the_lemmas)
layer level.ULong = search (rules, the_lemmas)
layer level.LongLong = search (rules, the_lemmas)
layer level.ULongLong = search (rules, the_lemmas)
layer (level.Text n) = search (rules, the_lemmas)
layer (level.Octets n) = search (rules, the_lemmas)
layer (level.Labels names) = search (rules, the_lemmas)
layer (level.Members ms) = rw (folds.fold-roll-Desc Shape Selected Named desc_step case_step named_step (parts_of (level.Members ms))) (fields ms.items)
layer (level.Choice disc cases None) =
    rw (folds.fold-roll-Desc Shape Selected Named desc_step case_step named_step (parts_of (level.Choice disc cases None)), branches cases.items) refl
layer (level.Choice disc cases (Some m)) =
    rw (
      folds.fold-roll-Desc Shape Selected Named desc_step case_step named_step
          (parts_of (level.Choice disc cases (Some m))),
      branches cases.items,
      view-Named m.value.0,
      m.value.1,
    ) refl
layer (level.Items d n) = rw (folds.fold-roll-Desc Shape Selected Named desc_step case_step named_step (parts_of (level.Items d n))) d.value.1
layer (level.Row d n) = rw (folds.fold-roll-Desc Shape Selected Named desc_step case_step named_step (parts_of (level.Row d n))) d.value.1

pub viewed_plain : (d : Desc) → IsPlain d
viewed_plain = ind-Desc IsPlain IsPlainCase IsPlainNamed (λ x y is. subst (λ z. IsPlain (views.roll-Desc z)) is (layer y))
    (λ x y is. subst (λ z. IsPlainCase (views.roll-CaseDesc z)) is y.desc.1)
    (λ x y is. subst (λ z. IsPlainNamed (views.roll-NamedDesc z)) is y.desc.1)
