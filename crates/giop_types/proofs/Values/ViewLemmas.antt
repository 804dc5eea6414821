-- What a description says, variant by variant.
use Rattle.std.proofs.Common.{◌≡◌, rules, ℕ, ℤ, map, Some, None}
use Rattle.giop_types.specs.declared.description.desc.Desc.{the_lemmas}
use Rattle.giop_types.specs.declared.description.desc.Desc.TheVariants as desc
use Rattle.giop_types.specs.declared.description.desc.NamedDesc.{NamedDesc}
use Rattle.giop_types.specs.declared.description.desc.CaseDesc.{CaseDesc}
use Rattle.giop_types.specs.declared.value.Value.{the_lemmas as value_lemmas}
use Rattle.giop_types.specs.declared.value.Value.TheVariants as value
use Rattle.giop_types.specs.Values.Tree.{choice_of, no_trees, tree}
use Rattle.giop_types.specs.Descriptions.Shape.{labels, members, choice, items, row}
use Rattle.giop_types.specs.Values.Views.{value_view, desc_view, named_view, case_view, fallback_view, fields_of, branches_of}

pub view-Labels : (names : _) → desc_view (desc.Labels names) ≡ labels names.items
view-Labels names = search (rules, the_lemmas)

pub view-Members : (ms : _) → desc_view (desc.Members ms) ≡ members (fields_of (map named_view ms.items))
view-Members ms = search (rules, the_lemmas)

pub view-Choice : (d : _) (cs : _) (f : _)
    → desc_view (desc.Choice d cs f) ≡ choice (desc_view d.value) (branches_of (map case_view cs.items)) (fallback_view f)
view-Choice d cs None = search (rules, the_lemmas)
view-Choice d cs (Some f) = search (rules, the_lemmas)

pub view-Items : (d : _) (n : ℕ) → desc_view (desc.Items d n) ≡ items (desc_view d.value) n
view-Items d n = search (rules, the_lemmas)

pub view-Row : (d : _) (n : ℕ) → desc_view (desc.Row d n) ≡ row (desc_view d.value) n
view-Row d n = search (rules, the_lemmas)

pub view-Named : (m : NamedDesc) → named_view m ≡ record { name = m.name; shape = desc_view m.desc }
view-Named m = search (rules, the_lemmas)

pub view-Case : (b : CaseDesc) → case_view b ≡ record { labels = b.labels.items; name = b.name; shape = desc_view b.desc }
view-Case b = search (rules, the_lemmas)

pub chosen_view : (label : ℤ) (v : _) → value_view (value.Choice label (Some v)) ≡ choice_of label (tree (value_view v.value) no_trees)
chosen_view label v = search (rules, value_lemmas)

pub bare_view : (label : ℤ) → value_view (value.Choice label None) ≡ choice_of label no_trees
bare_view label = search (rules, value_lemmas)
