-- The descriptions of the parts of calls and answers.
use Rattle.std.proofs.Common.{◌≡◌, ℕ, None, refl, rules}
use Rattle.giop_types.specs.declared.description.desc.Desc.{the_lemmas}
use Rattle.giop_types.specs.declared.description.desc.Desc.TheVariants.{Text, ULong}
use Rattle.giop_types.specs.Descriptions.Checked.{desc_fault}
use Rattle.giop_types.specs.Descriptions.Shape.{text, ulong}
use Rattle.giop_types.specs.Values.Views.{desc_view}

view-Text : (n : ℕ) → desc_view (Text n) ≡ text n
view-Text n = search (rules, the_lemmas)

view-ULong : desc_view ULong ≡ ulong
view-ULong = search (rules, the_lemmas)

pub string_sound : desc_fault 1 (desc_view (Text 0)) ≡ None
unfolding desc_fault
string_sound = rw (view-Text 0) refl

pub ulong_sound : desc_fault 1 (desc_view ULong) ≡ None
unfolding desc_fault
ulong_sound = rw view-ULong refl
