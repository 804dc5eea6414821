-- Labels of cases, one case after the other.
use Rattle.std.proofs.Common.{◌≡◌, ℤ, Bool, true, false, ◌||◌, List, [], ◌∷◌, ◌++◌, map, refl, sym, ap, ◌∙◌}
use Rattle.std.specs.List.{list_any, list_all}
use Rattle.std.specs.Ordering.{int_eq}
use Rattle.std.proofs.lemmas.List.Folds.{list_any-append, list_all-append}
use Rattle.giop_types.specs.declared.description.desc.CaseDesc.{CaseDesc}
use Rattle.giop_types.specs.Descriptions.Shape.{Shape}
use Rattle.giop_types.specs.Coding.Decoding.{is_label}
use Rattle.giop_types.specs.Descriptions.Checked.{is_label_of, all_labels, has_doubled, is_repeated}
use Rattle.giop_types.specs.Values.Views.{case_view, branches_of}
use Rattle.giop_types.proofs.Values.ViewLemmas.{view-Case}
use Rattle.giop_types.proofs.Coding.ListLoops.{IsSome, IsEach}

-- whether each of the labels is a value of a discriminant
pub labels_of-each : (disc : Shape) → IsEach (is_label_of disc) (list_all (is_label_of disc))
labels_of-each disc = record { none = refl; more = λ l ls. refl }

-- whether each label of the cases is a value of a discriminant
abbrev pub cases_of : Shape → List CaseDesc → Bool
cases_of disc bs = list_all (is_label_of disc) (all_labels (branches_of (map case_view bs)))

pub cases_of-each : (disc : Shape) → IsEach (λ b. list_all (is_label_of disc) b.labels.items) (cases_of disc)
cases_of-each disc = record {
  none = refl;
  more = λ b bs. rw (view-Case b) (list_all-append (is_label_of disc) b.labels.items (all_labels (branches_of (map case_view bs))));
}

-- whether a case has this label
abbrev pub is_labelled : ℤ → List CaseDesc → Bool
is_labelled label bs = is_label label (all_labels (branches_of (map case_view bs)))

pub is_labelled-some : (label : ℤ) → IsSome (λ b _. is_label label b.labels.items) (is_labelled label)
is_labelled-some label = record {
  none = refl;
  more = λ b bs. rw (view-Case b) (list_any-append (λ l. int_eq l label) b.labels.items (all_labels (branches_of (map case_view bs))));
}

-- whether a label stands again later
pub repeated-some : (later : List ℤ) → IsSome (λ l ls. is_label l ls || is_label l later) (λ ls. is_repeated int_eq ls later)
repeated-some later = record {
  none = refl;
  more = λ l ls. ap (λ b. b || is_repeated int_eq ls later) (list_any-append (λ y. int_eq y l) ls later);
}

or_assoc : (a b c : Bool) → ((a || b) || c) ≡ (a || (b || c))
or_assoc true b c = refl
or_assoc false b c = refl

-- of two lists of labels, one that stands twice is one of the first, which is repeated, or two of the second
doubled_repeated : (ls later : List ℤ) → has_doubled int_eq (ls ++ later) ≡ (is_repeated int_eq ls later || has_doubled int_eq later)
doubled_repeated [] later = refl
doubled_repeated (l ∷ ls) later =
    ap (λ b. list_any (λ y. int_eq y l) (ls ++ later) || b) (doubled_repeated ls later)
    ∙ sym (or_assoc (list_any (λ y. int_eq y l) (ls ++ later)) (is_repeated int_eq ls later) (has_doubled int_eq later))

-- whether two labels of the cases are equal
abbrev pub doubled_labels : List CaseDesc → Bool
doubled_labels bs = has_doubled int_eq (all_labels (branches_of (map case_view bs)))

pub doubled_labels-some : IsSome (λ b bs. is_repeated int_eq b.labels.items (all_labels (branches_of (map case_view bs)))) doubled_labels
doubled_labels-some = record {
  none = refl;
  more = λ b bs. rw (view-Case b) (doubled_repeated b.labels.items (all_labels (branches_of (map case_view bs))));
}
