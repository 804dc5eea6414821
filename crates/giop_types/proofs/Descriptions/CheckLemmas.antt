-- The faults of a node and of its parts, one after the other.
use Rattle.std.proofs.Common.{◌≡◌, ℕ, ◌+◌, ◌<◌, ◌≤◌, ◌==◌, nat_lt, Bool, true, false, not, ◌&&◌, Option, None}
use Rattle.std.proofs.Common.{Some, Result, Ok, Err, List, [], ◌∷◌, map, length, refl, ap, ◌∙◌, arith}
use Rattle.std.proofs.lemmas.Bool.{and_parts, and_from, not-false, le-ltb}
use Rattle.std.proofs.lemmas.Bool.Decides.{nat_tests}
use Rattle.std.specs.List.{list_all}
use Rattle.std.specs.Option.{option_or}
use Rattle.giop_types.specs.declared.description.desc.NamedDesc.{NamedDesc}
use Rattle.giop_types.specs.declared.description.desc.CaseDesc.{CaseDesc}
use Rattle.giop_types.specs.declared.description.desc_fault.DescFault.{DescFault}
use Rattle.giop_types.specs.declared.description.desc_fault.DescFault.TheVariants.{Empty, Doubled, BadDiscriminant, TooDeep}
use Rattle.giop_types.specs.Descriptions.Shape.{Shape, choice, members, items, row, Fields, no_fields, field, Branches}
use Rattle.giop_types.specs.Descriptions.Shape.{no_branches, branch}
use Rattle.giop_types.specs.Descriptions.Full.{is_discriminant, has_fields, is_full, are_full, all_full}
use Rattle.giop_types.specs.Descriptions.Checked.{fault_if, has_branches, is_empty, is_label_of, all_labels}
use Rattle.giop_types.specs.Descriptions.Checked.{has_bad_discriminant, has_doubles, own_fault, node_fault, desc_fault}
use Rattle.giop_types.specs.Descriptions.Checked.{fields_fault, branches_fault, Tells}
use Rattle.giop_types.specs.Values.Views.{desc_view, named_view, case_view, fields_of, branches_of}
use Rattle.giop_types.proofs.Values.ViewLemmas.{view-Named, view-Case}
use Rattle.giop_types.proofs.Coding.ListLoops.{IsFirst}

not_zero : (n : ℕ) → 0 < n → (n == 0) ≡ false
not_zero n h = grind (arith, nat_tests)

-- a struct without members, and a union without cases
pub no_members : (ms : List NamedDesc) → (length ms == 0) ≡ not (has_fields (fields_of (map named_view ms)))
no_members [] = refl
no_members (m ∷ ms) = not_zero (length (m ∷ ms)) (omega arith)

pub no_cases : (bs : List CaseDesc) → (length bs == 0) ≡ not (has_branches (branches_of (map case_view bs)))
no_cases [] = refl
no_cases (b ∷ bs) = not_zero (length (b ∷ bs)) (omega arith)

-- the faults of members and of cases
pub members-first : (depth : ℕ) → IsFirst (λ (m : NamedDesc). desc_fault depth (desc_view m.desc)) (λ ms. fields_fault depth (fields_of (map named_view ms)))
unfolding desc_fault
members-first depth = record { none = refl; more = λ m ms. rw (view-Named m) refl }

pub cases-first : (depth : ℕ) → IsFirst (λ (b : CaseDesc). desc_fault depth (desc_view b.desc)) (λ bs. branches_fault depth (branches_of (map case_view bs)))
unfolding desc_fault
cases-first depth = record { none = refl; more = λ b bs. rw (view-Case b) refl }

-- a node with no fault of its own
node_passed : (depth : ℕ) (s : Shape) → depth ≤ 32 → own_fault s ≡ None → node_fault depth s ≡ None
node_passed depth s shallow own = ap (λ b. option_or (fault_if b TooDeep) (own_fault s)) (le-ltb 32 depth shallow) ∙ own

-- the fault of a union is the first of its parts
pub choice_case : (depth : ℕ) (disc : Shape) (bs : Branches) (other : Fields) (e : DescFault) → depth ≤ 32 → own_fault (choice disc bs other) ≡ None
    → desc_fault (depth + 1) disc ≡ None → branches_fault (depth + 1) bs ≡ Some e → desc_fault depth (choice disc bs other) ≡ Some e
unfolding desc_fault
choice_case depth disc bs other e shallow own passed found =
    let rest : Option DescFault = option_or (desc_fault (depth + 1) disc) (option_or (branches_fault (depth + 1) bs) (fields_fault (depth + 1) other)) in
    ap (λ o. option_or o rest) (node_passed depth (choice disc bs other) shallow own)
    ∙ ap (λ o. option_or o (option_or (branches_fault (depth + 1) bs) (fields_fault (depth + 1) other))) passed
    ∙ ap (λ o. option_or o (fields_fault (depth + 1) other)) found

pub choice_default : (depth : ℕ) (disc : Shape) (bs : Branches) (other : Fields) → depth ≤ 32 → own_fault (choice disc bs other) ≡ None
    → desc_fault (depth + 1) disc ≡ None → branches_fault (depth + 1) bs ≡ None → desc_fault depth (choice disc bs other) ≡ fields_fault (depth + 1) other
unfolding desc_fault
choice_default depth disc bs other shallow own passed none =
    let rest : Option DescFault = option_or (desc_fault (depth + 1) disc) (option_or (branches_fault (depth + 1) bs) (fields_fault (depth + 1) other)) in
    ap (λ o. option_or o rest) (node_passed depth (choice disc bs other) shallow own)
    ∙ ap (λ o. option_or o (option_or (branches_fault (depth + 1) bs) (fields_fault (depth + 1) other))) passed
    ∙ ap (λ o. option_or o (fields_fault (depth + 1) other)) none

pub tells_same : {A : Type 0} (result : Result A DescFault) (o p : Option DescFault) → p ≡ o → Tells result o → Tells result p
tells_same (Ok x) o p same h = same ∙ h
tells_same (Err e) o p same h = same ∙ h

-- ---- a description without a fault is full

pub none_parts : (o p : Option DescFault) → option_or o p ≡ None → (o ≡ None) × (p ≡ None)
none_parts None p h = (refl, h)
none_parts (Some e) p h = absurd cc

pub fault_absent : (b : Bool) (e : DescFault) → fault_if b e ≡ None → b ≡ false
fault_absent true e h = absurd cc
fault_absent false e h = refl

-- a node without a fault lacks no part, and its discriminant can be one
node_parts : (depth : ℕ) (s : Shape) → node_fault depth s ≡ None → (is_empty s ≡ false) × (has_bad_discriminant s ≡ false)
node_parts depth s h =
    let own = none_parts (fault_if (nat_lt 32 depth) TooDeep) (own_fault s) h in
    let rest =
    none_parts (fault_if (is_empty s) Empty) (option_or (fault_if (has_bad_discriminant s) BadDiscriminant) (fault_if (has_doubles s) Doubled)) own.1 in
    let label = none_parts (fault_if (has_bad_discriminant s) BadDiscriminant) (fault_if (has_doubles s) Doubled) rest.1 in
    (fault_absent (is_empty s) Empty rest.0, fault_absent (has_bad_discriminant s) BadDiscriminant label.0)

above_zero : (n : ℕ) → (n == 0) ≡ false → nat_lt 0 n ≡ true
above_zero n h = grind (arith, nat_tests)

mutual
  unfolding desc_fault is_full

  pub faultless_full : (depth : ℕ) (s : Shape) → desc_fault depth s ≡ None → is_full s ≡ true
  faultless_full depth (members fs) h =
      let parts = none_parts (node_fault depth (members fs)) (fields_fault (depth + 1) fs) h in
      and_from (has_fields fs) (are_full fs) (not-false (has_fields fs) (node_parts depth (members fs) parts.0).0) (faultless_fields (depth + 1) fs parts.1)
  faultless_full depth (choice disc bs other) h =
      let parts = none_parts (node_fault depth (choice disc bs other))
      (option_or (desc_fault (depth + 1) disc) (option_or (branches_fault (depth + 1) bs) (fields_fault (depth + 1) other))) h in
      let rest = none_parts (desc_fault (depth + 1) disc) (option_or (branches_fault (depth + 1) bs) (fields_fault (depth + 1) other)) parts.1 in
      let last = none_parts (branches_fault (depth + 1) bs) (fields_fault (depth + 1) other) rest.1 in
      let labelled = list_all (is_label_of disc) (all_labels bs) in
      let good = not-false (is_discriminant disc && labelled) (node_parts depth (choice disc bs other) parts.0).1 in
      and_from (is_discriminant disc) (all_full bs && are_full other) (and_parts (is_discriminant disc) labelled good).0
      (and_from (all_full bs) (are_full other) (faultless_branches (depth + 1) bs last.0) (faultless_fields (depth + 1) other last.1))
  faultless_full depth (items s bound) h =
      faultless_full (depth + 1) s (none_parts (node_fault depth (items s bound)) (desc_fault (depth + 1) s) h).1
  faultless_full depth (row s n) h =
      let parts = none_parts (node_fault depth (row s n)) (desc_fault (depth + 1) s) h in
      and_from (nat_lt 0 n) (is_full s) (above_zero n (node_parts depth (row s n) parts.0).0) (faultless_full (depth + 1) s parts.1)
  faultless_full depth s h = refl

  faultless_fields : (depth : ℕ) (fs : Fields) → fields_fault depth fs ≡ None → are_full fs ≡ true
  faultless_fields depth no_fields h = refl
  faultless_fields depth (field name s fs) h =
      let parts = none_parts (desc_fault depth s) (fields_fault depth fs) h in
      and_from (is_full s) (are_full fs) (faultless_full depth s parts.0) (faultless_fields depth fs parts.1)

  faultless_branches : (depth : ℕ) (bs : Branches) → branches_fault depth bs ≡ None → all_full bs ≡ true
  faultless_branches depth no_branches h = refl
  faultless_branches depth (branch ls name s bs) h =
      let parts = none_parts (desc_fault depth s) (branches_fault depth bs) h in
      and_from (is_full s) (all_full bs) (faultless_full depth s parts.0) (faultless_branches depth bs parts.1)
