-- Values that are written as JSON, variant by variant and one after the other.
use Rattle.std.proofs.Common.{◌≡◌, ℕ, ℤ, ◌+◌, ◌<◌, ◌≤◌, Bool, true, false, Option, None, Some, List, [], ◌∷◌, ◌++◌}
use Rattle.std.proofs.Common.{map, drop, get_or, length, refl, sym, ap, ◌∙◌, append_assoc, min, inl, inr, arith, rules, if◌then◌else◌}
use Rattle.std.proofs.lemmas.Bool.{cases_lt}
use Rattle.std.proofs.lemmas.List.{append-nil, map-append}
use Rattle.std.proofs.Math.ListN.{drop_of_length-le}
use Rattle.std.specs.declared.vec.Vec.{Vec}
use Rattle.std.specs.declared.alloc.Global.{Global}
use Rattle.std.specs.declared.boxed.Box.{Box}
use Rattle.serde_json.specs.Data as json
use Rattle.serde_json.specs.View.{view, items_of}
use Rattle.serde_json.specs.declared.value.Value.{Value as Json, Null, the_lemmas}
use Rattle.giop_types.specs.declared.description.desc.Desc.{Desc}
use Rattle.giop_types.specs.declared.description.desc.Desc.TheVariants as desc
use Rattle.giop_types.specs.declared.description.desc.NamedDesc.{NamedDesc}
use Rattle.giop_types.specs.declared.description.desc.CaseDesc.{CaseDesc}
use Rattle.giop_types.specs.declared.value.Value.{Value}
use Rattle.giop_types.specs.declared.value.Value.TheVariants as value
use Rattle.giop_types.specs.Descriptions.Shape.{Shape, members, choice, items, row, Fields, no_fields, field, Branches, no_branches, branch}
use Rattle.giop_types.specs.Values.Tree.{Tree, members_of}
use Rattle.giop_types.specs.Coding.Decoding.{is_label}
use Rattle.giop_json.specs.JsonText.{text_of}
use Rattle.giop_json.specs.Reference.{is_reference, reference_data}
use Rattle.giop_json.specs.ToJson.{to_data, fields_data, branches_data, fallback_data, label_data, only_data, choice_data, selected, selected_data}
use Rattle.giop_types.specs.Values.Views.{desc_view, named_view, case_view, fallback_view, fields_of, branches_of}
use Rattle.giop_types.specs.Values.Views.{trees_of, value_view, member_view}
use Rattle.giop_types.proofs.Values.ViewLemmas.{view-Members, view-Choice, view-Items, view-Row, view-Named}
use Rattle.giop_types.proofs.Values.FitLemmas.{list_back, members_view, items_view, row_view, choice_view}
use Rattle.giop_types.proofs.Coding.MemberLoops.{left_is, fields_left, branches_left}
use Rattle.giop_json.specs.declared.number_form.NumberForm.{NumberForm}

-- the form of numbers
module _ (numbers : NumberForm) where
  -- ---- variants with parts

  members_read : (ms : Vec NamedDesc Global) (vs : Vec Value Global) → to_data numbers (desc_view (desc.Members ms)) (value_view (value.Members vs))
      ≡ to_data numbers (members (fields_of (map named_view ms.items))) (members_of (trees_of (map value_view vs.items)))
  members_read ms vs =
      ap (λ s. to_data numbers s (value_view (value.Members vs))) (view-Members ms)
      ∙ ap (to_data numbers (members (fields_of (map named_view ms.items)))) (members_view vs)

  plain_members : (fs : Fields) (ts : List Tree) → is_reference fs ≡ false
      → to_data numbers (members fs) (members_of (trees_of ts)) ≡ json.object (fields_data numbers fs ts json.no_members)
  unfolding to_data
  plain_members fs ts plain = rw plain (ap (λ us. json.object (fields_data numbers fs us json.no_members)) (list_back ts))

  reference_members : (fs : Fields) (ts : List Tree) → is_reference fs ≡ true
      → to_data numbers (members fs) (members_of (trees_of ts)) ≡ reference_data (members fs) (members_of (trees_of ts))
  unfolding to_data
  reference_members fs ts is = rw is refl

  -- a struct that is no IOR
  pub members_data : (ms : Vec NamedDesc Global) (vs : Vec Value Global) → is_reference (fields_of (map named_view ms.items)) ≡ false
      → to_data numbers (desc_view (desc.Members ms)) (value_view (value.Members vs))
      ≡ json.object (fields_data numbers (fields_of (map named_view ms.items)) (map value_view vs.items) json.no_members)
  members_data ms vs plain = members_read ms vs ∙ plain_members (fields_of (map named_view ms.items)) (map value_view vs.items) plain

  -- an IOR
  pub reference_written : (ms : Vec NamedDesc Global) (vs : Vec Value Global) → is_reference (fields_of (map named_view ms.items)) ≡ true
      → reference_data (desc_view (desc.Members ms)) (value_view (value.Members vs))
      ≡ to_data numbers (desc_view (desc.Members ms)) (value_view (value.Members vs))
  reference_written ms vs is =
      ap (λ s. reference_data s (value_view (value.Members vs))) (view-Members ms)
      ∙ ap (reference_data (members (fields_of (map named_view ms.items)))) (members_view vs)
      ∙ sym (members_read ms vs ∙ reference_members (fields_of (map named_view ms.items)) (map value_view vs.items) is)

  pub items_data : (d : _) (bound : ℕ) (vs : _) → to_data numbers (desc_view (desc.Items d bound)) (value_view (value.Items vs))
      ≡ json.array (items_of (map (to_data numbers (desc_view d.value)) (map value_view vs.items)))
  unfolding to_data
  items_data d bound vs =
      ap (λ s. to_data numbers s (value_view (value.Items vs))) (view-Items d bound)
      ∙ ap (to_data numbers (items (desc_view d.value) bound)) (items_view vs)
      ∙ ap (λ ts. json.array (items_of (map (to_data numbers (desc_view d.value)) ts))) (list_back (map value_view vs.items))

  pub row_data : (d : _) (n : ℕ) (vs : _) → to_data numbers (desc_view (desc.Row d n)) (value_view (value.Row vs))
      ≡ json.array (items_of (map (to_data numbers (desc_view d.value)) (map value_view vs.items)))
  unfolding to_data
  row_data d n vs =
      ap (λ s. to_data numbers s (value_view (value.Row vs))) (view-Row d n)
      ∙ ap (to_data numbers (row (desc_view d.value) n)) (row_view vs)
      ∙ ap (λ ts. json.array (items_of (map (to_data numbers (desc_view d.value)) ts))) (list_back (map value_view vs.items))

  pub union_data : (d : _) (cs : _) (f : _) (label : ℤ) (m : _) → to_data numbers (desc_view (desc.Choice d cs f)) (value_view (value.Choice label m))
      ≡ choice_data (label_data numbers (desc_view d.value) label)
      (branches_data numbers (branches_of (map case_view cs.items)) (fallback_data numbers (fallback_view f)) label (member_view m))
  unfolding to_data
  union_data d cs f label m =
      ap (λ s. to_data numbers s (value_view (value.Choice label m))) (view-Choice d cs f)
      ∙ ap (to_data numbers (choice (desc_view d.value) (branches_of (map case_view cs.items)) (fallback_view f))) (choice_view label m)
      ∙ ap (λ ts. choice_data (label_data numbers (desc_view d.value) label)
      (branches_data numbers (branches_of (map case_view cs.items)) (fallback_data numbers (fallback_view f)) label ts))
      (list_back (member_view m))

  -- ---- the members of a struct

  pub fields_put : (ms : List NamedDesc) (vs : List Value) (i : ℕ) (m : NamedDesc) (v : Value) (object : json.Members) → i < length ms → i < length vs
      → m ≡ get_or ms i m → v ≡ get_or vs i v
      → fields_data numbers (fields_of (map named_view (drop i ms))) (map value_view (drop i vs)) object
      ≡ fields_data numbers (fields_of (map named_view (drop (i + 1) ms))) (map value_view (drop (i + 1) vs))
      (json.put (text_of m.name) (to_data numbers (desc_view m.desc) (value_view v)) object)
  unfolding to_data
  fields_put ms vs i m v object lt le is has = rw (fields_left ms i m lt is, left_is vs i v le has) refl

  fields_without : (fs : Fields) (object : json.Members) → fields_data numbers fs [] object ≡ object
  unfolding to_data
  fields_without no_fields object = refl
  fields_without (field name s fs) object = refl

  -- no member is left, or no value
  no_more_fields : (ms : List NamedDesc) (vs : List Value) (i : ℕ) (object : json.Members) → length ms ≤ i
      → fields_data numbers (fields_of (map named_view (drop i ms))) (map value_view (drop i vs)) object ≡ object
  unfolding to_data
  no_more_fields ms vs i object le = rw (drop_of_length-le ms le) refl

  no_more_values : (ms : List NamedDesc) (vs : List Value) (i : ℕ) (object : json.Members) → length vs ≤ i
      → fields_data numbers (fields_of (map named_view (drop i ms))) (map value_view (drop i vs)) object ≡ object
  no_more_values ms vs i object le = rw (drop_of_length-le vs le) (fields_without (fields_of (map named_view (drop i ms))) object)

  -- one of both is at its end
  pub fields_end : (ms : List NamedDesc) (vs : List Value) (i : ℕ) (object : json.Members) (n : ℕ) → n ≡ min (length ms) (length vs) → n ≤ i
      → fields_data numbers (fields_of (map named_view (drop i ms))) (map value_view (drop i vs)) object ≡ object
  fields_end ms vs i object n few le =
      elim (cases_lt (length ms) (length vs)) [
        | inl shorter ↦ no_more_fields ms vs i object (omega arith)
        | inr longer ↦ no_more_values ms vs i object (omega arith)
      ]

  -- ---- the values of a list

  pub list_goes_on : (s : Shape) (done : List Json) (vs : List Value) (i : ℕ) (v : Value) (j : Json) (total : List json.Data)
      → i < length vs → v ≡ get_or vs i v
      → view j ≡ to_data numbers s (value_view v) → map view done ++ map (to_data numbers s) (map value_view (drop i vs)) ≡ total
      → map view (done ++ j ∷ []) ++ map (to_data numbers s) (map value_view (drop (i + 1) vs)) ≡ total
  list_goes_on s done vs i v j total lt is made so_far =
      let left : map (to_data numbers s) (map value_view (drop i vs)) ≡ view j ∷ map (to_data numbers s) (map value_view (drop (i + 1) vs))
      = ap (λ us. map (to_data numbers s) (map value_view us)) (left_is vs i v lt is)
      ∙ ap (λ d. d ∷ map (to_data numbers s) (map value_view (drop (i + 1) vs))) (sym made) in
      ap (λ ds. ds ++ map (to_data numbers s) (map value_view (drop (i + 1) vs))) (map-append view done (j ∷ []))
      ∙ append_assoc (map view done) (view j ∷ []) (map (to_data numbers s) (map value_view (drop (i + 1) vs)))
      ∙ sym (ap (λ ds. map view done ++ ds) left) ∙ so_far

  pub list_ends : (s : Shape) (done : List Json) (vs : List Value) (i : ℕ) (total : List json.Data) → length vs ≤ i
      → map view done ++ map (to_data numbers s) (map value_view (drop i vs)) ≡ total → map view done ≡ total
  list_ends s done vs i total le so_far =
      sym (ap (λ us. map view done ++ map (to_data numbers s) (map value_view us)) (drop_of_length-le vs le) ∙ append-nil (map view done)) ∙ so_far

  -- ---- the member of a union

  by_case : (b : Bool) (s : Shape) (ts : List Tree) (other : json.Data) (more : Option Shape) → other ≡ selected_data numbers more ts
      → (if b then only_data (to_data numbers s) ts else other) ≡ selected_data numbers (if b then Some s else more) ts
  by_case true s ts other more same = refl
  by_case false s ts other more same = same

  branches_selected : (bs : Branches) (f : Fields) (label : ℤ) (ts : List Tree)
      → branches_data numbers bs (fallback_data numbers f) label ts ≡ selected_data numbers (selected bs f label) ts
  unfolding to_data
  branches_selected no_branches no_fields label ts = refl
  branches_selected no_branches (field name s fs) label ts = refl
  branches_selected (branch ls name s bs) f label ts =
      by_case (is_label label ls) s ts (branches_data numbers bs (fallback_data numbers f) label ts) (selected bs f label) (branches_selected bs f label ts)

  -- a union whose member, or null, is written
  pub union_written : (d : Box Desc Global) (cs : Vec CaseDesc Global) (f : Option (Box NamedDesc Global)) (label : ℤ) (m : Option (Box Value Global))
      (l : json.Data) (written : json.Data) → l ≡ label_data numbers (desc_view d.value) label
      → written ≡ selected_data numbers (selected (branches_of (map case_view cs.items)) (fallback_view f) label) (member_view m)
      → choice_data l written ≡ to_data numbers (desc_view (desc.Choice d cs f)) (value_view (value.Choice label m))
  union_written d cs f label m l written same is =
      rw (same, is) (sym (union_data d cs f label m ∙ ap (choice_data (label_data numbers (desc_view d.value) label))
      (branches_selected (branches_of (map case_view cs.items)) (fallback_view f) label (member_view m))))

-- ---- which member a label selects

pub case_selected : (bs : List CaseDesc) (i : ℕ) (b : CaseDesc) (f : Fields) (label : ℤ) → i < length bs → b ≡ get_or bs i b
    → is_label label b.labels.items ≡ true
    → selected (branches_of (map case_view (drop i bs))) f label ≡ Some (desc_view b.desc)
case_selected bs i b f label lt is found = rw (branches_left bs i b lt is, found) refl

pub case_passed : (bs : List CaseDesc) (i : ℕ) (b : CaseDesc) (f : Fields) (label : ℤ) → i < length bs → b ≡ get_or bs i b
    → is_label label b.labels.items ≡ false
    → selected (branches_of (map case_view (drop i bs))) f label ≡ selected (branches_of (map case_view (drop (i + 1) bs))) f label
case_passed bs i b f label lt is passed = rw (branches_left bs i b lt is, passed) refl

pub by_default : (bs : List CaseDesc) (i : ℕ) (m : Box NamedDesc Global) (label : ℤ) → length bs ≤ i
    → selected (branches_of (map case_view (drop i bs))) (fallback_view (Some m)) label ≡ Some (desc_view m.value.desc)
by_default bs i m label le = rw (drop_of_length-le bs le, view-Named m.value) refl

pub none_selected : (bs : List CaseDesc) (i : ℕ) (label : ℤ) → length bs ≤ i
    → selected (branches_of (map case_view (drop i bs))) (fallback_view None) label ≡ None
none_selected bs i label le = rw (drop_of_length-le bs le) refl

pub view-Null : view Null ≡ json.null
view-Null = search (rules, the_lemmas)
