-- Values that are read from JSON, part by part.
use Rattle.std.proofs.Common.{◌≡◌, ℕ, ◌+◌, ◌<◌, ◌≤◌, Bool, true, false, bytes_eq, if◌then◌else◌, List, [], ◌∷◌}
use Rattle.std.proofs.Common.{drop, get_or, map, length, refl, sym, ap, ◌∙◌, arith, Option, Some, None, option_map}
use Rattle.std.proofs.Common.{option_and_then, ℤ, ◌==◌, ◌⊎◌, inl, inr, is_some, Result, Ok, Err, IfOk, IfErr}
use Rattle.std.specs.Bool.{⊤}
use Rattle.giop_json.specs.declared.form_fault.FormFault.{FormFault}
use Rattle.giop_json.specs.declared.form_fault.FormFault.TheVariants.{BadShape, NoMemory}
use Rattle.std.proofs.Math.ListN.{drop_of_length-le}
use Rattle.giop_json.specs.JsonText.{text_of}
use Rattle.serde_json.specs.Data as json
use Rattle.serde_json.specs.Find.{get, as_array, as_object, as_null}
use Rattle.serde_json.specs.View.{view, items_view, members_view}
use Rattle.serde_json.specs.Events.{members_len}
use Rattle.serde_json.specs.declared.value.Value.{Value as Json}
use Rattle.serde_json.proofs.Views.{members_len-members_view, Entry}
use Rattle.giop_types.specs.declared.description.desc.NamedDesc.{NamedDesc}
use Rattle.giop_types.specs.declared.description.desc.CaseDesc.{CaseDesc}
use Rattle.giop_types.specs.Coding.Decoding.{is_label}
use Rattle.giop_types.specs.declared.description.desc.Desc.TheVariants as desc
use Rattle.giop_types.specs.Descriptions.Shape.{Shape, members, choice, Fields, no_fields, field, Branches}
use Rattle.giop_types.specs.Values.Tree.{Tree, members_of, items_of, row_of, choice_of}
use Rattle.giop_types.specs.Values.Views.{desc_view, named_view, case_view, fallback_view, fields_of, branches_of, trees_of, value_view}
use Rattle.giop_json.specs.FromJson.{ordinal_in, shown, fields_shown, branches_shown, items_shown, field_count, one_shown, is_object_of, fallback_shown}
use Rattle.giop_json.specs.FromJson.{Shows, ShowsCase, ordinal_shown, ordinal_tree, union_parts, label_shown, members_shown}
use Rattle.giop_json.specs.Reference.{is_reference, reference_shown}
use Rattle.std.specs.declared.vec.Vec.{Vec}
use Rattle.std.specs.declared.alloc.Global.{Global}
use Rattle.std.specs.declared.boxed.Box.{Box}
use Rattle.giop_types.specs.declared.description.desc.Desc.{Desc}
use Rattle.giop_types.specs.declared.value.Value.{Value}
use Rattle.giop_types.proofs.Values.ViewLemmas.{view-Named, view-Labels, view-Items, view-Row, view-Choice, view-Members}
use Rattle.giop_types.proofs.Coding.PartLoops.{IsEachPart}
use Rattle.giop_types.proofs.Coding.MemberLoops.{left_is, branches_left}

-- ---- the ordinal of a name

ordinal_step : (s : List ℕ) (names : List (List ℕ)) (i : ℕ) (name : List ℕ) (b : Bool) → i < length names → name ≡ get_or names i name
    → bytes_eq (text_of name) s ≡ b
    → ordinal_in s (drop i names) ≡ (if b then 0 else ordinal_in s (drop (i + 1) names) + 1)
ordinal_step s names i name b lt is test = rw (left_is names i name lt is, test) refl

pub ordinal_found : (s : List ℕ) (names : List (List ℕ)) (i : ℕ) (name : List ℕ) (total : ℕ) → i < length names → name ≡ get_or names i name
    → bytes_eq (text_of name) s ≡ true
    → i + ordinal_in s (drop i names) ≡ total → i ≡ total
ordinal_found s names i name total lt is test so_far =
    let step = ordinal_step s names i name true lt is test in
    omega arith

pub ordinal_passed : (s : List ℕ) (names : List (List ℕ)) (i : ℕ) (name : List ℕ) (total : ℕ) → i < length names → name ≡ get_or names i name
    → bytes_eq (text_of name) s ≡ false
    → i + ordinal_in s (drop i names) ≡ total → i + 1 + ordinal_in s (drop (i + 1) names) ≡ total
ordinal_passed s names i name total lt is test so_far =
    let step = ordinal_step s names i name false lt is test in
    omega arith

pub ordinal_absent : (s : List ℕ) (names : List (List ℕ)) (i : ℕ) (total : ℕ) → length names ≤ i → i + ordinal_in s (drop i names) ≡ total → i ≡ total
ordinal_absent s names i total le so_far =
    let none : ordinal_in s (drop i names) ≡ 0 = ap (ordinal_in s) (drop_of_length-le names le) in
    omega arith

-- ---- members and items

-- what a member's value is
abbrev pub member_shown : json.Data → NamedDesc → Option Tree
member_shown d m = option_and_then (shown (desc_view m.desc)) (get (text_of m.name) d)

pub members-each : (d : json.Data) → IsEachPart (member_shown d) (λ ms. fields_shown (fields_of (map named_view ms)) d)
unfolding shown
members-each d = record { none = refl; more = λ m ms. rw (view-Named m) refl }

pub items-each : {A : Type 0} (p : json.Data → Option A) → IsEachPart (λ j. p (view j)) (λ js. items_shown p (items_view js))
items-each p = record { none = refl; more = λ j js. refl }

-- what a list of items is
pub listed : {A : Type 0} (p : json.Data → Option A) (d : json.Data) (js : List Json) (parts : Option (List A)) → as_array d ≡ Some (items_view js)
    → items_shown p (items_view js) ≡ parts → option_and_then (items_shown p) (as_array d) ≡ parts
listed p d js parts is made = rw is made

pub field_count_is : (ms : List NamedDesc) → field_count (fields_of (map named_view ms)) ≡ length ms
field_count_is [] = refl
field_count_is (m ∷ ms) = let rest = field_count_is ms in omega arith

-- ---- the member of a union

pub case_shown : (bs : List CaseDesc) (i : ℕ) (b : CaseDesc) (label : ℤ) (other : json.Data → Option (List Tree)) (d : json.Data) → i < length bs
    → b ≡ get_or bs i b
    → is_label label b.labels.items ≡ true
    → branches_shown (branches_of (map case_view (drop i bs))) other label d ≡ one_shown (shown (desc_view b.desc) d)
unfolding shown
case_shown bs i b label other d lt is found = rw (branches_left bs i b lt is, found) refl

pub case_passed : (bs : List CaseDesc) (i : ℕ) (b : CaseDesc) (label : ℤ) (other : json.Data → Option (List Tree)) (d : json.Data) → i < length bs
    → b ≡ get_or bs i b
    → is_label label b.labels.items ≡ false
    → branches_shown (branches_of (map case_view (drop i bs))) other label d ≡ branches_shown (branches_of (map case_view (drop (i + 1) bs))) other label d
unfolding shown
case_passed bs i b label other d lt is passed = rw (branches_left bs i b lt is, passed) refl

pub no_case : (bs : List CaseDesc) (i : ℕ) (label : ℤ) (other : json.Data → Option (List Tree)) (d : json.Data) → length bs ≤ i
    → branches_shown (branches_of (map case_view (drop i bs))) other label d ≡ other d
unfolding shown
no_case bs i label other d le = rw (drop_of_length-le bs le) refl

-- ---- variants with parts

pub items_form : (d : _) (n : ℕ) (j : json.Data) → shown (desc_view (desc.Items d n)) j
    ≡ option_map (λ ts. items_of (trees_of ts)) (option_and_then (items_shown (shown (desc_view d.value))) (as_array j))
unfolding shown
items_form d n j = ap (λ s. shown s j) (view-Items d n)

pub row_form : (d : _) (n : ℕ) (j : json.Data) → shown (desc_view (desc.Row d n)) j
    ≡ option_map (λ ts. row_of (trees_of ts)) (option_and_then (items_shown (shown (desc_view d.value))) (as_array j))
unfolding shown
row_form d n j = ap (λ s. shown s j) (view-Row d n)

-- a list of names

labels_form : (names : _) (d : json.Data) → shown (desc_view (desc.Labels names)) d ≡ option_map ordinal_tree (ordinal_shown names.items d)
unfolding shown
labels_form names d = ap (λ s. shown s d) (view-Labels names)

same_items : {A : Type 0} (f g : json.Data → Option A) → ((d : json.Data) → f d ≡ g d) → (js : json.Items) → items_shown f js ≡ items_shown g js
same_items f g same json.no_items = refl
same_items f g same (json.item d ds) = rw (same d, same_items f g same ds) refl

pub labels_listed : (names : _) (d : json.Data) (js : json.Items) → Some js ≡ as_array d
    → option_and_then (items_shown (shown (desc_view (desc.Labels names)))) (as_array d)
    ≡ items_shown (λ j. option_map ordinal_tree (ordinal_shown names.items j)) js
labels_listed names d js is =
    ap (option_and_then (items_shown (shown (desc_view (desc.Labels names))))) (sym is)
    ∙ same_items (shown (desc_view (desc.Labels names))) (λ j. option_map ordinal_tree (ordinal_shown names.items j)) (labels_form names) js

choice_form : (d : Box Desc Global) (cs : Vec CaseDesc Global) (f : Option (Box NamedDesc Global)) (j : json.Data)
    → shown (desc_view (desc.Choice d cs f)) j ≡ shown (choice (desc_view d.value) (branches_of (map case_view cs.items)) (fallback_view f)) j
choice_form d cs f j = ap (λ s. shown s j) (view-Choice d cs f)

-- ---- objects of so many members

counted : (j : json.Data) (ms : json.Members) (n k : ℕ) → as_object j ≡ Some ms → k ≡ members_len ms → (k == n) ≡ is_object_of n j
counted j ms n k is many = rw (is, many) refl

pub object_counted : (j : Json) (entries : List Entry) (n k : ℕ) → Some (members_view entries) ≡ as_object (view j) → k ≡ length entries
    → (k == n) ≡ is_object_of n (view j)
object_counted j entries n k is many = counted (view j) (members_view entries) n k (sym is) (many ∙ sym (members_len-members_view entries))

-- ---- refusals

-- a form is refused, or memory is wanting
abbrev pub Refused : {A : Type 0} → FormFault → Option A → Type 0
Refused e form = ((e ≡ BadShape) × (form ≡ None)) ⊎ (e ≡ NoMemory)

-- a part that is refused refuses the whole
pub refused_along : {A B : Type 0} (e : FormFault) (part : Option A) (whole : Option B) → (part ≡ None → whole ≡ None) → Refused e part → Refused e whole
refused_along e part whole along (inl refused) = inl (refused.0, along refused.1)
refused_along e part whole along (inr memory) = inr memory

pub no_form : {A B : Type 0} (f : A → B) (form : Option A) → form ≡ None → option_map f form ≡ None
no_form f form none = rw none refl

-- ---- the member of a union by default

pub default_shown : (m : NamedDesc) (d : json.Data)
    → fallback_shown (field (named_view m).name (named_view m).shape no_fields) d ≡ one_shown (shown (desc_view m.desc) d)
unfolding shown
default_shown m d = rw (view-Named m) refl

-- no values
abbrev pub none_of : List Tree
none_of = []

pub none_by_default : (d : json.Data) → fallback_shown no_fields d ≡ option_map (λ x. []) (as_null d)
unfolding shown
none_by_default d = refl

null_or : (o : Option ⊤) (some : Bool) → some ≡ is_some o → option_map (λ (x : ⊤). none_of) o ≡ (if some then Some none_of else None)
null_or None some same = rw same refl
null_or (Some x) some same = rw same refl

pub null_shown : (d : json.Data) (some : Bool) → some ≡ is_some (as_null d) → fallback_shown no_fields d ≡ (if some then Some none_of else None)
null_shown d some same = none_by_default d ∙ null_or (as_null d) some same

-- ---- unions

pub case_absent : (o : Option Value) (form other : Option (List Tree)) → o ≡ None → ShowsCase (Ok o) form other → form ≡ other
case_absent None form other is h = h
case_absent (Some v) form other is h = absurd cc

pub choice_is : (disc : Shape) (bs : Branches) (f : Fields) (j l m : json.Data) (label : ℤ) (ts : List Tree) → union_parts j ≡ Some (l, m)
    → label_shown disc l ≡ Some label → branches_shown bs (fallback_shown f) label m ≡ Some ts
    → shown (choice disc bs f) j ≡ Some (choice_of label (trees_of ts))
unfolding shown
choice_is disc bs f j l m label ts parts named made = rw (parts, named, made) refl

made_shows : (result : Result Value FormFault) (form : Option Tree) (t : Tree) → form ≡ Some t → IfOk result (λ v. value_view v ≡ t)
    → IfErr result (λ e. e ≡ NoMemory) → Shows value_view result form
made_shows (Ok v) form t is ok err = is ∙ ap (λ x. Some x) (sym ok)
made_shows (Err e) form t is ok err = inr err

-- a union was made of its discriminant and its member
pub choice_shows : (d : Box Desc Global) (cs : Vec CaseDesc Global) (f : Option (Box NamedDesc Global)) (j l m : json.Data) (label : ℤ) (ts : List Tree)
    (result : Result Value FormFault) → union_parts j ≡ Some (l, m)
    → label_shown (desc_view d.value) l ≡ Some label
    → branches_shown (branches_of (map case_view cs.items)) (fallback_shown (fallback_view f)) label m ≡ Some ts
    → IfOk result (λ v. value_view v ≡ choice_of label (trees_of ts)) → IfErr result (λ e. e ≡ NoMemory)
    → Shows value_view result (shown (desc_view (desc.Choice d cs f)) j)
choice_shows d cs f j l m label ts result parts named made ok err =
    made_shows result (shown (desc_view (desc.Choice d cs f)) j) (choice_of label (trees_of ts))
    (choice_form d cs f j ∙ choice_is (desc_view d.value) (branches_of (map case_view cs.items)) (fallback_view f) j l m label ts parts named made) ok err

-- ---- structs

members_form : (ms : Vec NamedDesc Global) (j : json.Data) → shown (desc_view (desc.Members ms)) j ≡ shown (members (fields_of (map named_view ms.items))) j
members_form ms j = ap (λ s. shown s j) (view-Members ms)

plain_form : (fs : Fields) (j : json.Data) → is_reference fs ≡ false → shown (members fs) j ≡ option_map (λ ts. members_of (trees_of ts)) (members_shown fs j)
unfolding shown
plain_form fs j plain = rw plain refl

reference_form : (fs : Fields) (j : json.Data) → is_reference fs ≡ true → shown (members fs) j ≡ reference_shown (members fs) j
unfolding shown
reference_form fs j is = rw is refl

-- a struct that is no IOR
pub plain_shown : (ms : Vec NamedDesc Global) (j : json.Data) → is_reference (fields_of (map named_view ms.items)) ≡ false
    → shown (desc_view (desc.Members ms)) j ≡ option_map (λ ts. members_of (trees_of ts)) (members_shown (fields_of (map named_view ms.items)) j)
plain_shown ms j plain = members_form ms j ∙ plain_form (fields_of (map named_view ms.items)) j plain

-- an IOR
pub reference_read : (ms : Vec NamedDesc Global) (j : json.Data) → is_reference (fields_of (map named_view ms.items)) ≡ true
    → reference_shown (desc_view (desc.Members ms)) j ≡ shown (desc_view (desc.Members ms)) j
reference_read ms j is =
    ap (λ s. reference_shown s j) (view-Members ms) ∙ sym (members_form ms j ∙ reference_form (fields_of (map named_view ms.items)) j is)
