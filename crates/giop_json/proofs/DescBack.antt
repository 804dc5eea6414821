-- A description that is written as JSON is read back.
use Rattle.std.proofs.Common.{◌≡◌, ◌≤◌, ◌+◌, ℕ, zero, suc, ℤ, nat_lt, ◌&&◌, ◌==◌, Bool}
use Rattle.std.proofs.Common.{true, false, not, List, [], ◌∷◌, map, Option, Some, None, option_map, option_and_then, Ok, refl, ap, ◌∙◌, arith}
use Rattle.std.proofs.lemmas.Bool.{lt-ltb, and_parts}
use Rattle.std.proofs.lemmas.Bool.Decides.{nat_tests}
use Rattle.std.specs.List.{list_all}
use Rattle.std.specs.Option.{option_or}
use Rattle.serde_json.specs.Data as json
use Rattle.serde_json.specs.View.{items_of as json_items}
use Rattle.giop_types.specs.declared.description.desc_fault.DescFault.TheVariants.{BadDiscriminant, Doubled, Empty, TooDeep}
use Rattle.giop_json.specs.declared.number_form.NumberForm.TheVariants.{Plain}
use Rattle.giop_types.specs.Descriptions.Shape.{Shape, boolean, octet, char, short, ushort, long, ulong, longlong}
use Rattle.giop_types.specs.Descriptions.Shape.{ulonglong, text, octets, labels, members, choice, items, row, Fields}
use Rattle.giop_types.specs.Descriptions.Shape.{no_fields, field, Branches, no_branches, branch}
use Rattle.giop_types.specs.Descriptions.Checked.{all_labels, branches_fault, desc_fault, fault_if, fields_fault, has_bad_discriminant, has_doubles, is_empty, is_label_of, node_fault, own_fault}
use Rattle.giop_types.specs.Descriptions.Full.{is_discriminant}
use Rattle.giop_json.specs.DescFromJson.{case_in, desc_in, described, if_positive, if_ulong, member_in}
use Rattle.giop_json.specs.DescToJson.{branches_sayable, cases_data, desc_data, fields_sayable, is_sayable, members_data, pair}
use Rattle.giop_json.specs.FromJson.{items_shown, label_shown, octets_shown}
use Rattle.giop_json.specs.Plain.{branches_plain, fields_plain, is_plain, is_single}
use Rattle.giop_json.specs.ToJson.{label_data, text_data}
use Rattle.giop_types.specs.Values.Fits.{are_octets, fits_label, is_unsigned}
use Rattle.giop_types.specs.Values.Views.{Named, Selected, branches_of, fields_of}
use Rattle.giop_json.proofs.JsonBack.{apart_at, no_fault, unfaulted}
use Rattle.giop_json.proofs.JsonLeavesBack.{AreApart, label_back, text_back}

-- ---- parts

named_back : (name : List ℕ) → are_octets name ≡ true → octets_shown (text_data name) ≡ Some name
named_back name fine = text_back name fine

names_back : (names : List (List ℕ)) → list_all are_octets names ≡ true → items_shown octets_shown (json_items (map text_data names)) ≡ Some names
names_back [] fine = refl
names_back (name ∷ names) fine =
    let parts = and_parts (are_octets name) (list_all are_octets names) fine in
    rw (named_back name parts.0, names_back names parts.1) refl

labels_back : (disc : Shape) → AreApart disc → (ls : List ℤ) → list_all (fits_label disc) ls ≡ true
    → items_shown (label_shown disc) (json_items (map (label_data Plain disc) ls)) ≡ Some ls
labels_back disc apart [] fit = refl
labels_back disc apart (l ∷ ls) fit =
    let parts = and_parts (fits_label disc l) (list_all (fits_label disc) ls) fit in
    rw (label_back Plain disc l apart parts.0, labels_back disc apart ls parts.1) refl

-- members and cases as lists of them
abbrev fields_listed : Fields → List Named
fields_listed no_fields = []
fields_listed (field name s fs) = record { name = name; shape = s } ∷ fields_listed fs

fields_are : (fs : Fields) → fields_of (fields_listed fs) ≡ fs
fields_are no_fields = refl
fields_are (field name s fs) = ap (field name s) (fields_are fs)

abbrev branches_listed : Branches → List Selected
branches_listed no_branches = []
branches_listed (branch ls name s bs) = record { labels = ls; name = name; shape = s } ∷ branches_listed bs

branches_are : (bs : Branches) → branches_of (branches_listed bs) ≡ bs
branches_are no_branches = refl
branches_are (branch ls name s bs) = ap (branch ls name s) (branches_are bs)

pub member_back : (inner : json.Data → Option Shape) (name : List ℕ) (s : Shape) (written : json.Data) → are_octets name ≡ true → inner written ≡ Some s
    → member_in inner (pair (text_data name) written) ≡ Some (record { name = name; shape = s })
member_back inner name s written fine back = rw (named_back name fine, back) refl

case_back : (inner : json.Data → Option Shape) (disc : Shape) (ls : List ℤ) (name : List ℕ) (s : Shape) (written : json.Data)
    → AreApart disc → list_all (fits_label disc) ls ≡ true → are_octets name ≡ true → inner written ≡ Some s
    → case_in inner disc (json.array (json.item (json.array (json_items (map (label_data Plain disc) ls)))
    (json.item (text_data name) (json.item written json.no_items))))
    ≡ Some (record { labels = ls; name = name; shape = s })
case_back inner disc ls name s written apart fit fine back = rw (labels_back disc apart ls fit, named_back name fine, back) refl

-- ---- depths: a node without a fault is at most 32 deep, so a level is left for it

is_shallow : (depth : ℕ) (s : Shape) → node_fault depth s ≡ None → nat_lt 32 depth ≡ false
is_shallow depth s h = unfaulted (nat_lt 32 depth) TooDeep (no_fault (fault_if (nat_lt 32 depth) TooDeep) (own_fault s) h).0

node_of : (depth : ℕ) (s : Shape) → desc_fault depth s ≡ None → node_fault depth s ≡ None
unfolding desc_fault
node_of depth (members fs) h = (no_fault (node_fault depth (members fs)) (fields_fault (depth + 1) fs) h).0
node_of depth (choice disc bs other) h = (no_fault (node_fault depth (choice disc bs other))
    (option_or (desc_fault (depth + 1) disc) (option_or (branches_fault (depth + 1) bs) (fields_fault (depth + 1) other))) h).0
node_of depth (items s bound) h = (no_fault (node_fault depth (items s bound)) (desc_fault (depth + 1) s) h).0
node_of depth (row s n) h = (no_fault (node_fault depth (row s n)) (desc_fault (depth + 1) s) h).0
node_of depth boolean h = h
node_of depth octet h = h
node_of depth char h = h
node_of depth short h = h
node_of depth ushort h = h
node_of depth long h = h
node_of depth ulong h = h
node_of depth longlong h = h
node_of depth ulonglong h = h
node_of depth (text bound) h = h
node_of depth (octets bound) h = h
node_of depth (labels names) h = h

-- a union's discriminant is one
true_of : (b : Bool) → not b ≡ false → b ≡ true
true_of true is = refl
true_of false is = absurd cc

is_one_of : (depth : ℕ) (disc : Shape) (bs : Branches) (other : Fields) → node_fault depth (choice disc bs other) ≡ None → is_discriminant disc ≡ true
is_one_of depth disc bs other h =
    let s = choice disc bs other in
    let own = (no_fault (fault_if (nat_lt 32 depth) TooDeep) (own_fault s) h).1 in
    let more = (no_fault (fault_if (is_empty s) Empty)
    (option_or (fault_if (has_bad_discriminant s) BadDiscriminant) (fault_if (has_doubles s) Doubled)) own).1 in
    let bad = (no_fault (fault_if (has_bad_discriminant s) BadDiscriminant) (fault_if (has_doubles s) Doubled) more).0 in
    let both = true_of (is_discriminant disc && list_all (is_label_of disc) (all_labels bs)) (unfaulted (has_bad_discriminant s) BadDiscriminant bad) in
    (and_parts (is_discriminant disc) (list_all (is_label_of disc) (all_labels bs)) both).0

discriminant_plain : (disc : Shape) → is_discriminant disc ≡ true → is_plain disc ≡ true
unfolding is_plain
discriminant_plain boolean h = refl
discriminant_plain char h = refl
discriminant_plain short h = refl
discriminant_plain ushort h = refl
discriminant_plain long h = refl
discriminant_plain ulong h = refl
discriminant_plain longlong h = refl
discriminant_plain ulonglong h = refl
discriminant_plain (labels names) h = refl
discriminant_plain octet h = absurd cc
discriminant_plain (text n) h = absurd cc
discriminant_plain (octets n) h = absurd cc
discriminant_plain (members fs) h = absurd cc
discriminant_plain (choice d bs o) h = absurd cc
discriminant_plain (items s n) h = absurd cc
discriminant_plain (row s n) h = absurd cc

-- levels that are enough for a depth, and for the one below it
abbrev Enough : ℕ → ℕ → Type 0
Enough levels depth = 33 ≤ levels + depth

no_level : {P : Type 0} (depth : ℕ) (s : Shape) → Enough zero depth → desc_fault depth s ≡ None → P
no_level depth s enough checked =
    let shallow = is_shallow depth s (node_of depth s checked) in
    let deep : nat_lt 32 depth ≡ true = lt-ltb 32 depth (omega arith) in absurd cc

-- ---- bounds

is_some_bound : (n : ℕ) → (suc n == 0) ≡ false
is_some_bound n = grind (arith, nat_tests)

bounded_back : (make : ℕ → Shape) (n : ℕ) → is_unsigned 32 (suc n) ≡ true
    → option_map make (option_and_then if_positive (if_ulong (suc n))) ≡ Some (make (suc n))
bounded_back make n small = rw (small, is_some_bound n) refl

mutual
  unfolding desc_in desc_data is_sayable is_plain desc_fault

  pub desc_back : (s : Shape) (depth levels : ℕ) → Enough levels depth → desc_fault depth s ≡ None → is_plain s ≡ true → is_sayable s ≡ true
      → desc_in levels (desc_data s) ≡ Some s
  desc_back s depth zero enough checked plain fine = no_level depth s enough checked
  desc_back boolean depth (suc k) enough checked plain fine = refl
  desc_back octet depth (suc k) enough checked plain fine = refl
  desc_back char depth (suc k) enough checked plain fine = refl
  desc_back short depth (suc k) enough checked plain fine = refl
  desc_back ushort depth (suc k) enough checked plain fine = refl
  desc_back long depth (suc k) enough checked plain fine = refl
  desc_back ulong depth (suc k) enough checked plain fine = refl
  desc_back longlong depth (suc k) enough checked plain fine = refl
  desc_back ulonglong depth (suc k) enough checked plain fine = refl
  desc_back (text zero) depth (suc k) enough checked plain fine = refl
  desc_back (text (suc n)) depth (suc k) enough checked plain fine = bounded_back text n fine
  desc_back (octets zero) depth (suc k) enough checked plain fine = refl
  desc_back (octets (suc n)) depth (suc k) enough checked plain fine = bounded_back octets n fine
  desc_back (labels names) depth (suc k) enough checked plain fine = ap (option_map labels) (names_back names fine)
  desc_back (members fs) depth (suc k) enough checked plain fine =
      let node = no_fault (node_fault depth (members fs)) (fields_fault (depth + 1) fs) checked in
      ap (option_map (λ ms. members (fields_of ms))) (fields_back fs (depth + 1) k (omega arith) node.1 plain fine)
      ∙ ap (λ it. Some (members it)) (fields_are fs)
  desc_back (choice disc bs other) depth (suc k) enough checked plain fine =
      let node = no_fault (node_fault depth (choice disc bs other))
      (option_or (desc_fault (depth + 1) disc) (option_or (branches_fault (depth + 1) bs) (fields_fault (depth + 1) other))) checked in
      let parts = no_fault (desc_fault (depth + 1) disc) (option_or (branches_fault (depth + 1) bs) (fields_fault (depth + 1) other)) node.1 in
      let rest = no_fault (branches_fault (depth + 1) bs) (fields_fault (depth + 1) other) parts.1 in
      let singles = and_parts (branches_plain bs) (is_single other && fields_plain other) plain in
      let one = and_parts (is_single other) (fields_plain other) singles.1 in
      let said = and_parts (is_sayable disc) (branches_sayable disc bs && fields_sayable other) fine in
      let others = and_parts (branches_sayable disc bs) (fields_sayable other) said.1 in
      let d = desc_back disc (depth + 1) k (omega arith) parts.0 (discriminant_plain disc (is_one_of depth disc bs other node.0)) said.0 in
      let cases = branches_back disc bs (depth + 1) k (omega arith) (apart_at (depth + 1) disc parts.0) rest.0 singles.0 others.0 in
      union_back disc bs other (depth + 1) k (omega arith) d cases rest.1 one.0 one.1 others.1
  desc_back (items s zero) depth (suc k) enough checked plain fine =
      let node = no_fault (node_fault depth (items s zero)) (desc_fault (depth + 1) s) checked in
      ap (option_map (λ t. items t 0)) (desc_back s (depth + 1) k (omega arith) node.1 plain (and_parts (is_unsigned 32 zero) (is_sayable s) fine).1)
  desc_back (items s (suc n)) depth (suc k) enough checked plain fine =
      let node = no_fault (node_fault depth (items s (suc n))) (desc_fault (depth + 1) s) checked in
      let said = and_parts (is_unsigned 32 (suc n)) (is_sayable s) fine in
      rw (said.0, is_some_bound n) (ap (option_map (λ t. items t (suc n))) (desc_back s (depth + 1) k (omega arith) node.1 plain said.1))
  desc_back (row s n) depth (suc k) enough checked plain fine =
      let node = no_fault (node_fault depth (row s n)) (desc_fault (depth + 1) s) checked in
      let said = and_parts (is_unsigned 32 n) (is_sayable s) fine in
      rw said.0 (ap (option_map (λ t. row t n)) (desc_back s (depth + 1) k (omega arith) node.1 plain said.1))

  fields_back : (fs : Fields) (depth levels : ℕ) → Enough levels depth → fields_fault depth fs ≡ None → fields_plain fs ≡ true → fields_sayable fs ≡ true
      → items_shown (member_in (desc_in levels)) (members_data fs) ≡ Some (fields_listed fs)
  fields_back no_fields depth levels enough checked plain fine = refl
  fields_back (field name s fs) depth levels enough checked plain fine =
      let faults = no_fault (desc_fault depth s) (fields_fault depth fs) checked in
      let singles = and_parts (is_plain s) (fields_plain fs) plain in
      let said = and_parts (are_octets name) (is_sayable s && fields_sayable fs) fine in
      let more = and_parts (is_sayable s) (fields_sayable fs) said.1 in
      rw (
        member_back (desc_in levels) name s (desc_data s) said.0 (desc_back s depth levels enough faults.0 singles.0 more.0),
        fields_back fs depth levels enough faults.1 singles.1 more.1,
      ) refl

  branches_back : (disc : Shape) (bs : Branches) (depth levels : ℕ) → Enough levels depth → AreApart disc → branches_fault depth bs ≡ None
      → branches_plain bs ≡ true → branches_sayable disc bs ≡ true
      → items_shown (case_in (desc_in levels) disc) (cases_data disc bs) ≡ Some (branches_listed bs)
  branches_back disc no_branches depth levels enough apart checked plain fine = refl
  branches_back disc (branch ls name s bs) depth levels enough apart checked plain fine =
      let faults = no_fault (desc_fault depth s) (branches_fault depth bs) checked in
      let singles = and_parts (is_plain s) (branches_plain bs) plain in
      let fit = and_parts (list_all (fits_label disc) ls) (are_octets name && (is_sayable s && branches_sayable disc bs)) fine in
      let said = and_parts (are_octets name) (is_sayable s && branches_sayable disc bs) fit.1 in
      let more = and_parts (is_sayable s) (branches_sayable disc bs) said.1 in
      rw (
        case_back (desc_in levels) disc ls name s (desc_data s) apart fit.0 said.0 (desc_back s depth levels enough faults.0 singles.0 more.0),
        branches_back disc bs depth levels enough apart faults.1 singles.1 more.1,
      ) refl

  union_back : (disc : Shape) (bs : Branches) (other : Fields) (depth k : ℕ) → Enough k depth → desc_in k (desc_data disc) ≡ Some disc
      → items_shown (case_in (desc_in k) disc) (cases_data disc bs) ≡ Some (branches_listed bs)
      → fields_fault depth other ≡ None → is_single other ≡ true → fields_plain other ≡ true → fields_sayable other ≡ true
      → desc_in (suc k) (desc_data (choice disc bs other)) ≡ Some (choice disc bs other)
  union_back disc bs no_fields depth k enough d cases checked single plain fine =
      rw (d, cases) (ap (λ it. Some (choice disc it no_fields)) (branches_are bs))
  union_back disc bs (field name s no_fields) depth k enough d cases checked single plain fine =
      let faults = no_fault (desc_fault depth s) None checked in
      let said = and_parts (are_octets name) (is_sayable s && true) fine in
      let back = desc_back s depth k enough faults.0 (and_parts (is_plain s) true plain).0 (and_parts (is_sayable s) true said.1).0 in
      rw (d, cases, named_back name said.0, back) (ap (λ it. Some (choice disc it (field name s no_fields))) (branches_are bs))
  union_back disc bs (field name s (field other t fs)) depth k enough d cases checked single plain fine = absurd cc

-- what a description is written as describes it
pub described_back : (s : Shape) → desc_fault 1 s ≡ None → is_plain s ≡ true → is_sayable s ≡ true → described (desc_in 128 (desc_data s)) ≡ Ok s
described_back s checked plain fine = rw (desc_back s 1 128 (omega arith) checked plain fine, checked) refl
