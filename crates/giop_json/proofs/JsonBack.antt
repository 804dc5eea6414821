-- A fitting value that is written as JSON is read back.
use Rattle.std.proofs.Common.{◌≡◌, ◌<◌, ◌≤◌, ◌^◌, ◌+◌, ℕ, ℤ, pos, negsuc, nat_lt, ◌&&◌, ◌==◌, Bool}
use Rattle.std.proofs.Common.{true, false, not, if◌then◌else◌, int_le}
use Rattle.std.proofs.Common.{List, [], ◌∷◌, map, length, Option, Some, None, option_map, Result, Ok, Err, inl, inr, refl, ap, ◌∙◌, arith}
use Rattle.std.proofs.lemmas.Bool.{lt-ltb, ltb-true, leb-true, le-leb, and_parts, and_from, or_parts}
use Rattle.std.proofs.lemmas.Bool.Decides.{nat_tests}
use Rattle.std.specs.List.{list_all, list_any}
use Rattle.std.specs.Option.{option_or}
use Rattle.std.specs.Result.{result_ok}
use Rattle.hex.proofs.HexLemmas.{decode_of-encode_lower}
use Rattle.serde_json.specs.Data as json
use Rattle.serde_json.specs.Events.{members_len}
use Rattle.serde_json.specs.View.{items_of as json_items}
use Rattle.giop_types.specs.declared.description.checked_desc.CheckedDesc.{CheckedDesc}
use Rattle.giop_json.specs.declared.form_fault.FormFault.{FormFault}
use Rattle.giop_types.specs.declared.value.Value.{Value}
use Rattle.giop_types.specs.Descriptions.CheckedShape.{checked_shape}
use Rattle.giop_types.specs.Values.Views.{value_view}
use Rattle.giop_json.proofs.ViewedPlain.{viewed_plain}
use Rattle.giop_types.specs.declared.description.desc_fault.DescFault.{DescFault}
use Rattle.giop_types.specs.declared.description.desc_fault.DescFault.TheVariants.{Empty, Doubled, BadDiscriminant, TooDeep}
use Rattle.giop_types.specs.Descriptions.Shape.{Shape, boolean, octet, char, short, ushort, long, ulong, longlong}
use Rattle.giop_types.specs.Descriptions.Shape.{ulonglong, text, octets, labels, members, choice, items, row, Fields}
use Rattle.giop_types.specs.Descriptions.Shape.{no_fields, field, Branches, no_branches, branch}
use Rattle.giop_types.specs.Values.Tree.{Tree, boolean_of, octet_of, char_of, short_of, ushort_of, long_of, ulong_of}
use Rattle.giop_types.specs.Values.Tree.{longlong_of, ulonglong_of, text_of, octets_of, label_of, members_of}
use Rattle.giop_types.specs.Values.Tree.{choice_of, items_of, row_of, Trees, no_trees, tree}
use Rattle.giop_types.specs.Coding.Decoding.{is_label}
use Rattle.giop_types.specs.Values.Views.{trees_of}
use Rattle.giop_types.specs.Descriptions.Checked.{is_between, fault_if, is_empty, has_bad_discriminant, has_doubles, own_fault, node_fault}
use Rattle.giop_types.specs.Descriptions.Checked.{desc_fault, fields_fault, branches_fault, same_name, has_doubled, field_names}
use Rattle.giop_json.specs.Plain.{is_single, is_plain, fields_plain, branches_plain}
use Rattle.giop_types.specs.Values.Fits.{list_of, is_unsigned, is_counted, are_octets}
use Rattle.giop_types.specs.Values.Fits.{is_one, fits, fits_label, fields_fit, branches_fit}
use Rattle.giop_json.specs.JsonText as utf8
use Rattle.giop_json.specs.Reference.{is_reference}
use Rattle.giop_json.specs.ToJson.{to_data, fields_data, branches_data, fallback_data, only_data, label_data, choice_data}
use Rattle.giop_json.specs.FromJson.{number_tree, shown, fields_shown, branches_shown, fallback_shown, items_shown, one_shown}
use Rattle.giop_json.specs.FromJson.{field_count, union_parts, is_object_of, from_data, Reads, ReadsBack}
use Rattle.giop_cdr.specs.Reading.Values.{has_null, passes}
use Rattle.giop_json.proofs.FromJsonLemmas.{choice_is}
use Rattle.giop_json.proofs.JsonLeavesBack.{text_back, char_back, octets_are_bytes, name_back, natural_back, signed_back, AreApart, label_back}
use Rattle.giop_types.proofs.Descriptions.CheckLemmas.{faultless_full}
use Rattle.giop_json.proofs.ReferenceBack.{reference_back}
use Rattle.giop_json.proofs.JsonObjects.{member_found, all_new, fields_counted}
use Rattle.std.proofs.lemmas.Bool.{false≢true}
use Rattle.giop_json.specs.declared.number_form.NumberForm.{NumberForm}

-- the values of a list, and the list of the values
listed : (ts : Trees) → trees_of (list_of ts) ≡ ts
listed no_trees = refl
listed (tree t ts) = ap (tree t) (listed ts)

-- ---- a node without a fault

pub no_fault : (a b : Option DescFault) → option_or a b ≡ None → (a ≡ None) × (b ≡ None)
no_fault None b h = (refl, h)
no_fault (Some e) b h = absurd cc

pub unfaulted : (b : Bool) (e : DescFault) → fault_if b e ≡ None → b ≡ false
unfaulted true e h = absurd cc
unfaulted false e h = refl

no_doubles : (depth : ℕ) (s : Shape) → node_fault depth s ≡ None → has_doubles s ≡ false
no_doubles depth s h =
    let own = (no_fault (fault_if (nat_lt 32 depth) TooDeep) (own_fault s) h).1 in
    let more =
    (no_fault (fault_if (is_empty s) Empty) (option_or (fault_if (has_bad_discriminant s) BadDiscriminant) (fault_if (has_doubles s) Doubled)) own).1 in
    let last = (no_fault (fault_if (has_bad_discriminant s) BadDiscriminant) (fault_if (has_doubles s) Doubled) more).1 in
    unfaulted (has_doubles s) Doubled last

pub apart_at : (depth : ℕ) (disc : Shape) → desc_fault depth disc ≡ None → AreApart disc
unfolding desc_fault
apart_at depth (labels names) h = no_doubles depth (labels names) h
apart_at depth boolean h = tt
apart_at depth octet h = tt
apart_at depth char h = tt
apart_at depth short h = tt
apart_at depth ushort h = tt
apart_at depth long h = tt
apart_at depth ulong h = tt
apart_at depth longlong h = tt
apart_at depth ulonglong h = tt
apart_at depth (text n) h = tt
apart_at depth (octets n) h = tt
apart_at depth (members fs) h = tt
apart_at depth (choice d bs o) h = tt
apart_at depth (items t n) h = tt
apart_at depth (row t n) h = tt

-- ---- numbers

below : (n k : ℕ) → int_le (pos n) (pos k) ≡ true → nat_lt n (k + 1) ≡ true
below n k h =
    let le : n ≤ k = leb-true n k h in
    lt-ltb n (k + 1) (omega arith)

within_64 : (n : ℕ) → is_unsigned 64 n ≡ true → is_between (pos 0) (pos 18446744073709551615) (pos n) ≡ true
within_64 n h =
    let lt : n < 2 ^ 64 = ltb-true n (2 ^ 64) h in
    and_from (int_le (pos 0) (pos n)) (int_le (pos n) (pos 18446744073709551615)) (le-leb 0 n (omega arith)) (le-leb n 18446744073709551615 (omega arith))

-- ---- the values of a list

each_back : (p : Tree → Bool) (read : json.Data → Option Tree) (write : Tree → json.Data) → ((t : Tree) → p t ≡ true → read (write t) ≡ Some t)
    → (ts : List Tree) → list_all p ts ≡ true → items_shown read (json_items (map write ts)) ≡ Some ts
each_back p read write back [] h = refl
each_back p read write back (t ∷ ts) h =
    let parts = and_parts (p t) (list_all p ts) h in
    rw (back t parts.0, each_back p read write back ts parts.1) refl

items_back : (s : Shape) (ts : Trees) (read : json.Data → Option Tree) (write : Tree → json.Data)
    → items_shown read (json_items (map write (list_of ts))) ≡ Some (list_of ts)
    → (of : Trees → Tree) → option_map (λ us. of (trees_of us)) (items_shown read (json_items (map write (list_of ts)))) ≡ Some (of ts)
items_back s ts read write back of = rw back (ap (λ us. Some (of us)) (listed ts))

one_back : (p : Tree → Bool) (read : json.Data → Option Tree) (write : Tree → json.Data) → ((t : Tree) → p t ≡ true → read (write t) ≡ Some t)
    → (ts : List Tree) → is_one p ts ≡ true → one_shown (read (only_data write ts)) ≡ Some ts
one_back p read write back [] h = absurd (false≢true h)
one_back p read write back (t ∷ []) h = ap one_shown (back t h)
one_back p read write back (t ∷ u ∷ us) h = absurd (false≢true h)

by_case : (b : Bool) (d e : json.Data) (f g : json.Data → Option (List Tree)) (ts : List Tree) (fit unfit : Bool)
    → (if b then fit else unfit) ≡ true → (fit ≡ true → f d ≡ Some ts) → (unfit ≡ true → g e ≡ Some ts)
    → (if b then f (if b then d else e) else g (if b then d else e)) ≡ Some ts
by_case true d e f g ts fit unfit h found passed = found h
by_case false d e f g ts fit unfit h found passed = passed h

-- the parts of a union that was written
parts_back : (label member : json.Data) → union_parts (choice_data label member) ≡ Some (label, member)
parts_back label member = refl

equal : (n : ℕ) → (n == n) ≡ true
equal n = grind (arith, nat_tests)

-- one of two
either : {P : Type 0} (b : Bool) → (b ≡ true → P) → (b ≡ false → P) → P
either true then_this else_that = then_this refl
either false then_this else_that = else_that refl

-- the form of numbers
module _ (numbers : NumberForm) where
  object_of : (fs : Fields) (ts : List Tree) → fields_fit fs ts ≡ true → has_doubled same_name (field_names fs) ≡ false
      → is_object_of (field_count fs) (json.object (fields_data numbers fs ts json.no_members)) ≡ true
  object_of fs ts fit apart =
      let many : members_len (fields_data numbers fs ts json.no_members) ≡ field_count fs + 0 =
      fields_counted numbers fs ts json.no_members fit apart (all_new fs) in
      let same : members_len (fields_data numbers fs ts json.no_members) ≡ field_count fs = omega arith in
      rw same (equal (field_count fs))

  mutual
    unfolding fits to_data shown desc_fault is_plain

    pub json_back : (s : Shape) (t : Tree) (depth : ℕ) → desc_fault depth s ≡ None → is_plain s ≡ true → fits s t ≡ true
        → shown s (to_data numbers s t) ≡ Some t
    json_back boolean (boolean_of b) depth checked single fit = refl
    json_back boolean _ depth checked single fit = absurd (false≢true fit)
    json_back octet (octet_of n) depth checked single fit = rw fit refl
    json_back octet _ depth checked single fit = absurd (false≢true fit)
    json_back char (char_of n) depth checked single fit = ap (option_map char_of) (char_back n fit)
    json_back char _ depth checked single fit = absurd (false≢true fit)
    json_back short (short_of (pos n)) depth checked single fit =
        rw (below n 32767 (and_parts (int_le (negsuc 32767) (pos n)) (int_le (pos n) (pos 32767)) fit).1) refl
    json_back short (short_of (negsuc n)) depth checked single fit =
        rw (below n 32767 (and_parts (int_le (negsuc 32767) (negsuc n)) (int_le (negsuc n) (pos 32767)) fit).0) refl
    json_back short _ depth checked single fit = absurd (false≢true fit)
    json_back ushort (ushort_of n) depth checked single fit = rw fit refl
    json_back ushort _ depth checked single fit = absurd (false≢true fit)
    json_back long (long_of (pos n)) depth checked single fit =
        rw (below n 2147483647 (and_parts (int_le (negsuc 2147483647) (pos n)) (int_le (pos n) (pos 2147483647)) fit).1) refl
    json_back long (long_of (negsuc n)) depth checked single fit =
        rw (below n 2147483647 (and_parts (int_le (negsuc 2147483647) (negsuc n)) (int_le (negsuc n) (pos 2147483647)) fit).0) refl
    json_back long _ depth checked single fit = absurd (false≢true fit)
    json_back ulong (ulong_of n) depth checked single fit = rw fit refl
    json_back ulong _ depth checked single fit = absurd (false≢true fit)
    json_back longlong (longlong_of (pos n)) depth checked single fit =
        ap (option_map (number_tree longlong)) (signed_back numbers 9223372036854775807 (omega arith) (pos n) fit)
        ∙ rw (below n 9223372036854775807 (and_parts (int_le (negsuc 9223372036854775807) (pos n)) (int_le (pos n) (pos 9223372036854775807)) fit).1) refl
    json_back longlong (longlong_of (negsuc n)) depth checked single fit =
        ap (option_map (number_tree longlong)) (signed_back numbers 9223372036854775807 (omega arith) (negsuc n) fit)
    json_back longlong _ depth checked single fit = absurd (false≢true fit)
    json_back ulonglong (ulonglong_of n) depth checked single fit =
        ap (option_map (number_tree ulonglong)) (natural_back numbers 18446744073709551615 (omega arith) (pos n) (within_64 n fit))
    json_back ulonglong _ depth checked single fit = absurd (false≢true fit)
    json_back (text bound) (text_of t) depth checked single fit = ap (option_map text_of) (text_back t
        (and_parts (are_octets t) (not (has_null t) && (nat_lt (length t + 1) (2 ^ 32) && not (passes bound (length t)))) fit).0)
    json_back (text bound) _ depth checked single fit = absurd (false≢true fit)
    json_back (octets bound) (octets_of t) depth checked single fit =
        ap (λ r. option_map octets_of (result_ok r))
        (decode_of-encode_lower t (octets_are_bytes t (and_parts (are_octets t) (is_counted bound (length t)) fit).0))
    json_back (octets bound) _ depth checked single fit = absurd (false≢true fit)
    json_back (labels names) (label_of n) depth checked single fit =
        let parts = and_parts (is_unsigned 32 n) (nat_lt n (length names)) fit in
        rw (name_back names n (no_doubles depth (labels names) checked) parts.1, parts.0) refl
    json_back (labels names) _ depth checked single fit = absurd (false≢true fit)
    json_back (members fs) (members_of ts) depth checked single fit =
        let node = no_fault (node_fault depth (members fs)) (fields_fault (depth + 1) fs) checked in
        let apart = no_doubles depth (members fs) node.0 in
        let full = faultless_full depth (members fs) checked in
        either (is_reference fs)
        (λ is. rw is (reference_back (members fs) (members_of ts) full fit))
        (λ other. rw (other, object_of fs (list_of ts) fit apart, fields_back fs (list_of ts) json.no_members (depth + 1) node.1 single apart fit)
        (ap (λ us. Some (members_of us)) (listed ts)))
    json_back (members fs) _ depth checked single fit = absurd (false≢true fit)
    json_back (choice disc bs other) (choice_of label ts) depth checked single fit =
        let node = no_fault (node_fault depth (choice disc bs other))
        (option_or (desc_fault (depth + 1) disc) (option_or (branches_fault (depth + 1) bs) (fields_fault (depth + 1) other))) checked in
        let parts = no_fault (desc_fault (depth + 1) disc) (option_or (branches_fault (depth + 1) bs) (fields_fault (depth + 1) other)) node.1 in
        let members = no_fault (branches_fault (depth + 1) bs) (fields_fault (depth + 1) other) parts.1 in
        let singles = and_parts (branches_plain bs) (is_single other && fields_plain other) single in
        let one = and_parts (is_single other) (fields_plain other) singles.1 in
        let fit_parts = and_parts (fits_label disc label) (branches_fit bs (fields_fit other) label (list_of ts)) fit in
        let l = label_back numbers disc label (apart_at (depth + 1) disc parts.0) fit_parts.0 in
        let m = branches_back bs other label (list_of ts) (depth + 1) members.0 singles.0
        (λ us h. fallback_back other us (depth + 1) members.1 one.0 one.1 h) fit_parts.1 in
        let written = branches_data numbers bs (fallback_data numbers other) label (list_of ts) in
        choice_is disc bs other (choice_data (label_data numbers disc label) written) (label_data numbers disc label) written label (list_of ts)
        (parts_back (label_data numbers disc label) written) l m ∙ ap (λ us. Some (choice_of label us)) (listed ts)
    json_back (choice disc bs other) _ depth checked single fit = absurd (false≢true fit)
    json_back (items s bound) (items_of ts) depth checked single fit =
        let node = no_fault (node_fault depth (items s bound)) (desc_fault (depth + 1) s) checked in
        let all = (and_parts (is_counted bound (length (list_of ts))) (list_all (fits s) (list_of ts)) fit).1 in
        items_back s ts (shown s) (to_data numbers s)
        (each_back (fits s) (shown s) (to_data numbers s) (λ t h. json_back s t (depth + 1) node.1 single h) (list_of ts) all) items_of
    json_back (items s bound) _ depth checked single fit = absurd (false≢true fit)
    json_back (row s n) (row_of ts) depth checked single fit =
        let node = no_fault (node_fault depth (row s n)) (desc_fault (depth + 1) s) checked in
        let all = (and_parts (length (list_of ts) == n) (list_all (fits s) (list_of ts)) fit).1 in
        items_back s ts (shown s) (to_data numbers s)
        (each_back (fits s) (shown s) (to_data numbers s) (λ t h. json_back s t (depth + 1) node.1 single h) (list_of ts) all) row_of
    json_back (row s n) _ depth checked single fit = absurd (false≢true fit)

    fields_back : (fs : Fields) (ts : List Tree) (ms : json.Members) (depth : ℕ) → fields_fault depth fs ≡ None → fields_plain fs ≡ true
        → has_doubled same_name (field_names fs) ≡ false → fields_fit fs ts ≡ true → fields_shown fs (json.object (fields_data numbers fs ts ms)) ≡ Some ts
    fields_back no_fields [] ms depth checked single apart fit = refl
    fields_back no_fields (t ∷ ts) ms depth checked single apart fit = absurd (false≢true fit)
    fields_back (field n s fs) [] ms depth checked single apart fit = absurd (false≢true fit)
    fields_back (field n s fs) (t ∷ ts) ms depth checked single apart fit =
        let faults = no_fault (desc_fault depth s) (fields_fault depth fs) checked in
        let singles = and_parts (is_plain s) (fields_plain fs) single in
        let names = or_parts (list_any (λ y. same_name y n) (field_names fs)) (has_doubled same_name (field_names fs)) apart in
        let fit_parts = and_parts (fits s t) (fields_fit fs ts) fit in
        rw (
          member_found numbers n fs ts (to_data numbers s t) ms names.0,
          json_back s t depth faults.0 singles.0 fit_parts.0,
          fields_back fs ts (json.put (utf8.text_of n) (to_data numbers s t) ms) depth faults.1 singles.1 names.1 fit_parts.1,
        ) refl

    branches_back : (bs : Branches) (other : Fields) (label : ℤ) (ts : List Tree) (depth : ℕ) → branches_fault depth bs ≡ None → branches_plain bs ≡ true
        → ((us : List Tree) → fields_fit other us ≡ true → fallback_shown other (fallback_data numbers other us) ≡ Some us)
        → branches_fit bs (fields_fit other) label ts ≡ true
        → branches_shown bs (fallback_shown other) label (branches_data numbers bs (fallback_data numbers other) label ts) ≡ Some ts
    branches_back no_branches other label ts depth checked single default fit = default ts fit
    branches_back (branch ls n s bs) other label ts depth checked single default fit =
        let faults = no_fault (desc_fault depth s) (branches_fault depth bs) checked in
        let singles = and_parts (is_plain s) (branches_plain bs) single in
        by_case (is_label label ls) (only_data (to_data numbers s) ts) (branches_data numbers bs (fallback_data numbers other) label ts)
        (λ d. one_shown (shown s d)) (branches_shown bs (fallback_shown other) label) ts (is_one (fits s) ts) (branches_fit bs (fields_fit other) label ts) fit
        (one_back (fits s) (shown s) (to_data numbers s) (λ t h. json_back s t depth faults.0 singles.0 h) ts)
        (branches_back bs other label ts depth faults.1 singles.1 default)

    fallback_back : (other : Fields) (ts : List Tree) (depth : ℕ) → fields_fault depth other ≡ None → is_single other ≡ true → fields_plain other ≡ true
        → fields_fit other ts ≡ true → fallback_shown other (fallback_data numbers other ts) ≡ Some ts
    fallback_back no_fields [] depth checked one single fit = refl
    fallback_back no_fields (t ∷ ts) depth checked one single fit = absurd (false≢true fit)
    fallback_back (field n s no_fields) [] depth checked one single fit = absurd (false≢true fit)
    fallback_back (field n s no_fields) (t ∷ []) depth checked one single fit =
        let faults = no_fault (desc_fault depth s) None checked in
        ap one_shown (json_back s t depth faults.0 (and_parts (is_plain s) true single).0 (and_parts (fits s t) true fit).0)
    fallback_back (field n s no_fields) (t ∷ u ∷ us) depth checked one single fit =
        let none = (and_parts (fits s t) false fit).1 in
        absurd cc
    fallback_back (field n s (field m r fs)) ts depth checked one single fit = absurd cc

  pub back_from_json : (s : Shape) → desc_fault 1 s ≡ None → is_plain s ≡ true → (t : Tree) → fits s t ≡ true → from_data s (to_data numbers s t) ≡ Ok t
  back_from_json s checked single t fit = rw (json_back s t 1 checked single fit, fit) refl

  -- what was written of a value by a checked description
  pub back_by_checked : (d : CheckedDesc) (t : Tree) (written : json.Data) → written ≡ to_data numbers (checked_shape d) t → fits (checked_shape d) t ≡ true
      → from_data (checked_shape d) written ≡ Ok t
  back_by_checked d t written is fit =
      ap (from_data (checked_shape d)) is ∙ back_from_json (checked_shape d) d.checked (viewed_plain d.desc) t fit

-- the answer of a call that reads it
pub given_back : (t : Tree) (result : Result Value FormFault) (answer : Result Tree FormFault) → answer ≡ Ok t → Reads value_view result answer
    → ReadsBack t result
given_back t (Ok v) answer is h = cc
given_back t (Err e) answer is h = elim h [
  | inl refused ↦ absurd cc
  | inr memory ↦ memory
]
