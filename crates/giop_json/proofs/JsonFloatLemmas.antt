-- The JSON value that a value is written as has no number with a fraction or an exponent: its text is
-- known digit for digit.
use Rattle.std.proofs.Common.{◌≡◌, ℕ, ℤ, pos, negsuc, Bool, true, false, ◌||◌, if◌then◌else◌, List, [], ◌∷◌, map, Ordering, Less, Equal, Greater, nat_cmp, Option, Some, None, option_map, unwrap_or, codes, refl}
use Rattle.std.proofs.lemmas.Bool.{or_parts}
use Rattle.std.specs.Cmp.Lexicographic.{slice_cmp}
use Rattle.std.specs.Fmt.{signed_decimal}
use Rattle.std.specs.Ordering.{match_ordering}
use Rattle.serde_json.specs.Data.{Data, Members, no_members, member, put, null, object, string}
use Rattle.serde_json.specs.View.{items_of}
use Rattle.serde_json.specs.Written.{has_float, items_have_float, members_have_float}
use Rattle.giop_types.specs.Descriptions.Shape.{Shape, boolean, octet, char, short, ushort, long, ulong, longlong, ulonglong, text, octets, labels, members, choice, items, row, Fields, no_fields, field, Branches, no_branches, branch}
use Rattle.giop_types.specs.Values.Tree.{Tree, boolean_of, octet_of, char_of, short_of, ushort_of, long_of, ulong_of, longlong_of, ulonglong_of, text_of, octets_of, label_of, members_of, choice_of, items_of as items_tree, row_of}
use Rattle.giop_types.specs.Coding.Decoding.{is_label}
use Rattle.giop_types.specs.Values.Fits.{fits, list_of}
use Rattle.giop_json.specs.JsonText.{text_of as utf8_of}
use Rattle.giop_ior_text.specs.IorText.{text_written}
use Rattle.giop_types.specs.Coding.Written.{value_out}
use Rattle.giop_json.specs.Reference.{is_reference, reference_data}
use Rattle.giop_json.specs.ToJson.{to_data, fields_data, branches_data, fallback_data, label_data, only_data, choice_data, name_data, ordinal_data, by_natural, char_data, whole_data, is_safe, number_data, integer_data, text_data}
use Rattle.giop_json.specs.declared.number_form.NumberForm.{NumberForm}
use Rattle.giop_json.specs.declared.number_form.NumberForm.TheVariants.{Plain, Quoted}

-- a JSON value without floats
abbrev IsWhole : Data → Type 0
IsWhole d = has_float d ≡ false

neither : (p q : Bool) → p ≡ false → q ≡ false → (p || q) ≡ false
neither false q one two = two
neither true q one two = absurd cc

put_at : (o : Ordering) (k l : List ℕ) (d e : Data) (ms : Members) → IsWhole d → IsWhole e → members_have_float ms ≡ false
    → members_have_float (put k d ms) ≡ false
    → members_have_float (match_ordering o (member k d (member l e ms)) (member l d ms) (member l e (put k d ms))) ≡ false
put_at Less k l d e ms one two all more = neither (has_float d) _ one (neither (has_float e) _ two all)
put_at Equal k l d e ms one two all more = neither (has_float d) _ one all
put_at Greater k l d e ms one two all more = neither (has_float e) _ two more

put_whole : (k : List ℕ) (d : Data) (ms : Members) → IsWhole d → members_have_float ms ≡ false → members_have_float (put k d ms) ≡ false
put_whole k d no_members one all = neither (has_float d) false one refl
put_whole k d (member l e ms) one all =
    let parts = or_parts (has_float e) (members_have_float ms) all in
    put_at (slice_cmp nat_cmp k l) k l d e ms one parts.0 parts.1 (put_whole k d ms one parts.1)

each_whole : (f : Tree → Data) → ((t : Tree) → IsWhole (f t)) → (ts : List Tree) → items_have_float (items_of (map f ts)) ≡ false
each_whole f all [] = refl
each_whole f all (t ∷ ts) = neither (has_float (f t)) _ (all t) (each_whole f all ts)

only_whole : (f : Tree → Data) → ((t : Tree) → IsWhole (f t)) → (ts : List Tree) → IsWhole (only_data f ts)
only_whole f all [] = refl
only_whole f all (t ∷ ts) = all t

chosen_whole : (b : Bool) (d e : Data) → IsWhole d → IsWhole e → IsWhole (if b then d else e)
chosen_whole true d e one two = one
chosen_whole false d e one two = two

integer_whole : (z : ℤ) → IsWhole (integer_data z)
integer_whole (pos n) = refl
integer_whole (negsuc n) = refl

text_or_null : (o : Option (List ℕ)) → IsWhole (unwrap_or (option_map text_data o) null)
text_or_null (Some t) = refl
text_or_null None = refl

name_whole : (names : List (List ℕ)) (n : ℕ) → IsWhole (name_data names n)
name_whole names n = text_or_null _

ordinal_whole : (names : List (List ℕ)) (n : ℕ) → IsWhole (ordinal_data names n)
ordinal_whole names n = chosen_whole _ (name_data names n) null (name_whole names n) refl

natural_whole : (f : ℕ → Data) → ((n : ℕ) → IsWhole (f n)) → (z : ℤ) → IsWhole (by_natural f z)
natural_whole f all (pos n) = all n
natural_whole f all (negsuc n) = refl

number_whole : (numbers : NumberForm) (z : ℤ) → IsWhole (number_data numbers z)
number_whole Plain z = integer_whole z
number_whole Quoted z = chosen_whole (is_safe z) (integer_data z) (string (signed_decimal z)) (integer_whole z) refl

-- the form of numbers
module _ (numbers : NumberForm) where
  wide_whole : (z : ℤ) → IsWhole (whole_data numbers z)
  wide_whole z = chosen_whole _ (number_data numbers z) null (number_whole numbers z) refl

  label_whole : (s : Shape) (z : ℤ) → IsWhole (label_data numbers s z)
  label_whole boolean z = refl
  label_whole char z = natural_whole char_data (λ n. chosen_whole _ (text_data (n ∷ [])) null refl refl) z
  label_whole (labels names) z = natural_whole (ordinal_data names) (ordinal_whole names) z
  label_whole _ z = wide_whole z

  choice_whole : (d e : Data) → IsWhole d → IsWhole e → IsWhole (choice_data d e)
  choice_whole d e one two =
      put_whole (codes "value") e (put (codes "disc") d no_members) two (put_whole (codes "disc") d no_members one refl)

  reference_whole : (s : Shape) (t : Tree) → IsWhole (reference_data s t)
  reference_whole s t = chosen_whole (fits s t) (string (text_written (value_out s) t)) null refl refl

  mutual
    unfolding to_data

    pub data_whole : (s : Shape) (t : Tree) → IsWhole (to_data numbers s t)
    data_whole boolean (boolean_of b) = refl
    data_whole octet (octet_of n) = refl
    data_whole char (char_of n) = refl
    data_whole ushort (ushort_of n) = refl
    data_whole ulong (ulong_of n) = refl
    data_whole ulonglong (ulonglong_of n) = wide_whole (pos n)
    data_whole (text bound) (text_of t) = refl
    data_whole (octets bound) (octets_of t) = refl
    data_whole short (short_of z) = integer_whole z
    data_whole long (long_of z) = integer_whole z
    data_whole longlong (longlong_of z) = wide_whole z
    data_whole (labels names) (label_of n) = name_whole names n
    data_whole (members fs) (members_of ts) =
        chosen_whole (is_reference fs) (reference_data (members fs) (members_of ts)) (object (fields_data numbers fs (list_of ts) no_members))
        (reference_whole (members fs) (members_of ts)) (fields_whole fs (list_of ts) no_members refl)
    data_whole (choice disc bs other) (choice_of label ts) =
        choice_whole (label_data numbers disc label) (branches_data numbers bs (fallback_data numbers other) label (list_of ts)) (label_whole disc label)
        (branches_whole bs (fallback_data numbers other) (fallback_whole other) label (list_of ts))
    data_whole (items s bound) (items_tree ts) = each_whole (to_data numbers s) (data_whole s) (list_of ts)
    data_whole (row s n) (row_of ts) = each_whole (to_data numbers s) (data_whole s) (list_of ts)
    data_whole _ _ = refl

    fields_whole : (fs : Fields) (ts : List Tree) (ms : Members) → members_have_float ms ≡ false → members_have_float (fields_data numbers fs ts ms) ≡ false
    fields_whole no_fields ts ms all = all
    fields_whole (field name s fs) [] ms all = all
    fields_whole (field name s fs) (t ∷ ts) ms all =
        fields_whole fs ts (put (utf8_of name) (to_data numbers s t) ms) (put_whole (utf8_of name) (to_data numbers s t) ms (data_whole s t) all)

    branches_whole : (bs : Branches) (other : List Tree → Data) → ((ts : List Tree) → IsWhole (other ts)) → (label : ℤ) (ts : List Tree)
        → IsWhole (branches_data numbers bs other label ts)
    branches_whole no_branches other all label ts = all ts
    branches_whole (branch ls name s bs) other all label ts =
        chosen_whole (is_label label ls) (only_data (to_data numbers s) ts) (branches_data numbers bs other label ts)
        (only_whole (to_data numbers s) (data_whole s) ts)
        (branches_whole bs other all label ts)

    fallback_whole : (other : Fields) (ts : List Tree) → IsWhole (fallback_data numbers other ts)
    fallback_whole no_fields ts = refl
    fallback_whole (field name s fs) ts = only_whole (to_data numbers s) (data_whole s) ts
