-- Objects that members are put into: what stands under each name, and how many there are.
use Rattle.std.proofs.Common.{◌≡◌, ℕ, suc, ◌+◌, true, false, Ordering, Less, Equal, Greater, nat_cmp}
use Rattle.std.proofs.Common.{List, [], ◌∷◌, Some, None, refl, sym, ap, ◌∙◌, arith}
use Rattle.std.proofs.lemmas.Bool.{or_parts, both_ways}
use Rattle.std.proofs.lemmas.Str.{encodes_same}
use Rattle.std.specs.Cmp.Lexicographic.{slice_cmp, bytes_decides}
use Rattle.std.specs.List.{list_any}
use Rattle.std.specs.Ordering.{match_ordering}
use Rattle.serde_json.specs.Data.{Data, Members, no_members, member, put}
use Rattle.serde_json.specs.Events.{members_len}
use Rattle.serde_json.specs.Find.{get_member}
use Rattle.serde_json.proofs.Views.{get_member-put, get_member-put_other}
use Rattle.giop_types.specs.Descriptions.Shape.{Fields, no_fields, field}
use Rattle.giop_types.specs.Values.Tree.{Tree}
use Rattle.giop_types.specs.Descriptions.Checked.{same_name, has_doubled, field_names}
use Rattle.giop_types.specs.Values.Fits.{fields_fit, fits}
use Rattle.giop_json.specs.JsonText.{text_of}
use Rattle.giop_json.specs.ToJson.{to_data, fields_data}
use Rattle.giop_json.specs.FromJson.{field_count}
use Rattle.giop_types.proofs.Coding.Takes.{and_parts}
use Rattle.giop_json.specs.declared.number_form.NumberForm.{NumberForm}

put_count_at : (o : Ordering) (k l : List ℕ) (d e : Data) (ms : Members) → match_ordering o (get_member k ms) (Some e) (get_member k ms) ≡ None
    → (get_member k ms ≡ None → members_len (put k d ms) ≡ suc (members_len ms))
    → members_len (match_ordering o (member k d (member l e ms)) (member l d ms) (member l e (put k d ms))) ≡ suc (suc (members_len ms))
put_count_at Less k l d e ms absent more = refl
put_count_at Equal k l d e ms absent more = absurd cc
put_count_at Greater k l d e ms absent more = ap suc (more absent)

-- a new name makes one member more
put_count : (k : List ℕ) (d : Data) (ms : Members) → get_member k ms ≡ None → members_len (put k d ms) ≡ suc (members_len ms)
put_count k d no_members absent = refl
put_count k d (member l e ms) absent = put_count_at (slice_cmp nat_cmp k l) k l d e ms absent (put_count k d ms)

differ : (n q : List ℕ) → same_name n q ≡ false → text_of q ≡ text_of n → ⊥
differ n q apart same = both_ways (same_name n q) apart ((bytes_decides n q).1 (sym (encodes_same q n same)))

module _ (numbers : NumberForm) where
  -- what stands under a name that no member has stays
  pub others_stay : (q : List ℕ) (fs : Fields) (ts : List Tree) (ms : Members) → list_any (λ y. same_name y q) (field_names fs) ≡ false
      → get_member (text_of q) (fields_data numbers fs ts ms) ≡ get_member (text_of q) ms
  unfolding to_data
  others_stay q no_fields ts ms apart = refl
  others_stay q (field n s fs) [] ms apart = refl
  others_stay q (field n s fs) (t ∷ ts) ms apart =
      let parts = or_parts (same_name n q) (list_any (λ y. same_name y q) (field_names fs)) apart in
      others_stay q fs ts (put (text_of n) (to_data numbers s t) ms) parts.1
      ∙ get_member-put_other (text_of q) (text_of n) (to_data numbers s t) ms (differ n q parts.0)

  -- what was put under a name is found there
  pub member_found : (n : List ℕ) (fs : Fields) (ts : List Tree) (d : Data) (ms : Members) → list_any (λ y. same_name y n) (field_names fs) ≡ false
      → get_member (text_of n) (fields_data numbers fs ts (put (text_of n) d ms)) ≡ Some d
  member_found n fs ts d ms apart = others_stay n fs ts (put (text_of n) d ms) apart ∙ get_member-put (text_of n) d ms

-- no member's name stands in an object
abbrev pub AreNew : Fields → Members → Type 0
AreNew no_fields ms = Unit {0}
AreNew (field n s fs) ms = (get_member (text_of n) ms ≡ None) × AreNew fs ms

pub all_new : (fs : Fields) → AreNew fs no_members
all_new no_fields = tt
all_new (field n s fs) = (refl, all_new fs)

still_new : (q : List ℕ) (d : Data) (fs : Fields) (ms : Members) → list_any (λ y. same_name y q) (field_names fs) ≡ false → AreNew fs ms
    → AreNew fs (put (text_of q) d ms)
still_new q d no_fields ms apart new = tt
still_new q d (field n s fs) ms apart new =
    let parts = or_parts (same_name n q) (list_any (λ y. same_name y q) (field_names fs)) apart in
    (get_member-put_other (text_of n) (text_of q) d ms (λ e. differ n q parts.0 (sym e)) ∙ new.0, still_new q d fs ms parts.1 new.1)

module _ (numbers : NumberForm) where
  -- as many members as a struct has
  pub fields_counted : (fs : Fields) (ts : List Tree) (ms : Members) → fields_fit fs ts ≡ true → has_doubled same_name (field_names fs) ≡ false → AreNew fs ms
      → members_len (fields_data numbers fs ts ms) ≡ field_count fs + members_len ms
  unfolding to_data fits
  fields_counted no_fields [] ms fit apart new = omega arith
  fields_counted no_fields (t ∷ ts) ms fit apart new = absurd cc
  fields_counted (field n s fs) [] ms fit apart new = absurd cc
  fields_counted (field n s fs) (t ∷ ts) ms fit apart new =
      let parts = or_parts (list_any (λ y. same_name y n) (field_names fs)) (has_doubled same_name (field_names fs)) apart in
      let rest = fields_counted fs ts (put (text_of n) (to_data numbers s t) ms) (and_parts (fits s t) (fields_fit fs ts) fit).1 parts.1
      (still_new n (to_data numbers s t) fs ms parts.0 new.1) in
      let one = put_count (text_of n) (to_data numbers s t) ms new.0 in
      omega arith
