use Rattle.std.proofs.Common.{◌≡◌, ◌++◌, ◌∷◌, [], map, length, true, false, Some, sym, ap, ◌∙◌, arith, refl, inl, to_z, of_z}
use Rattle.std.specs.Int.{w128}
use Rattle.std.proofs.lemmas.Int.{to_z-of_z}
use Rattle.giop_types.specs.Coding.Outcome.{one_or_none}
use Rattle.std.proofs.lemmas.Grind.{common_steps}
use Rattle.std.proofs.lemmas.Result.{err_from_is_err_and}
use Rattle.serde_json.specs.View.{view, items_view as json_items}
use Rattle.giop_types.specs.Coding.Decoding.{is_label}
use Rattle.giop_types.specs.Values.Tree.{items_of, row_of}
use Rattle.giop_json.specs.FromJson.{shown, fields_shown, items_shown, one_shown, is_object_of, label_shown, fallback_shown}
use Rattle.giop_types.specs.Values.Views.{desc_view, named_view, fallback_view, value_view, fields_of, trees_of}
use Rattle.giop_types.proofs.Values.FitLemmas.{items_view, row_view}
use Rattle.giop_types.proofs.Coding.MemberLoops.{one_more}
use Rattle.giop_types.proofs.Coding.PartLoops.{part_made, part_missing, parts_made}
use Rattle.giop_json.proofs.FromJsonLemmas.{members-each, items-each, field_count_is, case_shown, case_passed, no_case, items_form, row_form}
use Rattle.giop_json.proofs.FromJsonLemmas.{labels_listed}
use Rattle.giop_json.proofs.FromJsonLemmas.{refused_along, no_form, default_shown, null_shown, case_absent, choice_shows}
use Rattle.giop_json.proofs.from_json.+show.Goals as goal

pub show-returns-in_err-show_items-in-Items : goal.show-returns-in_err-show_items-in-Items
show-returns-in_err-show_items-in-Items t c =
    let u = c.in-Items in
    let p = err_from_is_err_and c.from_residual-in_err-show_items-in-Items.result c.from_residual-in_err-show_items-in-Items.ensures.1 in
    let part = rw c.deref-in-Items.ensures at c.in_err-show_items-in-Items.ensures in
    rw (p.1, p.2, u.is, items_form u.item u.field-1 (view c.args.json.now)) (refused_along _ _ _ (no_form (λ ts. items_of (trees_of ts)) _) part)

pub show-returns-in_err-show_items-in-Row : goal.show-returns-in_err-show_items-in-Row
show-returns-in_err-show_items-in-Row t c =
    let u = c.in-Row in
    let p = err_from_is_err_and c.from_residual-in_err-show_items-in-Row.result c.from_residual-in_err-show_items-in-Row.ensures.1 in
    let part = rw c.deref-in-Row.ensures at c.in_err-show_items-in-Row.ensures in
    rw (p.1, p.2, u.is, row_form u.item u.field-1 (view c.args.json.now)) (refused_along _ _ _ (no_form (λ ts. row_of (trees_of ts)) _) part)

pub show-returns-in_ok-show_items-in-Items : goal.show-returns-in_ok-show_items-in-Items
show-returns-in_ok-show_items-in-Items t c =
    let u = c.in-Items in
    let part = rw c.deref-in-Items.ensures at c.in_ok-show_items-in-Items.ensures in
    rw (u.is, items_form u.item u.field-1 (view c.args.json.now), part) (ap (λ x. Some x) (sym (items_view c.in_ok-show_items-in-Items.field-0)))

pub show-returns-in_ok-show_items-in-Row : goal.show-returns-in_ok-show_items-in-Row
show-returns-in_ok-show_items-in-Row t c =
    let u = c.in-Row in
    let part = rw c.deref-in-Row.ensures at c.in_ok-show_items-in-Row.ensures in
    rw (u.is, row_form u.item u.field-1 (view c.args.json.now), part) (ap (λ x. Some x) (sym (row_view c.in_ok-show_items-in-Row.field-0)))

pub show-returns-in_ok-show_fallback-in-None : goal.show-returns-in_ok-show_fallback-in-None
show-returns-in_ok-show_fallback-in-None t c =
    let u = c.in-Choice in
    let label = c.in_ok-label-in-Choice-2.label in
    let same : to_z w128 (of_z w128 label) ≡ label = grind (arith, to_z-of_z) in
    let named : label_shown (desc_view u.disc.value) (view c.in_ok-label-in-Choice.label.now)
    ≡ Some label = rw c.deref-in-Choice.ensures at c.in_ok-label-in-Choice-2.ensures in
    let passed = rw (same, c.deref-in-Choice-2.ensures.value) at (case_absent c.in_ok-value-in-Choice.field-0 _ _ c.in-None.is
    (c.in_ok-value-in-Choice.ensures (fallback_shown (fallback_view u.fallback)))) in
    let made = rw same at c.chosen-in-None.ensures.ok in
    rw u.is (choice_shows u.disc u.cases u.fallback (view c.args.json.now) (view c.in_ok-label-in-Choice.label.now) (view c.in_ok-label-in-Choice.member.now)
    label (one_or_none c.in_ok-show_fallback-in-None.field-0) c.chosen-in-None.result c.in_ok-label-in-Choice.ensures named
    (passed ∙ c.in_ok-show_fallback-in-None.ensures) made c.chosen-in-None.ensures.err)

pub show_case-returns : goal.show_case-returns
show_case-returns t c other =
    sym (c.loop-case.invariant other) ∙ no_case c.args.cases.now c.loop-case.case-index c.args.label.now other (view c.args.json.now) c.loop-case-test.false

pub show_case-loop-case-preserved : goal.show_case-loop-case-preserved
show_case-loop-case-preserved t c other =
    let test : c.has_label.result ≡ is_label c.args.label.now c.case-item.result.labels.items = rw c.deref.ensures.value at c.has_label.ensures in
    sym (case_passed c.args.cases.now c.loop-case.case-index c.case-item.result c.args.label.now other
    (view c.args.json.now) c.loop-case-test.true c.case-item.is
    (sym test ∙ c.if-has_label.false)) ∙ c.loop-case.invariant other

pub show_case-returns-then-has_label : goal.show_case-returns-then-has_label
show_case-returns-then-has_label t c other =
    let test : c.has_label.result ≡ is_label c.args.label.now c.case-item.result.labels.items = rw c.deref.ensures.value at c.has_label.ensures in
    let found =
    case_shown c.args.cases.now c.loop-case.case-index c.case-item.result c.args.label.now other (view c.args.json.now) c.loop-case-test.true c.case-item.is
    (sym test ∙ c.if-has_label.true) in
    sym (c.loop-case.invariant other) ∙ found ∙ ap one_shown c.in_ok-value.ensures

pub show_case-returns-in_err-value : goal.show_case-returns-in_err-value
show_case-returns-in_err-value t c other =
    let test : c.has_label.result ≡ is_label c.args.label.now c.case-item.result.labels.items = rw c.deref.ensures.value at c.has_label.ensures in
    let found =
    case_shown c.args.cases.now c.loop-case.case-index c.case-item.result c.args.label.now other (view c.args.json.now) c.loop-case-test.true c.case-item.is
    (sym test ∙ c.if-has_label.true) in
    let p = err_from_is_err_and c.from_residual.result c.from_residual.ensures.1 in
    rw (p.1, p.2) (refused_along _ _ _ (λ none. sym (c.loop-case.invariant other) ∙ found ∙ ap one_shown none) c.in_err-value.ensures)

pub show_fallback-returns-in_err-show-in-Some : goal.show_fallback-returns-in_err-show-in-Some
show_fallback-returns-in_err-show-in-Some t c =
    let p = err_from_is_err_and c.from_residual.result c.from_residual.ensures.1 in
    let part = rw c.deref.ensures at c.in_err-show-in-Some.ensures in
    rw (p.1, p.2, c.in-Some.is, default_shown c.in-Some.member.value (view c.args.json.now)) (refused_along _ _ _ (ap one_shown) part)

pub show_fallback-returns-in_ok-show-in-Some : goal.show_fallback-returns-in_ok-show-in-Some
show_fallback-returns-in_ok-show-in-Some t c =
    let part = rw c.deref.ensures at c.in_ok-show-in-Some.ensures in
    rw (c.in-Some.is, default_shown c.in-Some.member.value (view c.args.json.now), part) refl

pub show_fallback-returns-in-Some-as_null : goal.show_fallback-returns-in-Some-as_null
show_fallback-returns-in-Some-as_null t c = rw c.in-None.is (null_shown (view c.args.json.now) true c.in-Some-as_null.ensures)

pub show_fallback-returns-in-None-as_null : goal.show_fallback-returns-in-None-as_null
show_fallback-returns-in-None-as_null t c = rw c.in-None.is (inl (refl, null_shown (view c.args.json.now) false c.in-None-as_null.ensures))

pub show_fields-returns-in_err-value : goal.show_fields-returns-in_err-value
show_fields-returns-in_err-value t c =
    let p = err_from_is_err_and c.from_residual-in_err-value.result c.from_residual-in_err-value.ensures.1 in
    rw (p.1, p.2) (refused_along _ _ _
    (λ none. part_missing (members-each (view c.args.json.now)) (map value_view c.loop-member.values.items) c.args.members.now
    c.loop-member.member-index c.member-item.result (fields_shown (fields_of (map named_view c.args.members.now)) (view c.args.json.now))
    c.loop-member-test.true c.member-item.is none c.loop-member.invariant) c.in_err-value.ensures)

pub show_fields-loop-member-preserved : goal.show_fields-loop-member-preserved
show_fields-loop-member-preserved t c =
    let pushed : c.push.new.self.items ≡ c.loop-member.values.items ++ c.in_ok-value.value ∷ [] = grind (arith, common_steps) in
    rw (pushed, one_more c.loop-member.values.items c.in_ok-value.value)
    (part_made (members-each (view c.args.json.now)) (map value_view c.loop-member.values.items)
    c.args.members.now c.loop-member.member-index c.member-item.result (value_view c.in_ok-value.value)
    (fields_shown (fields_of (map named_view c.args.members.now))
    (view c.args.json.now)) c.loop-member-test.true c.member-item.is c.in_ok-value.ensures c.loop-member.invariant)

pub show_fields-returns : goal.show_fields-returns
show_fields-returns t c =
    parts_made (members-each (view c.args.json.now)) (map value_view c.loop-member.values.items) c.args.members.now c.loop-member.member-index
    (fields_shown (fields_of (map named_view c.args.members.now)) (view c.args.json.now)) c.loop-member-test.false c.loop-member.invariant

pub show_members-returns-then-is_object_of : goal.show_members-returns-then-is_object_of
show_members-returns-then-is_object_of t c =
    let test : is_object_of (length c.args.members.now) (view c.args.json.now) ≡ true = sym c.is_object_of.ensures ∙ c.if-is_object_of.true in
    rw (field_count_is c.args.members.now, test) c.show_fields.ensures

pub show_members-returns-else-is_object_of : goal.show_members-returns-else-is_object_of
show_members-returns-else-is_object_of t c =
    let test : is_object_of (length c.args.members.now) (view c.args.json.now) ≡ false = sym c.is_object_of.ensures ∙ c.if-is_object_of.false in
    rw (field_count_is c.args.members.now, test) (inl (refl, refl))

pub show_items-returns-in-Labels : goal.show_items-returns-in-Labels
show_items-returns-in-Labels t c =
    let form = labels_listed c.in-Labels.names (view c.args.json.now) (json_items c.in-Some.list.now.items) c.in-Some.ensures in
    let made = rw (c.deref-in-Labels.ensures.value, c.deref-in-Labels-2.ensures.value) at c.named_values.ensures in
    rw (c.in-Labels.is, form) made

pub show_each-loop-json-preserved : goal.show_each-loop-json-preserved
show_each-loop-json-preserved t c =
    let p = shown (desc_view c.args.item.now) in
    let l = c.loop-json in
    let pushed : c.push.new.self.items ≡ l.values.items ++ c.in_ok-value.value ∷ [] = grind (arith, common_steps) in
    rw (pushed, one_more l.values.items c.in_ok-value.value) (part_made (items-each p) (map value_view l.values.items) c.args.list.now l.json-index
    c.json-item.result (value_view c.in_ok-value.value) (items_shown p (json_items c.args.list.now)) c.loop-json-test.true c.json-item.is
    c.in_ok-value.ensures l.invariant)

pub show_each-returns : goal.show_each-returns
show_each-returns t c =
    let p = shown (desc_view c.args.item.now) in
    let l = c.loop-json in
    parts_made (items-each p) (map value_view l.values.items) c.args.list.now l.json-index (items_shown p (json_items c.args.list.now))
    c.loop-json-test.false l.invariant

pub show_each-returns-in_err-value : goal.show_each-returns-in_err-value
show_each-returns-in_err-value t c =
    let p = shown (desc_view c.args.item.now) in
    let l = c.loop-json in
    let e = err_from_is_err_and c.from_residual-in_err-value.result c.from_residual-in_err-value.ensures.1 in
    rw (e.1, e.2) (refused_along _ _ _ (λ none. part_missing (items-each p) (map value_view l.values.items) c.args.list.now l.json-index c.json-item.result
    (items_shown p (json_items c.args.list.now)) c.loop-json-test.true c.json-item.is none l.invariant) c.in_err-value.ensures)
