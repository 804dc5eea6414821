use Rattle.std.proofs.Common.{◌≡◌, ◌<◌, ◌++◌, ◌∷◌, [], map, length, string_bytes, sym, ap, ◌∙◌, arith}
use Rattle.std.proofs.lemmas.Grind.{common_steps}
use Rattle.serde_json.specs.Data.{array, object}
use Rattle.serde_json.specs.View.{view, items_of, members_view}
use Rattle.serde_json.proofs.Views.{view-Array, view-Object}
use Rattle.giop_json.specs.JsonText.{text_of}
use Rattle.giop_json.specs.ToJson.{to_data}
use Rattle.giop_types.specs.Values.Views.{desc_view, value_view}
use Rattle.giop_json.proofs.ToJsonLemmas.{members_data, reference_written, items_data, row_data, union_written, fields_put, fields_end}
use Rattle.giop_json.proofs.ToJsonLemmas.{list_goes_on, list_ends}
use Rattle.giop_json.proofs.to_json.+to_json.Goals as goal

pub to_json-returns-then-is_reference : goal.to_json-returns-then-is_reference
to_json-returns-then-is_reference t c =
    let u = c.in-Members in
    let v = c.in-Members-value in
    let is = rw c.deref.ensures.value at (sym c.is_reference.ensures ∙ c.if-is_reference.true) in
    let same = rw (u.is, v.is) at c.reference_json.ensures in
    rw (u.is, v.is, ← reference_written c.args.numbers u.members v.values is) same

pub to_json-returns-else-is_reference : goal.to_json-returns-else-is_reference
to_json-returns-else-is_reference t c =
    let u = c.in-Members in
    let v = c.in-Members-value in
    let plain = rw c.deref.ensures.value at (sym c.is_reference.ensures ∙ c.if-is_reference.false) in
    let same = rw (c.deref-else-is_reference.ensures.value, c.deref-else-is_reference-2.ensures.value) at c.members_json.ensures in
    rw (u.is, v.is, members_data c.args.numbers u.members v.values plain) same

pub to_json-returns-in-Items-value : goal.to_json-returns-in-Items-value
to_json-returns-in-Items-value t c =
    let u = c.in-Items in
    let v = c.in-Items-value in
    let same = rw (c.deref-in-Items-value.ensures.value, c.deref-in-Items-value-2.ensures) at c.items_json.ensures in
    rw (u.is, v.is, items_data c.args.numbers u.item u.field-1 v.values) same

pub to_json-returns-in-Row-value : goal.to_json-returns-in-Row-value
to_json-returns-in-Row-value t c =
    let u = c.in-Row in
    let v = c.in-Row-value in
    let same = rw (c.deref-in-Row-value.ensures.value, c.deref-in-Row-value-2.ensures) at c.items_json-in-Row-value.ensures in
    rw (u.is, v.is, row_data c.args.numbers u.item u.field-1 v.values) same

pub to_json-returns-in_ok-member_json-in-Choice-value : goal.to_json-returns-in_ok-member_json-in-Choice-value
to_json-returns-in_ok-member_json-in-Choice-value t c =
    let u = c.in-Choice in
    let v = c.in-Choice-value in
    let label = rw c.deref-in-Choice-value.ensures at c.in_ok-label_json-in-Choice-value.ensures in
    let which = rw c.deref-in-Choice-value-2.ensures.value at c.selected.ensures in
    let member = rw which at c.in_ok-member_json-in-Choice-value.ensures in
    rw (u.is, v.is, ← union_written c.args.numbers u.disc u.cases u.fallback v.label v.member _ _ label member) c.choice_json.ensures

pub members_json-loop-i-preserved : goal.members_json-loop-i-preserved
members_json-loop-i-preserved t c =
    let m = c.index-members-i.result in
    let few : c.loop-i.i < length c.args.members.now = omega (arith, c.min-i-end.ensures) in
    let many : c.loop-i.i < length c.args.values.now = omega (arith, c.min-i-end.ensures) in
    let step = fields_put c.args.numbers c.args.members.now c.args.values.now c.loop-i.i m c.index-values-i.result
    (members_view c.loop-i.object.entries) few many
    c.index-members-i.is c.index-values-i.is in
    let name : string_bytes c.in_ok-name.name ≡ text_of m.name = c.in_ok-name.ensures ∙ ap text_of c.as_slice.ensures in
    let form : view c.in_ok-value.value ≡ to_data c.args.numbers (desc_view m.desc) (value_view c.index-values-i.result) = c.in_ok-value.ensures in
    rw (c.in_ok-put.ensures, name, form) (sym step ∙ c.loop-i.invariant)

pub members_json-returns : goal.members_json-returns
members_json-returns t c = view-Object c.loop-i.object ∙ ap (λ ms. object ms)
    (sym (fields_end c.args.numbers c.args.members.now c.args.values.now c.loop-i.i
    (members_view c.loop-i.object.entries) c.min-i-end.result c.min-i-end.ensures c.loop-i-test.false) ∙ c.loop-i.invariant)

pub items_json-loop-value-preserved : goal.items_json-loop-value-preserved
items_json-loop-value-preserved t c =
    let pushed : c.push.new.self.items ≡ c.loop-value.list.items ++ c.in_ok-json.json ∷ [] = grind (arith, common_steps) in
    rw pushed (list_goes_on c.args.numbers (desc_view c.args.item.now) c.loop-value.list.items c.args.values.now c.loop-value.value-index
    c.value-item.result c.in_ok-json.json
    (map (to_data c.args.numbers (desc_view c.args.item.now))
    (map value_view c.args.values.now)) c.loop-value-test.true c.value-item.is c.in_ok-json.ensures c.loop-value.invariant)

pub items_json-returns : goal.items_json-returns
items_json-returns t c = view-Array c.loop-value.list ∙ ap (λ ds. array (items_of ds))
    (list_ends c.args.numbers (desc_view c.args.item.now) c.loop-value.list.items c.args.values.now c.loop-value.value-index
    (map (to_data c.args.numbers (desc_view c.args.item.now)) (map value_view c.args.values.now)) c.loop-value-test.false c.loop-value.invariant)
