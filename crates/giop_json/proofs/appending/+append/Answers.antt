use Rattle.std.proofs.Common.{◌≡◌, ◌++◌, map, string_bytes, OnOk, sym, ap, ◌∙◌, subst}
use Rattle.serde_json.specs.Data.{array}
use Rattle.serde_json.specs.View.{items_of}
use Rattle.serde_json.specs.Written.{compact_text}
use Rattle.giop_json.specs.ToJson.{to_data}
use Rattle.giop_types.specs.Values.Views.{desc_view, value_view}
use Rattle.giop_json.proofs.ToJsonLemmas.{items_data, row_data}
use Rattle.giop_json.proofs.appending.+append.Goals as goal

pub append-returns-in-Items-value : goal.append-returns-in-Items-value
append-returns-in-Items-value t c =
    let u = c.in-Items in
    let v = c.in-Items-value in
    let list = ap (λ d. array (items_of (map (to_data c.args.numbers (desc_view d)) (map value_view c.deref.result.now)))) c.deref-in-Items-value.ensures
    ∙ (ap (λ vs. array (items_of (map (to_data c.args.numbers (desc_view u.item.value)) (map value_view vs)))) c.deref.ensures.value
    ∙ sym (items_data c.args.numbers u.item u.field-1 v.values)) in
    rw (u.is, v.is) (subst (λ d. OnOk c.append_list.result (string_bytes c.append_list.new.text ≡ string_bytes c.args.text.now ++ compact_text d))
    list c.append_list.ensures)

pub append-returns-in-Row-value : goal.append-returns-in-Row-value
append-returns-in-Row-value t c =
    let u = c.in-Row in
    let v = c.in-Row-value in
    let list = ap (λ d. array (items_of (map (to_data c.args.numbers (desc_view d)) (map value_view c.deref-in-Row-value.result.now))))
    c.deref-in-Row-value-2.ensures
    ∙ (ap (λ vs. array (items_of (map (to_data c.args.numbers (desc_view u.item.value)) (map value_view vs)))) c.deref-in-Row-value.ensures.value
    ∙ sym (row_data c.args.numbers u.item u.field-1 v.values)) in
    rw (u.is, v.is) (subst (λ d. OnOk c.append_list-in-Row-value.result
    (string_bytes c.append_list-in-Row-value.new.text ≡ string_bytes c.args.text.now ++ compact_text d))
    list c.append_list-in-Row-value.ensures)
