use Rattle.std.proofs.Common.{◌≡◌, map, sym, ap, ◌∙◌, Option, Some, option_map}
use Rattle.std.proofs.lemmas.Result.{err_from_is_err_and}
use Rattle.serde_json.specs.Data.{Data}
use Rattle.giop_types.specs.Values.Tree.{Tree}
use Rattle.serde_json.specs.View.{view, items_view as json_items}
use Rattle.giop_json.specs.FromJson.{ordinal_shown, ordinal_tree, items_shown}
use Rattle.giop_types.specs.Values.Views.{value_view}
use Rattle.giop_types.proofs.Coding.MemberLoops.{one_more}
use Rattle.giop_types.proofs.Coding.PartLoops.{part_made, part_missing, parts_made}
use Rattle.giop_json.proofs.FromJsonLemmas.{items-each, refused_along, no_form}
use Rattle.giop_json.proofs.ordinals.named_values.Goals as goal

pub loop-json-preserved : goal.loop-json-preserved
loop-json-preserved c =
    let p : Data → Option Tree = λ d. option_map ordinal_tree (ordinal_shown c.args.names.now d) in
    let l = c.loop-json in
    let named : ordinal_shown c.args.names.now (view c.json-item.result) ≡ Some c.in_ok-ordinal.ordinal
    = rw (sym c.in_ok-ordinals.ensures.ok) c.in_ok-ordinal.ensures in
    let made : p (view c.json-item.result) ≡ Some (value_view c.ordinal_value.result)
    = ap (option_map ordinal_tree) named ∙ ap (λ t. Some t) (sym c.ordinal_value.ensures) in
    rw (c.in_ok-push.ensures.items, one_more l.values.items c.ordinal_value.result) (part_made (items-each p) (map value_view l.values.items)
    c.args.list.now l.json-index c.json-item.result (value_view c.ordinal_value.result) (items_shown p (json_items c.args.list.now)) c.loop-json-test.true
    c.json-item.is made l.invariant)

pub returns : goal.returns
returns c =
    let p : Data → Option Tree = λ d. option_map ordinal_tree (ordinal_shown c.args.names.now d) in
    let l = c.loop-json in
    parts_made (items-each p) (map value_view l.values.items) c.args.list.now l.json-index (items_shown p (json_items c.args.list.now))
    c.loop-json-test.false l.invariant

pub returns-in_err-ordinal : goal.returns-in_err-ordinal
returns-in_err-ordinal c =
    let p : Data → Option Tree = λ d. option_map ordinal_tree (ordinal_shown c.args.names.now d) in
    let l = c.loop-json in
    let e = err_from_is_err_and c.from_residual-in_err-ordinal.result c.from_residual-in_err-ordinal.ensures.1 in
    let part = rw c.in_ok-ordinals.ensures.ok at c.in_err-ordinal.ensures in
    rw (e.1, e.2) (refused_along _ _ _ (λ none. part_missing (items-each p) (map value_view l.values.items) c.args.list.now l.json-index c.json-item.result
    (items_shown p (json_items c.args.list.now)) c.loop-json-test.true c.json-item.is (no_form ordinal_tree _ none) l.invariant) part)
