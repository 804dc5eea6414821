use Rattle.std.proofs.Common.{◌≡◌, ◌++◌, ◌∷◌, [], arith}
use Rattle.std.proofs.lemmas.Grind.{common_steps}
use Rattle.std.proofs.lemmas.Result.{err_from_is_err_and}
use Rattle.serde_json.specs.View.{view, items_view}
use Rattle.giop_json.specs.FromJson.{items_shown, label_shown}
use Rattle.giop_types.specs.Values.Views.{desc_view}
use Rattle.giop_types.proofs.Coding.PartLoops.{part_made, part_missing, parts_made}
use Rattle.giop_json.proofs.FromJsonLemmas.{items-each, listed, refused_along}
use Rattle.giop_json.proofs.desc_json.labels_of.Goals as goal

pub loop-label-preserved : goal.loop-label-preserved
loop-label-preserved c =
    let p = label_shown (desc_view c.args.disc.now) in
    let l = c.loop-label in
    let pushed : c.push.new.self.items ≡ l.labels.items ++ c.in_ok-number.number ∷ [] = grind (arith, common_steps) in
    rw pushed (part_made (items-each p) l.labels.items c.in_ok-list.list.now l.label-index c.label-item.result c.in_ok-number.number
    (items_shown p (items_view c.in_ok-list.list.now)) c.loop-label-test.true c.label-item.is c.in_ok-number.ensures l.invariant)

pub returns : goal.returns
returns c =
    let p = label_shown (desc_view c.args.disc.now) in
    let l = c.loop-label in
    listed p (view c.args.json.now) c.in_ok-list.list.now _ c.in_ok-list.ensures (parts_made (items-each p) l.labels.items c.in_ok-list.list.now l.label-index
    (items_shown p (items_view c.in_ok-list.list.now)) c.loop-label-test.false l.invariant)

pub returns-in_err-number : goal.returns-in_err-number
returns-in_err-number c =
    let p = label_shown (desc_view c.args.disc.now) in
    let l = c.loop-label in
    let e = err_from_is_err_and c.from_residual-in_err-number.result c.from_residual-in_err-number.ensures.1 in
    rw (e.1, e.2) (refused_along _ _ _ (λ none. listed p (view c.args.json.now) c.in_ok-list.list.now _ c.in_ok-list.ensures
    (part_missing (items-each p) l.labels.items c.in_ok-list.list.now l.label-index c.label-item.result
    (items_shown p (items_view c.in_ok-list.list.now)) c.loop-label-test.true c.label-item.is none l.invariant)) c.in_err-number.ensures)
