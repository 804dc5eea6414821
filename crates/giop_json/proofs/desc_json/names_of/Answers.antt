use Rattle.std.proofs.Common.{◌≡◌, ◌++◌, ◌∷◌, [], arith}
use Rattle.std.proofs.lemmas.Grind.{common_steps}
use Rattle.std.proofs.lemmas.Result.{err_from_is_err_and}
use Rattle.serde_json.specs.View.{view, items_view}
use Rattle.giop_json.specs.FromJson.{items_shown, octets_shown}
use Rattle.giop_types.proofs.Coding.PartLoops.{part_made, part_missing, parts_made}
use Rattle.giop_json.proofs.FromJsonLemmas.{items-each, listed, refused_along}
use Rattle.giop_json.proofs.desc_json.names_of.Goals as goal

pub loop-name-preserved : goal.loop-name-preserved
loop-name-preserved c =
    let p = octets_shown in
    let l = c.loop-name in
    let pushed : c.push.new.self.items ≡ l.names.items ++ c.in_ok-octets.octets ∷ [] = grind (arith, common_steps) in
    rw pushed (part_made (items-each p) l.names.items c.in_ok-list.list.now l.name-index c.name-item.result c.in_ok-octets.octets
    (items_shown p (items_view c.in_ok-list.list.now)) c.loop-name-test.true c.name-item.is c.in_ok-octets.ensures l.invariant)

pub returns : goal.returns
returns c =
    let p = octets_shown in
    let l = c.loop-name in
    listed p (view c.args.json.now) c.in_ok-list.list.now _ c.in_ok-list.ensures (parts_made (items-each p) l.names.items c.in_ok-list.list.now l.name-index
    (items_shown p (items_view c.in_ok-list.list.now)) c.loop-name-test.false l.invariant)

pub returns-in_err-octets : goal.returns-in_err-octets
returns-in_err-octets c =
    let p = octets_shown in
    let l = c.loop-name in
    let e = err_from_is_err_and c.from_residual-in_err-octets.result c.from_residual-in_err-octets.ensures.1 in
    rw (e.1, e.2) (refused_along _ _ _ (λ none. listed p (view c.args.json.now) c.in_ok-list.list.now _ c.in_ok-list.ensures
    (part_missing (items-each p) l.names.items c.in_ok-list.list.now l.name-index c.name-item.result
    (items_shown p (items_view c.in_ok-list.list.now)) c.loop-name-test.true c.name-item.is none l.invariant)) c.in_err-octets.ensures)
