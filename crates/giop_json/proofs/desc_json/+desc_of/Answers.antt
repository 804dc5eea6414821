use Rattle.std.proofs.Common.{◌≡◌, ◌++◌, ◌∷◌, [], map, refl, arith}
use Rattle.std.proofs.lemmas.Grind.{common_steps}
use Rattle.std.proofs.lemmas.List.{map-append}
use Rattle.std.proofs.lemmas.Result.{err_from_is_err_and}
use Rattle.serde_json.specs.View.{view, items_view}
use Rattle.giop_json.specs.DescFromJson.{desc_in, case_in, member_in}
use Rattle.giop_json.specs.FromJson.{items_shown}
use Rattle.giop_types.specs.Values.Views.{desc_view, named_view, case_view}
use Rattle.giop_types.proofs.Coding.PartLoops.{part_made, part_missing, parts_made}
use Rattle.giop_json.proofs.FromJsonLemmas.{items-each, listed, refused_along}
use Rattle.giop_types.proofs.Values.ViewLemmas.{view-Items, view-Row, view-Choice, view-Named, view-Case}
use Rattle.giop_json.proofs.desc_json.+desc_of.Goals as goal

pub members_of-loop-pair-preserved : goal.members_of-loop-pair-preserved
members_of-loop-pair-preserved t c =
    let p = member_in (desc_in c.args.levels) in
    let l = c.loop-pair in
    let pushed : c.push.new.self.items ≡ l.members.items ++ c.in_ok-member.member ∷ [] = grind (arith, common_steps) in
    rw (pushed, map-append named_view l.members.items (c.in_ok-member.member ∷ []))
    (part_made (items-each p) (map named_view l.members.items) c.in_ok-list.list.now l.pair-index
    c.pair-item.result (named_view c.in_ok-member.member) (items_shown p (items_view c.in_ok-list.list.now)) c.loop-pair-test.true c.pair-item.is
    c.in_ok-member.ensures l.invariant)

pub members_of-returns : goal.members_of-returns
members_of-returns t c =
    let p = member_in (desc_in c.args.levels) in
    let l = c.loop-pair in
    listed p (view c.args.json.now) c.in_ok-list.list.now _ c.in_ok-list.ensures (parts_made (items-each p) (map named_view l.members.items)
    c.in_ok-list.list.now l.pair-index (items_shown p (items_view c.in_ok-list.list.now)) c.loop-pair-test.false l.invariant)

pub members_of-returns-in_err-member : goal.members_of-returns-in_err-member
members_of-returns-in_err-member t c =
    let p = member_in (desc_in c.args.levels) in
    let l = c.loop-pair in
    let e = err_from_is_err_and c.from_residual-in_err-member.result c.from_residual-in_err-member.ensures.1 in
    rw (e.1, e.2) (refused_along _ _ _ (λ none. listed p (view c.args.json.now) c.in_ok-list.list.now _ c.in_ok-list.ensures
    (part_missing (items-each p) (map named_view l.members.items) c.in_ok-list.list.now l.pair-index c.pair-item.result
    (items_shown p (items_view c.in_ok-list.list.now)) c.loop-pair-test.true c.pair-item.is none l.invariant)) c.in_err-member.ensures)

pub cases_of-loop-form-preserved : goal.cases_of-loop-form-preserved
cases_of-loop-form-preserved t c =
    let p = case_in (desc_in c.args.levels) (desc_view c.args.disc.now) in
    let l = c.loop-form in
    let pushed : c.push.new.self.items ≡ l.cases.items ++ c.in_ok-case.case ∷ [] = grind (arith, common_steps) in
    rw (pushed, map-append case_view l.cases.items (c.in_ok-case.case ∷ []))
    (part_made (items-each p) (map case_view l.cases.items) c.in_ok-list.list.now l.form-index
    c.form-item.result (case_view c.in_ok-case.case) (items_shown p (items_view c.in_ok-list.list.now)) c.loop-form-test.true c.form-item.is
    c.in_ok-case.ensures l.invariant)

pub cases_of-returns : goal.cases_of-returns
cases_of-returns t c =
    let p = case_in (desc_in c.args.levels) (desc_view c.args.disc.now) in
    let l = c.loop-form in
    listed p (view c.args.json.now) c.in_ok-list.list.now _ c.in_ok-list.ensures (parts_made (items-each p) (map case_view l.cases.items)
    c.in_ok-list.list.now l.form-index (items_shown p (items_view c.in_ok-list.list.now)) c.loop-form-test.false l.invariant)

pub cases_of-returns-in_err-case : goal.cases_of-returns-in_err-case
cases_of-returns-in_err-case t c =
    let p = case_in (desc_in c.args.levels) (desc_view c.args.disc.now) in
    let l = c.loop-form in
    let e = err_from_is_err_and c.from_residual-in_err-case.result c.from_residual-in_err-case.ensures.1 in
    rw (e.1, e.2) (refused_along _ _ _ (λ none. listed p (view c.args.json.now) c.in_ok-list.list.now _ c.in_ok-list.ensures
    (part_missing (items-each p) (map case_view l.cases.items) c.in_ok-list.list.now l.form-index c.form-item.result
    (items_shown p (items_view c.in_ok-list.list.now)) c.loop-form-test.true c.form-item.is none l.invariant)) c.in_err-case.ensures)

pub sequence_of-returns : goal.sequence_of-returns
sequence_of-returns t c = rw (view-Items, c.in_ok-new.ensures.ok, c.in_ok-bound.ensures, c.in_ok-item.ensures) refl

pub array_of-returns : goal.array_of-returns
array_of-returns t c = rw (view-Row, c.in_ok-new.ensures.ok, c.in_ok-length.ensures, c.in_ok-item.ensures) refl

pub union_of-returns : goal.union_of-returns
union_of-returns t c = rw (view-Choice, c.in_ok-new.ensures.ok, c.in_ok-disc.ensures, c.in_ok-cases.ensures, c.in_ok-fallback.ensures) refl

pub member_of-returns : goal.member_of-returns
member_of-returns t c = rw (view-Named, c.in_ok-name.ensures, c.in_ok-octets_of.ensures, c.in_ok-desc_of.ensures) refl

pub case_of-returns : goal.case_of-returns
case_of-returns t c = rw (view-Case, c.in_ok-labels.ensures, c.in_ok-labels_of.ensures, c.in_ok-octets_of.ensures, c.in_ok-desc_of.ensures) refl
