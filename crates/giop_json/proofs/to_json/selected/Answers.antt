use Rattle.std.proofs.Common.{◌≡◌, sym, ◌∙◌}
use Rattle.giop_types.specs.Coding.Decoding.{is_label}
use Rattle.giop_types.specs.Values.Views.{fallback_view}
use Rattle.giop_json.proofs.ToJsonLemmas.{case_selected, case_passed, by_default, none_selected}
use Rattle.giop_json.proofs.to_json.selected.Goals as goal

pub returns-then-has_label : goal.returns-then-has_label
returns-then-has_label c =
    let test : c.has_label.result ≡ is_label c.args.label.now c.case-item.result.labels.items = rw c.deref.ensures.value at c.has_label.ensures in
    sym (case_selected c.args.cases.now c.loop-case.case-index c.case-item.result
    (fallback_view c.args.fallback.now) c.args.label.now c.loop-case-test.true c.case-item.is
    (sym test ∙ c.if-has_label.true)) ∙ c.loop-case.invariant

pub loop-case-preserved : goal.loop-case-preserved
loop-case-preserved c =
    let test : c.has_label.result ≡ is_label c.args.label.now c.case-item.result.labels.items = rw c.deref.ensures.value at c.has_label.ensures in
    sym (case_passed c.args.cases.now c.loop-case.case-index c.case-item.result
    (fallback_view c.args.fallback.now) c.args.label.now c.loop-case-test.true c.case-item.is
    (sym test ∙ c.if-has_label.false)) ∙ c.loop-case.invariant

pub returns-in-Some : goal.returns-in-Some
returns-in-Some c =
    let so_far = rw c.in-Some.is at c.loop-case.invariant in
    rw (c.deref-in-Some.ensures, c.in-Some.is)
    (sym (by_default c.args.cases.now c.loop-case.case-index c.in-Some.named c.args.label.now c.loop-case-test.false) ∙ so_far)

pub returns-in-None : goal.returns-in-None
returns-in-None c =
    let so_far = rw c.in-None.is at c.loop-case.invariant in
    rw c.in-None.is (sym (none_selected c.args.cases.now c.loop-case.case-index c.args.label.now c.loop-case-test.false) ∙ so_far)
