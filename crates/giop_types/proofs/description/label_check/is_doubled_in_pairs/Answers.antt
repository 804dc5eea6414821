use Rattle.std.proofs.Common.{◌≡◌, map, drop, ◌+◌, true, false, sym, ◌∙◌}
use Rattle.std.proofs.lemmas.List.{take_rest}
use Rattle.std.specs.Ordering.{int_eq}
use Rattle.giop_types.specs.Descriptions.Checked.{all_labels, is_repeated}
use Rattle.giop_types.specs.Values.Views.{case_view, branches_of}
use Rattle.giop_types.proofs.Coding.ListLoops.{some_found, some_passed, some_absent}
use Rattle.giop_types.proofs.Descriptions.DoubledLemmas.{labels_apart}
use Rattle.giop_types.proofs.Descriptions.LabelLemmas.{doubled_labels, doubled_labels-some}
use Rattle.giop_types.proofs.description.label_check.is_doubled_in_pairs.Goals as goal

pub returns-then-is_repeated : goal.returns-then-is_repeated
returns-then-is_repeated c =
    let test : c.is_repeated.result
    ≡ is_repeated int_eq c.index-cases-i.result.labels.items (all_labels (branches_of (map case_view (drop (c.loop-i.i + 1) c.args.cases.now))))
    = rw (c.deref.ensures.value, take_rest) at c.is_repeated.ensures in
    let found : true ≡ doubled_labels c.args.cases.now
    = some_found doubled_labels-some c.args.cases.now c.loop-i.i c.index-cases-i.result (doubled_labels c.args.cases.now) c.loop-i-test.true c.index-cases-i.is
    (sym test ∙ c.if-is_repeated.true) c.loop-i.invariant in
    record { value = found; apart = labels_apart true (all_labels (branches_of (map case_view c.args.cases.now))) found }

pub returns : goal.returns
returns c =
    let none : false ≡ doubled_labels c.args.cases.now
    = some_absent doubled_labels-some c.args.cases.now c.loop-i.i (doubled_labels c.args.cases.now) c.loop-i-test.false c.loop-i.invariant in
    record { value = none; apart = labels_apart false (all_labels (branches_of (map case_view c.args.cases.now))) none }

pub loop-i-preserved : goal.loop-i-preserved
loop-i-preserved c =
    let test : c.is_repeated.result
    ≡ is_repeated int_eq c.index-cases-i.result.labels.items (all_labels (branches_of (map case_view (drop (c.loop-i.i + 1) c.args.cases.now))))
    = rw (c.deref.ensures.value, take_rest) at c.is_repeated.ensures in
    some_passed doubled_labels-some c.args.cases.now c.loop-i.i c.index-cases-i.result (doubled_labels c.args.cases.now) c.loop-i-test.true c.index-cases-i.is
    (sym test ∙ c.if-is_repeated.false) c.loop-i.invariant
