use Rattle.std.proofs.Common.{◌≡◌, ◌+◌, Some, None, map}
use Rattle.std.proofs.lemmas.Result.{err_from_is_err_and}
use Rattle.giop_types.specs.Descriptions.Checked.{desc_fault, fields_fault, branches_fault, own_fault}
use Rattle.giop_types.specs.Values.Views.{desc_view, named_view, case_view, fallback_view, fields_of, branches_of}
use Rattle.giop_types.proofs.Values.ViewLemmas.{view-Choice}
use Rattle.giop_types.proofs.Coding.ListLoops.{first_found, first_passed, first_absent}
use Rattle.giop_types.proofs.Descriptions.CheckLemmas.{members-first, cases-first, choice_case, choice_default, tells_same}
use Rattle.giop_types.proofs.description.check.+check.Goals as goal

pub check_cases-returns-in_err-check_desc : goal.check_cases-returns-in_err-check_desc
check_cases-returns-in_err-check_desc t c =
    let p = err_from_is_err_and c.from_residual.result c.from_residual.ensures.1 in
    rw (p.1, p.2) (first_found (cases-first c.args.depth) c.args.cases.now c.loop-case.case-index c.case-item.result
    (branches_fault c.args.depth (branches_of (map case_view c.args.cases.now))) c.in_err-check_desc.field-0.0
    c.loop-case-test.true c.case-item.is c.in_err-check_desc.ensures c.loop-case.invariant)

pub check_cases-loop-case-preserved : goal.check_cases-loop-case-preserved
check_cases-loop-case-preserved t c =
    first_passed (cases-first c.args.depth) c.args.cases.now c.loop-case.case-index c.case-item.result
    (branches_fault c.args.depth (branches_of (map case_view c.args.cases.now)))
    c.loop-case-test.true c.case-item.is c.in_ok-check_desc.ensures c.loop-case.invariant

pub check_cases-returns : goal.check_cases-returns
check_cases-returns t c =
    first_absent (cases-first c.args.depth) c.args.cases.now c.loop-case.case-index
    (branches_fault c.args.depth (branches_of (map case_view c.args.cases.now))) c.loop-case-test.false c.loop-case.invariant

pub check_members-returns-in_err-check_desc : goal.check_members-returns-in_err-check_desc
check_members-returns-in_err-check_desc t c =
    let p = err_from_is_err_and c.from_residual.result c.from_residual.ensures.1 in
    rw (p.1, p.2) (first_found (members-first c.args.depth) c.args.members.now c.loop-member.member-index c.member-item.result
    (fields_fault c.args.depth (fields_of (map named_view c.args.members.now))) c.in_err-check_desc.field-0.0
    c.loop-member-test.true c.member-item.is c.in_err-check_desc.ensures c.loop-member.invariant)

pub check_members-loop-member-preserved : goal.check_members-loop-member-preserved
check_members-loop-member-preserved t c =
    first_passed (members-first c.args.depth) c.args.members.now c.loop-member.member-index c.member-item.result
    (fields_fault c.args.depth (fields_of (map named_view c.args.members.now)))
    c.loop-member-test.true c.member-item.is c.in_ok-check_desc.ensures c.loop-member.invariant

pub check_members-returns : goal.check_members-returns
check_members-returns t c =
    first_absent (members-first c.args.depth) c.args.members.now c.loop-member.member-index
    (fields_fault c.args.depth (fields_of (map named_view c.args.members.now))) c.loop-member-test.false c.loop-member.invariant

pub check_desc-returns-in_err-check_cases-in-Choice : goal.check_desc-returns-in_err-check_cases-in-Choice
check_desc-returns-in_err-check_cases-in-Choice t c =
    let u = c.in-Choice in
    let p = err_from_is_err_and c.from_residual-in_err-check_cases-in-Choice.result c.from_residual-in_err-check_cases-in-Choice.ensures.1 in
    let own : own_fault (desc_view c.args.desc.now) ≡ None = c.in_ok-check_own.ensures in
    let disc : desc_fault (c.args.depth + 1) (desc_view u.disc.value) ≡ None = rw c.deref-in-Choice.ensures at c.in_ok-check_desc-in-Choice.ensures in
    let cases : branches_fault (c.args.depth + 1) (branches_of (map case_view u.cases.items)) ≡ Some c.in_err-check_cases-in-Choice.field-0.0
    = rw c.deref-in-Choice-2.ensures.value at c.in_err-check_cases-in-Choice.ensures in
    rw (p.1, p.2, u.is, view-Choice u.disc u.cases u.fallback)
    (choice_case c.args.depth (desc_view u.disc.value) (branches_of (map case_view u.cases.items))
    (fallback_view u.fallback) c.in_err-check_cases-in-Choice.field-0.0
    c.if-depth-gt-DEEPEST.false (rw (u.is, view-Choice u.disc u.cases u.fallback) at own) disc cases)

pub check_desc-returns-in_ok-check_cases-in-Choice : goal.check_desc-returns-in_ok-check_cases-in-Choice
check_desc-returns-in_ok-check_cases-in-Choice t c =
    let u = c.in-Choice in
    let own : own_fault (desc_view c.args.desc.now) ≡ None = c.in_ok-check_own.ensures in
    let disc : desc_fault (c.args.depth + 1) (desc_view u.disc.value) ≡ None = rw c.deref-in-Choice.ensures at c.in_ok-check_desc-in-Choice.ensures in
    let cases : branches_fault (c.args.depth + 1) (branches_of (map case_view u.cases.items)) ≡ None
    = rw c.deref-in-Choice-2.ensures.value at c.in_ok-check_cases-in-Choice.ensures in
    rw (u.is, view-Choice u.disc u.cases u.fallback)
    (tells_same c.check_fallback.result (fields_fault (c.args.depth + 1) (fallback_view u.fallback)) _
    (choice_default c.args.depth (desc_view u.disc.value) (branches_of (map case_view u.cases.items)) (fallback_view u.fallback)
    c.if-depth-gt-DEEPEST.false (rw (u.is, view-Choice u.disc u.cases u.fallback) at own) disc cases) c.check_fallback.ensures)
