use Rattle.std.proofs.Common.{◌≡◌, map, sym, ap, ◌∙◌, arith}
use Rattle.giop_types.specs.Values.Fits.{fits, fields_fit, is_one}
use Rattle.giop_types.specs.Values.Views.{desc_view, named_view, fallback_view, value_view, member_view, fields_of}
use Rattle.giop_types.proofs.Values.FitLemmas.{members_fitting, items_judged, items_uncounted, row_judged, row_unequal}
use Rattle.giop_types.proofs.Values.FitLemmas.{fields_failed, fields_passed, fields_end, fields_differ, case_fits, case_differs, cases_end}
use Rattle.giop_types.proofs.Values.FitLemmas.{default_fitting, default_bare, default_absent, choice_judged}
use Rattle.giop_types.proofs.Values.FitLemmas.{values-each}
use Rattle.giop_types.proofs.Coding.ListLoops.{each_failed, each_passed, each_holds}
use Rattle.giop_types.proofs.codec.fitting.+fitting.Goals as goal

pub case_fits-returns-in-Some : goal.case_fits-returns-in-Some
case_fits-returns-in-Some t c = λ other.
    let found = case_fits c.args.cases.now c.loop-case.case-index c.case-item.result c.args.label.now other (member_view c.args.member.now)
    c.loop-case-test.true c.case-item.is (rw c.deref.ensures.value at (sym c.has_label.ensures ∙ c.if-has_label.true)) in
    let fit : c.value_fits.result
    ≡ fits (desc_view c.case-item.result.desc) (value_view c.in-Some.value.value) = rw c.deref-in-Some.ensures at c.value_fits.ensures in
    sym (c.loop-case.invariant other) ∙ found ∙ ap (λ m. is_one (fits (desc_view c.case-item.result.desc)) (member_view m)) c.in-Some.is ∙ sym fit

pub case_fits-returns-in-None : goal.case_fits-returns-in-None
case_fits-returns-in-None t c = λ other.
    let found = case_fits c.args.cases.now c.loop-case.case-index c.case-item.result c.args.label.now other (member_view c.args.member.now)
    c.loop-case-test.true c.case-item.is (rw c.deref.ensures.value at (sym c.has_label.ensures ∙ c.if-has_label.true)) in
    sym (c.loop-case.invariant other) ∙ found ∙ ap (λ m. is_one (fits (desc_view c.case-item.result.desc)) (member_view m)) c.in-None.is

pub case_fits-returns : goal.case_fits-returns
case_fits-returns t c = λ other.
    sym (c.loop-case.invariant other)
    ∙ cases_end c.args.cases.now c.loop-case.case-index c.args.label.now other (member_view c.args.member.now) c.loop-case-test.false

pub case_fits-loop-case-preserved : goal.case_fits-loop-case-preserved
case_fits-loop-case-preserved t c = λ other.
    sym (case_differs c.args.cases.now c.loop-case.case-index c.case-item.result c.args.label.now other (member_view c.args.member.now)
    c.loop-case-test.true c.case-item.is (rw c.deref.ensures.value at (sym c.has_label.ensures ∙ c.if-has_label.false))) ∙ c.loop-case.invariant other

pub default_fits-returns-in-Some-member : goal.default_fits-returns-in-Some-member
default_fits-returns-in-Some-member t c =
    let fit = rw (c.deref.ensures, c.deref-in-Some-member.ensures) at c.value_fits.ensures in
    rw (c.in-Some.is, c.in-Some-member.is) (fit ∙ sym (default_fitting c.in-Some.named (value_view c.in-Some-member.value.value)))

pub default_fits-returns-in-None-member : goal.default_fits-returns-in-None-member
default_fits-returns-in-None-member t c = rw (c.in-Some.is, c.in-None-member.is) (sym (default_bare c.in-Some.named))

pub default_fits-returns-in-None : goal.default_fits-returns-in-None
default_fits-returns-in-None t c = rw c.in-None.is (sym (default_absent c.args.member.now c.is_none.result c.is_none.ensures))

pub members_fit-returns-then-members-values : goal.members_fit-returns-then-members-values
members_fit-returns-then-members-values t c = sym (fields_differ c.args.members.now c.args.values.now c.if-members-values.true)

pub members_fit-returns-then-not-value_fits : goal.members_fit-returns-then-not-value_fits
members_fit-returns-then-not-value_fits t c =
    let l = c.loop-i.invariant in
    fields_failed c.args.members.now c.args.values.now c.loop-i.i c.index-members-i.result c.index-values-i.result
    (fields_fit (fields_of (map named_view c.args.members.now)) (map value_view c.args.values.now)) c.loop-i-test.true l.as_many
    c.index-members-i.is c.index-values-i.is (rw (← c.index-members-i.is) at (sym c.value_fits.ensures ∙ c.if-not-value_fits.true)) l.so_far

pub members_fit-loop-i-preserved : goal.members_fit-loop-i-preserved
members_fit-loop-i-preserved t c =
    let l = c.loop-i.invariant in
    record {
      so_far = fields_passed c.args.members.now c.args.values.now c.loop-i.i c.index-members-i.result c.index-values-i.result
          (fields_fit (fields_of (map named_view c.args.members.now)) (map value_view c.args.values.now)) c.loop-i-test.true l.as_many
          c.index-members-i.is c.index-values-i.is (rw (← c.index-members-i.is) at (sym c.value_fits.ensures ∙ c.if-not-value_fits.false)) l.so_far;
      as_many = l.as_many;
    }

pub members_fit-returns : goal.members_fit-returns
members_fit-returns t c =
    sym (fields_end c.args.members.now c.args.values.now c.loop-i.i c.loop-i-test.false (omega (arith, c.loop-i.invariant.as_many))) ∙ c.loop-i.invariant.so_far

pub value_fits-returns-in-Members-Members : goal.value_fits-returns-in-Members-Members
value_fits-returns-in-Members-Members t c =
    let u = c.in-Members-Members in
    let same = rw (c.deref.ensures.value, c.deref-in-Members-Members.ensures.value) at c.members_fit.ensures in
    rw (u.is-0, u.is-1) (same ∙ sym (members_fitting u.members u.values))

pub value_fits-returns-in-Some : goal.value_fits-returns-in-Some
value_fits-returns-in-Some t c =
    let u = c.in-Choice-Choice in
    let label = rw c.deref-in-Choice-Choice.ensures at (sym c.fits_label.ensures ∙ c.if-not-fits_label.false) in
    let member = rw (c.deref-in-Choice-Choice-2.ensures.value, c.in-Some.is) at (c.case_fits.ensures (fields_fit (fallback_view u.fallback))) in
    rw (u.is-0, u.is-1) (choice_judged u.disc u.cases u.fallback u.label u.member c.in-Some.fits label member)

pub value_fits-returns-in-None : goal.value_fits-returns-in-None
value_fits-returns-in-None t c =
    let u = c.in-Choice-Choice in
    let label = rw c.deref-in-Choice-Choice.ensures at (sym c.fits_label.ensures ∙ c.if-not-fits_label.false) in
    let member = rw (c.deref-in-Choice-Choice-2.ensures.value, c.in-None.is) at (c.case_fits.ensures (fields_fit (fallback_view u.fallback))) in
    rw (u.is-0, u.is-1) (choice_judged u.disc u.cases u.fallback u.label u.member c.default_fits.result label (member ∙ sym c.default_fits.ensures))

pub value_fits-returns-then-is_counted : goal.value_fits-returns-then-is_counted
value_fits-returns-then-is_counted t c =
    let u = c.in-Items-Items in
    let same = rw (c.deref-then-is_counted.ensures, c.deref-then-is_counted-2.ensures.value) at c.each_fits.ensures in
    rw (u.is-0, u.is-1) (items_judged u.item u.bound u.values c.len-in-Items-Items.result c.each_fits.result (c.len-in-Items-Items.ensures ∙ u.values.ok.0)
    (sym c.is_counted.ensures ∙ c.if-is_counted.true) same)

pub value_fits-returns-else-is_counted : goal.value_fits-returns-else-is_counted
value_fits-returns-else-is_counted t c =
    let u = c.in-Items-Items in
    rw (u.is-0, u.is-1) (c.if-is_counted.false ∙ items_uncounted u.item u.bound u.values c.len-in-Items-Items.result
    (c.len-in-Items-Items.ensures ∙ u.values.ok.0) (sym c.is_counted.ensures ∙ c.if-is_counted.false))

pub value_fits-returns-then-len-n : goal.value_fits-returns-then-len-n
value_fits-returns-then-len-n t c =
    let u = c.in-Row-Row in
    let same = rw (c.deref-then-len-n.ensures, c.deref-then-len-n-2.ensures.value) at c.each_fits-then-len-n.ensures in
    rw (u.is-0, u.is-1) (row_judged u.item u.n u.values c.len-in-Row-Row.result c.each_fits-then-len-n.result (c.len-in-Row-Row.ensures ∙ u.values.ok.0)
    c.if-len-n.true same)

pub value_fits-returns-else-len-n : goal.value_fits-returns-else-len-n
value_fits-returns-else-len-n t c =
    let u = c.in-Row-Row in
    rw (u.is-0, u.is-1) (row_unequal u.item u.n u.values c.len-in-Row-Row.result
    (c.len-in-Row-Row.ensures ∙ u.values.ok.0) c.if-len-n.false)

pub each_fits-loop-value-preserved : goal.each_fits-loop-value-preserved
each_fits-loop-value-preserved t c =
    each_passed (values-each (desc_view c.args.item.now)) c.args.values.now c.loop-value.value-index c.value-item.result _ c.loop-value-test.true
    c.value-item.is
    (sym c.value_fits.ensures ∙ c.if-not-value_fits.false) c.loop-value.invariant

pub each_fits-returns-then-not-value_fits : goal.each_fits-returns-then-not-value_fits
each_fits-returns-then-not-value_fits t c =
    each_failed (values-each (desc_view c.args.item.now)) c.args.values.now c.loop-value.value-index c.value-item.result _ c.loop-value-test.true
    c.value-item.is
    (sym c.value_fits.ensures ∙ c.if-not-value_fits.true) c.loop-value.invariant

pub each_fits-returns : goal.each_fits-returns
each_fits-returns t c =
    each_holds (values-each (desc_view c.args.item.now)) c.args.values.now c.loop-value.value-index _ c.loop-value-test.false c.loop-value.invariant
