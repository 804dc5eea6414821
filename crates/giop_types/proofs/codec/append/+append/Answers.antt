use Rattle.std.proofs.Common.{Ok, Err, [], map, length, true, false, refl, sym, ap, ◌∙◌, arith}
use Rattle.std.proofs.lemmas.Result.{err_from_is_err_and}
use Rattle.std.specs.Bool.{⊤}
use Rattle.giop_cdr.proofs.Writing.WriterLemmas.{grows_then, grows_not}
use Rattle.giop_types.specs.Values.Fits.{fields_fit, fits_label}
use Rattle.giop_types.specs.Coding.Written.{fields_out, branches_out}
use Rattle.giop_types.specs.Values.Views.{desc_view, case_view, fallback_view, value_view, member_view, branches_of}
use Rattle.giop_types.proofs.Values.FitLemmas.{members_fitting, choice_fitting, choice_judged, fields_failed, fields_passed, fields_end, fields_differ}
use Rattle.giop_types.proofs.Values.FitLemmas.{case_fits, case_differs, cases_end, default_fitting, default_bare, default_absent, values-each}
use Rattle.giop_types.proofs.Coding.ListLoops.{each_passed, each_holds}
use Rattle.giop_types.proofs.Coding.EncodeLemmas.{puts_as, puts_then, puts_fails, members_written, items_written, row_written, choice_written}
use Rattle.giop_types.proofs.Coding.EncodeLemmas.{items_fits, row_fits, each_on, each_end, fields_on, fields_done, case_left, cases_done}
use Rattle.giop_types.proofs.Coding.EncodeLemmas.{case_put, case_refused, sequence_is, case_over, choice_by_case, choice_by_default, default_written, nothing_written}
use Rattle.giop_types.proofs.codec.append.+append.Goals as goal

pub append-returns-in-Members-value : goal.append-returns-in-Members-value
append-returns-in-Members-value t c =
    let u = c.in-Members in
    let v = c.in-Members-value in
    let h = rw (c.deref.ensures.value, c.deref-in-Members-value.ensures.value) at c.append_members.ensures in
    rw (u.is, v.is) (puts_as _ _ c.args.out.now c.append_members.new.out _ _ c.append_members.result
    (sym (members_fitting u.members v.values)) (sym (members_written u.members v.values c.args.out.now)) h)

pub append-returns-in-Items-value : goal.append-returns-in-Items-value
append-returns-in-Items-value t c =
    let u = c.in-Items in
    let v = c.in-Items-value in
    let h = rw (c.deref-in-Items-value.ensures, c.deref-in-Items-value-2.ensures.value) at c.append_items.ensures in
    rw (u.is, v.is) (puts_as _ _ c.args.out.now c.append_items.new.out _ _ c.append_items.result
    (items_fits u.item u.bound v.values) (sym (items_written u.item u.bound v.values c.args.out.now)) h)

pub append-returns-in-Row-value : goal.append-returns-in-Row-value
append-returns-in-Row-value t c =
    let u = c.in-Row in
    let v = c.in-Row-value in
    let h = rw (c.deref-in-Row-value.ensures, c.deref-in-Row-value-2.ensures.value) at c.append_row.ensures in
    rw (u.is, v.is) (puts_as _ _ c.args.out.now c.append_row.new.out _ _ c.append_row.result
    (row_fits u.item u.n v.values) (sym (row_written u.item u.n v.values c.args.out.now)) h)

pub append-returns-in_err-append_case-in-Choice-value : goal.append-returns-in_err-append_case-in-Choice-value
append-returns-in_err-append_case-in-Choice-value t c =
    let u = c.in-Choice in
    let v = c.in-Choice-value in
    let p = err_from_is_err_and c.from_residual-in_err-append_case-in-Choice-value.result c.from_residual-in_err-append_case-in-Choice-value.ensures.1 in
    let label = rw c.deref-in-Choice-value.ensures at c.in_ok-append_label-in-Choice-value.ensures in
    let h = case_over c.deref-in-Choice-value-2.ensures.value (fields_fit (fallback_view u.fallback)) (fields_out (fallback_view u.fallback)) v.label
    (member_view v.member)
    c.append_label.new.out c.append_case.new.out (Err c.in_err-append_case-in-Choice-value.field-0.0)
    (c.in_err-append_case-in-Choice-value.ensures (fields_fit (fallback_view u.fallback)) (fields_out (fallback_view u.fallback))) in
    rw (p.1, p.2, u.is, v.is) (puts_fails _ _ c.args.out.now c.append_label.new.out c.append_case.new.out c.in_err-append_case-in-Choice-value.field-0.0
    (λ fails. sym (choice_judged u.disc u.cases u.fallback v.label v.member false label.0 fails)) label.2 h)

pub append-returns-then-branch : goal.append-returns-then-branch
append-returns-then-branch t c =
    let u = c.in-Choice in
    let v = c.in-Choice-value in
    let bs = branches_of (map case_view u.cases.items) in
    let label = rw c.deref-in-Choice-value.ensures at c.in_ok-append_label-in-Choice-value.ensures in
    let h = case_over c.deref-in-Choice-value-2.ensures.value (fields_fit (fallback_view u.fallback)) (fields_out (fallback_view u.fallback)) v.label
    (member_view v.member)
    c.append_label.new.out c.append_case.new.out (Ok c.in_ok-append_case-in-Choice-value.field-0)
    (c.in_ok-append_case-in-Choice-value.ensures (fields_fit (fallback_view u.fallback)) (fields_out (fallback_view u.fallback))) in
    rw (u.is, v.is) (puts_as _ _ c.args.out.now c.append_case.new.out _ _ (Ok (tt {0}))
    (sym (choice_fitting u.disc u.cases u.fallback v.label v.member))
    (ap (branches_out bs (fields_out (fallback_view u.fallback)) v.label (member_view v.member)) label.1
    ∙ sym (choice_written u.disc u.cases u.fallback v.label v.member c.args.out.now))
    (choice_by_case ⊤ (tt {0})
    (fits_label (desc_view u.disc.value) v.label) _ _ c.in_ok-append_case-in-Choice-value.field-0 c.args.out.now c.append_label.new.out
    c.append_case.new.out _ _ label.0 label.2 c.if-branch.true h))

pub append-returns-else-branch : goal.append-returns-else-branch
append-returns-else-branch t c =
    let u = c.in-Choice in
    let v = c.in-Choice-value in
    let bs = branches_of (map case_view u.cases.items) in
    let label = rw c.deref-in-Choice-value.ensures at c.in_ok-append_label-in-Choice-value.ensures in
    let h = case_over c.deref-in-Choice-value-2.ensures.value (fields_fit (fallback_view u.fallback)) (fields_out (fallback_view u.fallback)) v.label
    (member_view v.member)
    c.append_label.new.out c.append_case.new.out (Ok c.in_ok-append_case-in-Choice-value.field-0)
    (c.in_ok-append_case-in-Choice-value.ensures (fields_fit (fallback_view u.fallback)) (fields_out (fallback_view u.fallback))) in
    rw (u.is, v.is) (puts_as _ _ c.args.out.now c.append_default.new.out _ _ c.append_default.result
    (sym (choice_fitting u.disc u.cases u.fallback v.label v.member))
    (ap (branches_out bs (fields_out (fallback_view u.fallback)) v.label (member_view v.member)) label.1
    ∙ sym (choice_written u.disc u.cases u.fallback v.label v.member c.args.out.now))
    (choice_by_default (fits_label (desc_view u.disc.value) v.label) _
    (fields_fit (fallback_view u.fallback) (member_view v.member)) c.in_ok-append_case-in-Choice-value.field-0
    c.args.out.now c.append_label.new.out c.append_case.new.out c.append_default.new.out _ (fields_out (fallback_view u.fallback) (member_view v.member))
    c.append_default.result label.0 label.2 c.if-branch.false h c.append_default.ensures))

pub append_items-returns : goal.append_items-returns
append_items-returns t c =
    let s = desc_view c.args.item.now in
    let put = c.in_ok-append_count.ensures in
    puts_as _ _ c.args.out.now c.append_each.new.out _ _ c.append_each.result refl
    (sequence_is s c.args.values.now c.args.out.now c.append_count.new.out (length c.args.values.now) refl put.1)
    (puts_then _ _ c.args.out.now c.append_count.new.out c.append_each.new.out _ c.append_each.result put.0 put.2 c.append_each.ensures)

pub append_case-returns-in_err-append-in-Some : goal.append_case-returns-in_err-append-in-Some
append_case-returns-in_err-append-in-Some t c =
    let p = err_from_is_err_and c.from_residual.result c.from_residual.ensures.1 in
    let l = c.loop-case.invariant in
    let fit = rw c.in-Some.is at l.fit in
    let put = rw (c.deref-in-Some.ensures, l.stays) at c.in_err-append-in-Some.ensures in
    λ other more. rw (p.1, p.2, c.in-Some.is) (puts_fails _ _ c.args.out.now c.args.out.now c.append.new.out c.in_err-append-in-Some.field-0.0
    (λ fails. case_refused c.args.cases.now c.loop-case.case-index c.case-item.result c.args.label.now (value_view c.in-Some.value.value) other _
    c.loop-case-test.true c.case-item.is (rw c.deref.ensures.value at (sym c.has_label.ensures ∙ c.if-has_label.true)) (fit other) fails)
    (grows_not c.args.out.now) put)

pub append_case-returns-in_ok-append-in-Some : goal.append_case-returns-in_ok-append-in-Some
append_case-returns-in_ok-append-in-Some t c =
    let l = c.loop-case.invariant in
    let fit = rw c.in-Some.is at l.fit in
    let written = rw c.in-Some.is at l.written in
    let put = rw (c.deref-in-Some.ensures, l.stays) at c.in_ok-append-in-Some.ensures in
    λ other more. rw c.in-Some.is (case_put c.args.cases.now c.loop-case.case-index c.case-item.result c.args.label.now
    (value_view c.in-Some.value.value) other more c.args.out.now c.append.new.out _ _
    c.loop-case-test.true c.case-item.is (rw c.deref.ensures.value at (sym c.has_label.ensures ∙ c.if-has_label.true)) (fit other) (written more) put)

pub append_case-returns-in-None : goal.append_case-returns-in-None
append_case-returns-in-None t c =
    let l = c.loop-case.invariant in
    let fit = rw c.in-None.is at l.fit in
    λ other more. rw (c.in-None.is, l.stays) (
      λ unfit. sym (fit other) ∙ case_fits c.args.cases.now c.loop-case.case-index c.case-item.result c.args.label.now other []
          c.loop-case-test.true c.case-item.is (rw c.deref.ensures.value at (sym c.has_label.ensures ∙ c.if-has_label.true)),
      grows_not c.args.out.now,
    )

pub append_case-loop-case-preserved : goal.append_case-loop-case-preserved
append_case-loop-case-preserved t c =
    let l = c.loop-case.invariant in
    let passed = rw c.deref.ensures.value at (sym c.has_label.ensures ∙ c.if-has_label.false) in
    record {
      fit = λ other. sym (case_differs c.args.cases.now c.loop-case.case-index c.case-item.result c.args.label.now other (member_view c.args.member.now)
          c.loop-case-test.true c.case-item.is passed) ∙ l.fit other;
      written =
          λ more. sym (case_left c.args.cases.now c.loop-case.case-index c.case-item.result c.args.label.now more (member_view c.args.member.now) c.args.out.now
          c.loop-case-test.true c.case-item.is passed) ∙ l.written more;
      stays = l.stays;
    }

pub append_case-returns : goal.append_case-returns
append_case-returns t c =
    let l = c.loop-case.invariant in
    λ other more. (
      sym (l.fit other) ∙ cases_end c.args.cases.now c.loop-case.case-index c.args.label.now other (member_view c.args.member.now) c.loop-case-test.false,
      sym (l.written more)
          ∙ cases_done c.args.cases.now c.loop-case.case-index c.args.label.now more (member_view c.args.member.now) c.args.out.now c.loop-case-test.false,
      l.stays,
    )

pub append_default-returns-in-Some-member : goal.append_default-returns-in-Some-member
append_default-returns-in-Some-member t c =
    let h = rw (c.deref.ensures, c.deref-in-Some-member.ensures) at c.append.ensures in
    rw (c.in-Some.is, c.in-Some-member.is) (puts_as _ _ c.args.out.now c.append.new.out _ _ c.append.result
    (sym (default_fitting c.in-Some.named (value_view c.in-Some-member.value.value)))
    (sym (default_written c.in-Some.named (value_view c.in-Some-member.value.value) c.args.out.now)) h)

pub append_default-returns-in-None-member : goal.append_default-returns-in-None-member
append_default-returns-in-None-member t c = rw (c.in-Some.is, c.in-None-member.is) (λ unfit. default_bare c.in-Some.named, grows_not c.args.out.now)

pub append_default-returns-in-None : goal.append_default-returns-in-None
append_default-returns-in-None t c =
    rw c.in-None.is (λ unfit. default_absent c.args.member.now false (sym (c.if-is_some.ensures)), grows_not c.args.out.now)

pub append_default-returns-in-None-2 : goal.append_default-returns-in-None-2
append_default-returns-in-None-2 t c =
    rw c.in-None.is (
      default_absent c.args.member.now true (sym (c.if-is_some.ensures)),
      sym
          (nothing_written c.args.member.now c.args.out.now),
      grows_not c.args.out.now,
    )

pub append_each-loop-value-preserved : goal.append_each-loop-value-preserved
append_each-loop-value-preserved t c =
    let l = c.loop-value.invariant in
    let put = c.in_ok-append.ensures in
    let s = desc_view c.args.item.now in
    record {
      fit = each_passed (values-each s) c.args.values.now c.loop-value.value-index c.value-item.result _ c.loop-value-test.true c.value-item.is put.0 l.fit;
      written = each_on s c.args.values.now c.loop-value.value-index c.value-item.result c.loop-value.out c.append.new.out _ c.loop-value-test.true
          c.value-item.is put.1 l.written;
      grows = grows_then c.args.out.now c.loop-value.out c.append.new.out l.grows put.2;
    }

pub append_each-returns : goal.append_each-returns
append_each-returns t c =
    let l = c.loop-value.invariant in
    let s = desc_view c.args.item.now in (
      sym (each_holds (values-each s) c.args.values.now c.loop-value.value-index _ c.loop-value-test.false l.fit),
      each_end s c.args.values.now c.loop-value.value-index c.loop-value.out _ c.loop-value-test.false l.written,
      l.grows,
    )

pub append_members-returns-then-members-values : goal.append_members-returns-then-members-values
append_members-returns-then-members-values t c =
    (λ unfit. fields_differ c.args.members.now c.args.values.now c.if-members-values.true, grows_not c.args.out.now)

pub append_members-returns-in_err-append_part : goal.append_members-returns-in_err-append_part
append_members-returns-in_err-append_part t c =
    let p = err_from_is_err_and c.from_residual.result c.from_residual.ensures.1 in
    let l = c.loop-i.invariant in
    let put = rw (← c.index-members-i.is) at c.in_err-append_part.ensures in
    rw (p.1, p.2) (puts_fails _ _ c.args.out.now c.loop-i.out c.append_part.new.out c.in_err-append_part.field-0.0
    (λ fails. sym (fields_failed c.args.members.now c.args.values.now c.loop-i.i c.index-members-i.result c.index-values-i.result _ c.loop-i-test.true l.as_many
    c.index-members-i.is c.index-values-i.is fails l.fit)) l.grows put)

pub append_members-loop-i-preserved : goal.append_members-loop-i-preserved
append_members-loop-i-preserved t c =
    let l = c.loop-i.invariant in
    let put = rw (← c.index-members-i.is) at c.in_ok-append_part.ensures in
    record {
      fit = fields_passed c.args.members.now c.args.values.now c.loop-i.i c.index-members-i.result c.index-values-i.result _ c.loop-i-test.true l.as_many
          c.index-members-i.is c.index-values-i.is put.0 l.fit;
      written = fields_on c.args.members.now c.args.values.now c.loop-i.i c.index-members-i.result c.index-values-i.result c.loop-i.out c.append_part.new.out _
          c.loop-i-test.true l.as_many c.index-members-i.is c.index-values-i.is put.1 l.written;
      grows = grows_then c.args.out.now c.loop-i.out c.append_part.new.out l.grows put.2;
      as_many = l.as_many;
    }

pub append_members-returns : goal.append_members-returns
append_members-returns t c =
    let l = c.loop-i.invariant in (
      sym l.fit ∙ fields_end c.args.members.now c.args.values.now c.loop-i.i c.loop-i-test.false (omega (arith, l.as_many)),
      fields_done c.args.members.now c.args.values.now c.loop-i.i c.loop-i.out _ c.loop-i-test.false l.written,
      l.grows,
    )
