use Rattle.std.proofs.Common.{◌≡◌, Ok, Err, map, to_z, of_z, arith, refl, sym, ◌∙◌}
use Rattle.giop_cdr.specs.Reading.Values.{past, items_at}
use Rattle.giop_cdr.proofs.Reading.ItemLoops.{skips_on, skips_end, skips_done}
use Rattle.std.proofs.lemmas.Result.{err_from_is_err_and}
use Rattle.std.specs.Int.{w128}
use Rattle.std.proofs.lemmas.Int.{to_z-of_z}
use Rattle.giop_types.specs.Coding.Decoding.{decode_at, fields_at, branches_at, is_label, label_at, bounded_at, row_at}
use Rattle.giop_types.specs.Values.Tree.{members_of, items_of, row_of}
use Rattle.giop_types.specs.Values.Views.{desc_view, named_view, case_view, fallback_view, fields_of, branches_of, trees_of}
use Rattle.giop_types.proofs.Coding.MemberLoops.{members_skip_on, members_skip_end, members_skipped, default_read}
use Rattle.giop_types.proofs.Coding.MemberLoops.{nothing_read, skips_one, case_found, case_passed, no_case, past_one}
use Rattle.giop_types.proofs.Coding.MemberLoops.{case_absent, choice_by_default}
use Rattle.giop_types.proofs.Coding.CountedReads.{skips_as, bounded_is, row_is}
use Rattle.giop_types.proofs.Values.ViewLemmas.{view-Members, view-Choice, view-Items, view-Row}
use Rattle.giop_types.proofs.codec.skip.+skip.Goals as goal

pub skip_counted-returns-in_err-skip : goal.skip_counted-returns-in_err-skip
skip_counted-returns-in_err-skip g t c =
    let p = err_from_is_err_and c.from_residual.result c.from_residual.ensures.1 in
    rw (p.1, p.2) (skips_end (decode_at (desc_view c.args.item.now)) c.args.count c.loop.counter c.loop.input c.in_err-skip.field-0.0
    (items_at (decode_at (desc_view c.args.item.now)) c.args.count c.args.input.now) c.loop-test.true c.in_err-skip.ensures c.loop.invariant)

pub skip_counted-loop-preserved : goal.skip_counted-loop-preserved
skip_counted-loop-preserved g t c = skips_on (decode_at (desc_view c.args.item.now)) c.args.count c.loop.counter c.loop.input c.skip.new.input
    (items_at (decode_at (desc_view c.args.item.now)) c.args.count c.args.input.now) c.loop-test.true c.in_ok-skip.ensures c.loop.invariant

pub skip_counted-returns : goal.skip_counted-returns
skip_counted-returns g t c = skips_done (decode_at (desc_view c.args.item.now)) c.args.count c.loop.counter c.loop.input
    (items_at (decode_at (desc_view c.args.item.now)) c.args.count c.args.input.now) c.loop-test.false c.loop.invariant

pub skip_members-loop-member-preserved : goal.skip_members-loop-member-preserved
skip_members-loop-member-preserved g t c =
    members_skip_on c.args.members.now c.loop-member.member-index c.member-item.result c.loop-member.input c.skip.new.input
    (fields_at (fields_of
    (map named_view c.args.members.now)) c.args.input.now) c.loop-member-test.true c.member-item.is c.in_ok-skip.ensures c.loop-member.invariant

pub skip_members-returns-in_err-skip : goal.skip_members-returns-in_err-skip
skip_members-returns-in_err-skip g t c =
    let p = err_from_is_err_and c.from_residual.result c.from_residual.ensures.1 in
    rw (p.1, p.2) (members_skip_end c.args.members.now c.loop-member.member-index c.member-item.result c.loop-member.input c.in_err-skip.field-0.0
    (fields_at (fields_of
    (map named_view c.args.members.now)) c.args.input.now) c.loop-member-test.true c.member-item.is c.in_err-skip.ensures c.loop-member.invariant)

pub skip_members-returns : goal.skip_members-returns
skip_members-returns g t c = members_skipped c.args.members.now c.loop-member.member-index c.loop-member.input
    (fields_at (fields_of (map named_view c.args.members.now)) c.args.input.now) c.loop-member-test.false c.loop-member.invariant

pub skip_fallback-returns-in-Some : goal.skip_fallback-returns-in-Some
skip_fallback-returns-in-Some g t c =
    rw (c.in-Some.is, default_read c.in-Some.member.value c.args.input.now) (skips_one c.skip.result c.skip.new.input
    (decode_at (desc_view c.in-Some.member.value.desc) c.args.input.now) (rw (sym c.deref.ensures) c.skip.ensures))

pub skip_fallback-returns-in-None : goal.skip_fallback-returns-in-None
skip_fallback-returns-in-None g t c = rw (c.in-None.is, nothing_read c.args.input.now) refl

pub skip_case-returns : goal.skip_case-returns
skip_case-returns g t c other =
    let so_far = c.loop-case.invariant.read other in
    (sym so_far ∙ no_case c.args.cases.now c.loop-case.case-index c.args.label.now other c.args.input.now c.loop-case-test.false, c.loop-case.invariant.stays)

pub skip_case-loop-case-preserved : goal.skip_case-loop-case-preserved
skip_case-loop-case-preserved g t c =
    let test : c.has_label.result ≡ is_label c.args.label.now c.case-item.result.labels.items = rw c.deref.ensures.value at c.has_label.ensures in
    record {
      read = λ other.
          sym (case_passed c.args.cases.now c.loop-case.case-index c.case-item.result c.args.label.now other c.args.input.now c.loop-case-test.true
          c.case-item.is
          (sym test ∙ c.if-has_label.false))
          ∙ c.loop-case.invariant.read other;
      stays = c.loop-case.invariant.stays;
    }

pub skip_case-returns-then-has_label : goal.skip_case-returns-then-has_label
skip_case-returns-then-has_label g t c other =
    let test : c.has_label.result ≡ is_label c.args.label.now c.case-item.result.labels.items = rw c.deref.ensures.value at c.has_label.ensures in
    let so_far = c.loop-case.invariant.read other in
    let found =
    case_found c.args.cases.now c.loop-case.case-index c.case-item.result c.args.label.now other c.args.input.now c.loop-case-test.true c.case-item.is
    (sym test ∙ c.if-has_label.true) in
    rw (sym so_far ∙ found) (past_one (decode_at (desc_view c.case-item.result.desc) c.args.input.now) c.skip.new.input
    (rw c.loop-case.invariant.stays at c.in_ok-skip.ensures))

pub skip_case-returns-in_err-skip : goal.skip_case-returns-in_err-skip
skip_case-returns-in_err-skip g t c other =
    let test : c.has_label.result ≡ is_label c.args.label.now c.case-item.result.labels.items = rw c.deref.ensures.value at c.has_label.ensures in
    let so_far = c.loop-case.invariant.read other in
    let found =
    case_found c.args.cases.now c.loop-case.case-index c.case-item.result c.args.label.now other c.args.input.now c.loop-case-test.true c.case-item.is
    (sym test ∙ c.if-has_label.true) in
    let p = err_from_is_err_and c.from_residual.result c.from_residual.ensures.1 in
    let refused : decode_at (desc_view c.case-item.result.desc) c.args.input.now ≡ Err c.in_err-skip.field-0.0
    = rw c.loop-case.invariant.stays at c.in_err-skip.ensures in
    rw (p.1, p.2, sym so_far ∙ found, refused) refl

pub skip-returns-in_ok-skip_fallback-in-Choice : goal.skip-returns-in_ok-skip_fallback-in-Choice
skip-returns-in_ok-skip_fallback-in-Choice g t c =
    let u = c.in-Choice in
    let other = fields_at (fallback_view u.fallback) in
    let label = c.in_ok-label-in-Choice.label in
    let middle = c.read_label.new.input in
    let same : to_z w128 (of_z w128 label) ≡ label = grind (arith, to_z-of_z) in
    let read : label_at (desc_view u.disc.value) c.args.input.now ≡ Ok (label, middle) = rw c.deref-in-Choice.ensures at c.in_ok-label-in-Choice.ensures in
    let passed : (branches_at (branches_of (map case_view u.cases.items)) other label middle ≡ other middle) × (c.skip_case.new.input ≡ middle)
    = rw (same, c.deref-in-Choice-2.ensures.value) at (case_absent c.in_ok-skip_case-in-Choice.field-0 middle c.skip_case.new.input _ _ c.if-not-branch.true
    (c.in_ok-skip_case-in-Choice.ensures other)) in
    let default : past (other middle) ≡ Ok c.skip_fallback.new.input = rw passed.1 at c.in_ok-skip_fallback-in-Choice.ensures in
    rw (u.is, view-Choice u.disc u.cases u.fallback)
    (choice_by_default (desc_view u.disc.value) (branches_of (map case_view u.cases.items)) (fallback_view u.fallback)
    c.args.input.now middle c.skip_fallback.new.input label read passed.0 default)

pub skip-returns-in-Members : goal.skip-returns-in-Members
unfolding decode_at
skip-returns-in-Members g t c =
    let passed = rw c.deref.ensures.value at c.skip_members.ensures in
    rw (c.in-Members.is, view-Members) (skips_as (λ ts. members_of (trees_of ts)) c.skip_members.result c.skip_members.new.input
    (fields_at (fields_of (map named_view c.in-Members.members.items)) c.args.input.now) passed)

pub skip-returns-in-Items : goal.skip-returns-in-Items
skip-returns-in-Items g t c = rw (c.in-Items.is, view-Items) (rw c.deref-in-Items.ensures at c.skip_items.ensures)

pub skip-returns-in-Row : goal.skip-returns-in-Row
skip-returns-in-Row g t c = rw (c.in-Row.is, view-Row) (rw c.deref-in-Row.ensures at c.skip_row.ensures)

pub skip-returns-in_default : goal.skip-returns-in_default
skip-returns-in_default g t c = c.skip_leaf.ensures

pub skip_items-returns : goal.skip_items-returns
unfolding decode_at
skip_items-returns g t c =
    let item = decode_at (desc_view c.args.item.now) in
    skips_as (λ ts. items_of (trees_of ts)) c.skip_counted.result c.skip_counted.new.input (bounded_at item c.args.bound c.args.input.now)
    (rw (bounded_is item c.args.bound c.in_ok-count.count c.args.input.now c.read_bounded_count.new.self c.in_ok-count.ensures.value) c.skip_counted.ensures)

pub skip_row-returns : goal.skip_row-returns
unfolding decode_at
skip_row-returns g t c =
    let item = decode_at (desc_view c.args.item.now) in
    skips_as (λ ts. row_of (trees_of ts)) c.skip_counted.result c.skip_counted.new.input (row_at item c.args.n c.args.input.now)
    (rw (row_is item c.args.n c.args.input.now c.in_ok-count.ensures.ok.1) (rw c.in_ok-count.ensures.ok.0 at c.skip_counted.ensures))
