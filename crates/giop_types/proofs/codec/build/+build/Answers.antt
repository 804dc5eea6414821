use Rattle.std.proofs.Common.{◌≡◌, ◌⊎◌, inl, inr, Ok, Err, [], ◌∷◌, ◌++◌, map, to_z, of_z, arith, refl, sym, ◌∙◌}
use Rattle.std.proofs.lemmas.Grind.{common_steps}
use Rattle.std.proofs.lemmas.Result.{err_from_is_err_and}
use Rattle.giop_cdr.specs.declared.fault.CdrKind.TheVariants.{NoMemory}
use Rattle.giop_cdr.specs.Reading.Values.{items_at}
use Rattle.giop_cdr.proofs.Reading.ItemLoops.{goes_on, ends, is_done}
use Rattle.giop_types.specs.Coding.Decoding.{decode_at, fields_at, branches_at, is_label, label_at}
use Rattle.giop_types.specs.Values.Views.{desc_view, named_view, case_view, fallback_view, value_view, fields_of, branches_of}
use Rattle.giop_types.proofs.Coding.MemberLoops.{members_read_on, members_read_end, members_read}
use Rattle.giop_types.proofs.Coding.MemberLoops.{default_read, nothing_read, case_found, case_passed, no_case}
use Rattle.giop_types.proofs.Coding.MemberLoops.{value_absent, choice_read, choice_refused, choice_follows}
use Rattle.giop_types.proofs.Coding.CountedReads.{bounded_is, row_is}
use Rattle.giop_types.proofs.Values.FitLemmas.{members_view, items_view, row_view}
use Rattle.giop_types.proofs.Values.ViewLemmas.{view-Members, view-Choice, view-Items, view-Row}
use Rattle.giop_types.specs.Coding.Outcome.{one_or_none}
use Rattle.giop_types.specs.Descriptions.Shape.{choice}
use Rattle.std.specs.Int.{w128}
use Rattle.std.proofs.lemmas.Int.{to_z-of_z}
use Rattle.giop_types.proofs.codec.build.+build.Goals as goal

pub build_counted-returns-in_err-value : goal.build_counted-returns-in_err-value
build_counted-returns-in_err-value g t c =
    let p = err_from_is_err_and c.from_residual.result c.from_residual.ensures.1 in
    let item = decode_at (desc_view c.args.item.now) in
    rw (p.1, p.2) (elim c.in_err-value.ensures [
      | inl refused ↦ inl (ends item c.loop.values.come c.args.count c.loop.counter c.loop.input c.in_err-value.field-0.0
          (items_at item c.args.count c.args.input.now) c.loop-test.true refused c.loop.invariant)
      | inr memory ↦ inr memory
    ])

pub build_counted-loop-preserved : goal.build_counted-loop-preserved
build_counted-loop-preserved g t c =
    let item = decode_at (desc_view c.args.item.now) in
    let pushed : c.push.new.self.come ≡ c.loop.values.come ++ value_view c.in_ok-value.value ∷ [] = grind (arith, common_steps) in
    rw pushed (goes_on item c.loop.values.come c.args.count c.loop.counter c.loop.input
    (value_view c.in_ok-value.value) c.build.new.input (items_at item c.args.count c.args.input.now) c.loop-test.true c.in_ok-value.ensures c.loop.invariant)

pub build_counted-returns : goal.build_counted-returns
build_counted-returns g t c =
    let item = decode_at (desc_view c.args.item.now) in
    rw c.into_vec.ensures (is_done item c.loop.values.come c.args.count c.loop.counter c.loop.input (items_at item c.args.count c.args.input.now)
    c.loop-test.false c.loop.invariant)

pub build_members-returns-in_err-value : goal.build_members-returns-in_err-value
build_members-returns-in_err-value g t c =
    let p = err_from_is_err_and c.from_residual.result c.from_residual.ensures.1 in
    rw (p.1, p.2) (elim c.in_err-value.ensures [
      | inl refused ↦ inl (members_read_end c.loop-member.values.come c.args.members.now c.loop-member.member-index c.member-item.result
          c.loop-member.input c.in_err-value.field-0.0 (fields_at (fields_of (map named_view c.args.members.now)) c.args.input.now)
          c.loop-member-test.true c.member-item.is refused c.loop-member.invariant)
      | inr memory ↦ inr memory
    ])

pub build_members-loop-member-preserved : goal.build_members-loop-member-preserved
build_members-loop-member-preserved g t c =
    let pushed : c.push.new.self.come ≡ c.loop-member.values.come ++ value_view c.in_ok-value.value ∷ [] = grind (arith, common_steps) in
    rw pushed (members_read_on c.loop-member.values.come c.args.members.now
    c.loop-member.member-index c.member-item.result c.loop-member.input (value_view c.in_ok-value.value) c.build_part.new.input
    (fields_at (fields_of
    (map named_view c.args.members.now)) c.args.input.now) c.loop-member-test.true c.member-item.is c.in_ok-value.ensures c.loop-member.invariant)

pub build_members-returns : goal.build_members-returns
build_members-returns g t c = rw c.into_vec.ensures (members_read c.loop-member.values.come c.args.members.now c.loop-member.member-index c.loop-member.input
    (fields_at (fields_of (map named_view c.args.members.now)) c.args.input.now) c.loop-member-test.false c.loop-member.invariant)

pub build_fallback-returns-in-None : goal.build_fallback-returns-in-None
build_fallback-returns-in-None g t c = rw (c.in-None.is, nothing_read c.args.input.now) refl

pub build_fallback-returns-in_ok-build-in-Some : goal.build_fallback-returns-in_ok-build-in-Some
build_fallback-returns-in_ok-build-in-Some g t c =
    let read = rw c.deref.ensures at c.in_ok-build-in-Some.ensures in
    rw (c.in-Some.is, default_read c.in-Some.member.value c.args.input.now, read) refl

pub build_fallback-returns-in_err-build-in-Some : goal.build_fallback-returns-in_err-build-in-Some
build_fallback-returns-in_err-build-in-Some g t c =
    let p = err_from_is_err_and c.from_residual.result c.from_residual.ensures.1 in
    let refused = rw c.deref.ensures at c.in_err-build-in-Some.ensures in
    rw (p.1, p.2, c.in-Some.is, default_read c.in-Some.member.value c.args.input.now) (elim refused [
      | inl refused ↦ inl (rw refused refl)
      | inr memory ↦ inr memory
    ])

pub build_case-returns : goal.build_case-returns
build_case-returns g t c other = (
  sym (c.loop-case.invariant.read other)
      ∙ no_case c.args.cases.now c.loop-case.case-index c.args.label.now other c.args.input.now c.loop-case-test.false,
  c.loop-case.invariant.stays,
)

pub build_case-loop-case-preserved : goal.build_case-loop-case-preserved
build_case-loop-case-preserved g t c =
    let test : c.has_label.result ≡ is_label c.args.label.now c.case-item.result.labels.items = rw c.deref.ensures.value at c.has_label.ensures in
    record {
      read = λ other.
          sym (case_passed c.args.cases.now c.loop-case.case-index c.case-item.result c.args.label.now other c.args.input.now c.loop-case-test.true
          c.case-item.is
          (sym test ∙ c.if-has_label.false))
          ∙ c.loop-case.invariant.read other;
      stays = c.loop-case.invariant.stays;
    }

pub build_case-returns-then-has_label : goal.build_case-returns-then-has_label
build_case-returns-then-has_label g t c other =
    let test : c.has_label.result ≡ is_label c.args.label.now c.case-item.result.labels.items = rw c.deref.ensures.value at c.has_label.ensures in
    let found =
    case_found c.args.cases.now c.loop-case.case-index c.case-item.result c.args.label.now other c.args.input.now c.loop-case-test.true c.case-item.is
    (sym test ∙ c.if-has_label.true) in
    let read : decode_at (desc_view c.case-item.result.desc) c.args.input.now ≡ Ok (value_view c.in_ok-value.value, c.build.new.input)
    = rw c.loop-case.invariant.stays at c.in_ok-value.ensures in
    rw (sym (c.loop-case.invariant.read other) ∙ found, read) refl

pub build_case-returns-in_err-value : goal.build_case-returns-in_err-value
build_case-returns-in_err-value g t c other =
    let test : c.has_label.result ≡ is_label c.args.label.now c.case-item.result.labels.items = rw c.deref.ensures.value at c.has_label.ensures in
    let found =
    case_found c.args.cases.now c.loop-case.case-index c.case-item.result c.args.label.now other c.args.input.now c.loop-case-test.true c.case-item.is
    (sym test ∙ c.if-has_label.true) in
    let p = err_from_is_err_and c.from_residual.result c.from_residual.ensures.1 in
    let answer : (decode_at (desc_view c.case-item.result.desc) c.args.input.now ≡ Err c.in_err-value.field-0.0) ⊎ (c.in_err-value.field-0.0.kind ≡ NoMemory)
    = rw c.loop-case.invariant.stays at c.in_err-value.ensures in
    rw (p.1, p.2, sym (c.loop-case.invariant.read other) ∙ found) (elim answer [
      | inl refused ↦ inl (rw refused refl)
      | inr memory ↦ inr memory
    ])

pub build-returns-in_err-member-in-Choice : goal.build-returns-in_err-member-in-Choice
build-returns-in_err-member-in-Choice g t c =
    let u = c.in-Choice in
    let label = c.in_ok-label-in-Choice.label in
    let middle = c.read_label.new.input in
    let e = c.in_err-member-in-Choice.field-0.0 in
    let same : to_z w128 (of_z w128 label) ≡ label = grind (arith, to_z-of_z) in
    let read : label_at (desc_view u.disc.value) c.args.input.now ≡ Ok (label, middle) = rw c.deref-in-Choice.ensures at c.in_ok-label-in-Choice.ensures in
    let answer : (branches_at (branches_of (map case_view u.cases.items)) (fields_at (fallback_view u.fallback)) label middle ≡ Err e) ⊎ (e.kind ≡ NoMemory)
    = rw (same, c.deref-in-Choice-2.ensures.value) at (c.in_err-member-in-Choice.ensures (fields_at (fallback_view u.fallback))) in
    let p = err_from_is_err_and c.from_residual-in_err-member-in-Choice.result c.from_residual-in_err-member-in-Choice.ensures.1 in
    rw (p.1, p.2, u.is, view-Choice u.disc u.cases u.fallback) (elim answer [
      | inl refused ↦ inl (choice_refused (desc_view u.disc.value) (branches_of (map case_view u.cases.items)) (fallback_view u.fallback)
          c.args.input.now middle label e read refused)
      | inr memory ↦ inr memory
    ])

pub build-returns-in_ok-member-in-Choice-2 : goal.build-returns-in_ok-member-in-Choice-2
build-returns-in_ok-member-in-Choice-2 g t c =
    let u = c.in-Choice in
    let label = c.in_ok-label-in-Choice.label in
    let middle = c.read_label.new.input in
    let other = fields_at (fallback_view u.fallback) in
    let member = c.in_ok-member-in-Choice-2.member in
    let same : to_z w128 (of_z w128 label) ≡ label = grind (arith, to_z-of_z) in
    let read : label_at (desc_view u.disc.value) c.args.input.now ≡ Ok (label, middle) = rw c.deref-in-Choice.ensures at c.in_ok-label-in-Choice.ensures in
    let passed : (branches_at (branches_of (map case_view u.cases.items)) other label middle ≡ other middle) × (c.build_case.new.input ≡ middle)
    = rw (same, c.deref-in-Choice-2.ensures.value) at (value_absent middle c.build_case.new.input _ _ c.in_ok-member-in-Choice.field-0 c.in_default-2.is
    (c.in_ok-member-in-Choice.ensures other)) in
    let default : other middle ≡ Ok (one_or_none member, c.build_fallback.new.input) = rw passed.1 at c.in_ok-member-in-Choice-2.ensures in
    let made = rw same at c.choice-in-Choice.ensures in
    rw (u.is, view-Choice u.disc u.cases u.fallback) (choice_follows label (one_or_none member) c.choice-in-Choice.result c.build_fallback.new.input
    (decode_at (choice (desc_view u.disc.value) (branches_of (map case_view u.cases.items)) (fallback_view u.fallback)) c.args.input.now) made
    (choice_read (desc_view u.disc.value) (branches_of (map case_view u.cases.items)) (fallback_view u.fallback) c.args.input.now middle
    c.build_fallback.new.input label (one_or_none member) read (passed.0 ∙ default)))

pub build_items-returns : goal.build_items-returns
build_items-returns g t c =
    rw (bounded_is (decode_at (desc_view c.args.item.now)) c.args.bound c.in_ok-count.count c.args.input.now c.read_bounded_count.new.self
    c.in_ok-count.ensures.value) c.build_counted.ensures

pub build_row-returns : goal.build_row-returns
build_row-returns g t c =
    rw (row_is (decode_at (desc_view c.args.item.now)) c.args.n c.args.input.now c.in_ok-count.ensures.ok.1)
    (rw c.in_ok-count.ensures.ok.0 at c.build_counted.ensures)

pub build-returns-in_ok-build_members-in-Members : goal.build-returns-in_ok-build_members-in-Members
unfolding decode_at
build-returns-in_ok-build_members-in-Members g t c =
    let read = rw c.deref.ensures.value at c.in_ok-build_members-in-Members.ensures in
    rw (c.in-Members.is, view-Members, read, members_view) refl

pub build-returns-in_err-build_members-in-Members : goal.build-returns-in_err-build_members-in-Members
unfolding decode_at
build-returns-in_err-build_members-in-Members g t c =
    let p = err_from_is_err_and c.from_residual.result c.from_residual.ensures.1 in
    let refused = rw c.deref.ensures.value at c.in_err-build_members-in-Members.ensures in
    rw (p.1, p.2, c.in-Members.is, view-Members) (elim refused [
      | inl refused ↦ inl (rw refused refl)
      | inr memory ↦ inr memory
    ])

pub build-returns-in_ok-build_items-in-Items : goal.build-returns-in_ok-build_items-in-Items
unfolding decode_at
build-returns-in_ok-build_items-in-Items g t c =
    let read = rw c.deref-in-Items.ensures at c.in_ok-build_items-in-Items.ensures in
    rw (c.in-Items.is, view-Items, read, items_view) refl

pub build-returns-in_ok-build_row-in-Row : goal.build-returns-in_ok-build_row-in-Row
unfolding decode_at
build-returns-in_ok-build_row-in-Row g t c =
    let read = rw c.deref-in-Row.ensures at c.in_ok-build_row-in-Row.ensures in
    rw (c.in-Row.is, view-Row, read, row_view) refl

pub build-returns-in_default : goal.build-returns-in_default
build-returns-in_default g t c = c.build_leaf.ensures
