use Rattle.std.proofs.Common.{sym, ◌∙◌, arith}
use Rattle.giop_types.proofs.Values.SameLemmas.{are_same, pair_differs, pair_same, pairs_end, lengths_differ}
use Rattle.giop_types.proofs.same.+same.Goals as goal

pub are_same-returns-then-one-other : goal.are_same-returns-then-one-other
are_same-returns-then-one-other t c = sym (lengths_differ c.args.one.now c.args.other.now c.if-one-other.true)

pub are_same-returns-then-not-is_same : goal.are_same-returns-then-not-is_same
are_same-returns-then-not-is_same t c =
    let l = c.loop-i.invariant in
    pair_differs c.args.one.now c.args.other.now c.loop-i.i c.index-one-i.result c.index-other-i.result (are_same c.args.one.now c.args.other.now)
    c.loop-i-test.true l.as_many c.index-one-i.is c.index-other-i.is
    (sym c.is_same.ensures ∙ c.if-not-is_same.true) l.so_far

pub are_same-loop-i-preserved : goal.are_same-loop-i-preserved
are_same-loop-i-preserved t c =
    let l = c.loop-i.invariant in
    record {
      so_far = pair_same c.args.one.now c.args.other.now c.loop-i.i c.index-one-i.result c.index-other-i.result (are_same c.args.one.now c.args.other.now)
          c.loop-i-test.true l.as_many c.index-one-i.is c.index-other-i.is
          (sym c.is_same.ensures ∙ c.if-not-is_same.false) l.so_far;
      as_many = l.as_many;
    }

pub are_same-returns : goal.are_same-returns
are_same-returns t c =
    sym (pairs_end c.args.one.now c.args.other.now c.loop-i.i c.loop-i-test.false (omega (arith, c.loop-i.invariant.as_many))) ∙ c.loop-i.invariant.so_far
