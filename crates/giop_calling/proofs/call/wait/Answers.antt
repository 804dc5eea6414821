use Rattle.std.proofs.Common.{◌≡◌, Err, refl, sym, inl, inr, arith}
use Rattle.std.proofs.lemmas.Result.{err_from_is_err_and}
use Rattle.giop_end.specs.Pumping.{between}
use Rattle.giop_commands.proofs.OnSession.ActLemmas.{turned_on, turned_interface}
use Rattle.giop_commands.proofs.OnSession.StepLemmas.{counted_none, counted_more}
use Rattle.giop_commands.proofs.OnSession.TurnLemmas.{waited}
use Rattle.giop_calling.proofs.call.wait.Goals as goal

pub turns-init : goal.turns-init
turns-init g c = record { waited = counted_none _ _; others = refl }

pub turns-preserved : goal.turns-preserved
turns-preserved g c =
    let interface = turned_interface c.args.end.now c.turns.end c.turns.invariant.others in
    record {
      waited =
          counted_more _ c.turns.done _
          (between (g.R.Read.remaining c.turns.reader) (g.W.Write.contents c.turns.writer) c.turns.end.outgoing c.turns.end.framer c.turns.end.calls
          c.turns.end.fault)
          _ c.turns.invariant.waited (rw (c.if-not-branch.false, interface) at c.in_ok-goes_on.ensures.goes, sym c.if-are_over.ensures);
      others = turned_on c.args.end.now c.turns.end c.goes_on.new.end c.turns.invariant.others c.goes_on.ensures.others;
    }

pub returns-clause-waits : goal.returns-clause-waits
returns-clause-waits g c =
    let done : c.turns.done ≡ 18446744073709551615 = omega arith in
    waited _ _ c.turns.done _
    (between (g.R.Read.remaining c.turns.reader) (g.W.Write.contents c.turns.writer) c.turns.end.outgoing c.turns.end.framer c.turns.end.calls
    c.turns.end.fault)
    _ _ c.turns.invariant.waited (inr (refl, done, refl))

pub returns-then-not-branch-clause-waits : goal.returns-then-not-branch-clause-waits
returns-then-not-branch-clause-waits g c =
    let interface = turned_interface c.args.end.now c.turns.end c.turns.invariant.others in
    waited _ _ c.turns.done _
    (between (g.R.Read.remaining c.turns.reader) (g.W.Write.contents c.turns.writer) c.turns.end.outgoing c.turns.end.framer c.turns.end.calls
    c.turns.end.fault)
    _ _ c.turns.invariant.waited (c.turns-test.true, inl (rw (c.if-not-branch.true, interface) at c.in_ok-goes_on.ensures.goes))

pub returns-then-are_over-clause-waits : goal.returns-then-are_over-clause-waits
returns-then-are_over-clause-waits g c =
    let interface = turned_interface c.args.end.now c.turns.end c.turns.invariant.others in
    waited _ _ c.turns.done _
    (between (g.R.Read.remaining c.turns.reader) (g.W.Write.contents c.turns.writer) c.turns.end.outgoing c.turns.end.framer c.turns.end.calls
    c.turns.end.fault)
    _ _ c.turns.invariant.waited (c.turns-test.true, inr (rw (c.if-not-branch.false, interface) at c.in_ok-goes_on.ensures.goes, sym c.if-are_over.ensures))

pub returns-in_err-goes_on-clause-waits : goal.returns-in_err-goes_on-clause-waits
returns-in_err-goes_on-clause-waits g c =
    let interface = turned_interface c.args.end.now c.turns.end c.turns.invariant.others in
    let failed = err_from_is_err_and c.from_residual.result c.from_residual.ensures.1 in
    rw (failed.1, failed.2)
    (waited _ _ c.turns.done _
    (between (g.R.Read.remaining c.turns.reader) (g.W.Write.contents c.turns.writer) c.turns.end.outgoing c.turns.end.framer c.turns.end.calls
    c.turns.end.fault)
    _ (Err c.in_err-goes_on.field-0.0) c.turns.invariant.waited (inl (c.turns-test.true, rw interface at c.in_err-goes_on.ensures.goes)))
