use Rattle.std.proofs.Common.{sym}
use Rattle.giop_trace.proofs.StrayLemmas.{stray_left}
use Rattle.giop_trace.proofs.observer.Observer.hear_any.Goals as goal

pub returns-then-is_stray-clause-ok : goal.returns-then-is_stray-clause-ok
returns-then-is_stray-clause-ok c =
    stray_left c.args.self.now.alone c.args.self.now.calls.entries c.args.direction c.args.message c.args.id c.requires.named (sym c.if-is_stray.ensures)
