use Rattle.std.proofs.Common.{sym, ◌∙◌}
use Rattle.giop_calling.proofs.OnCall.PrintedLemmas.{converses_by}
use Rattle.giop_calling.proofs.call.converse.Goals as goal

pub returns-clause-converses : goal.returns-clause-converses
returns-clause-converses g c =
    let ids = c.as_slice-2.ensures.value ∙ c.in_ok-ids.ensures in
    let over = rw (c.as_slice.ensures.value, ← c.as_slice-2.ensures.value) at (sym c.are_over.ensures ∙ c.if-are_over.false) in
    converses_by c.args.end.now.interface.now _ _ c.as_slice-2.result.now c.wait.result ids over c.wait.ensures.waits
