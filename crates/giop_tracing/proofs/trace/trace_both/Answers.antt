use Rattle.std.proofs.Common.{◌∙◌}
use Rattle.giop_tracing.proofs.TraceLemmas.{all_unheard, both_written}
use Rattle.giop_tracing.proofs.trace.trace_both.Goals as goal

pub returns-clause-text : goal.returns-clause-text
returns-clause-text g c =
    let begun = c.requires in
    let told = c.in_ok-hear_both.ensures in
    let limit = c.args.tracing.now.client.framer.limit in
    let text = rw (begun.calls, begun.held) at told.text in
    let waits = rw (told.same.form, told.same.alone ∙ begun.alone) at c.in_ok-write_open.ensures in
    λ asked answered rest left_over are others.
    both_written c.args.tracing.now.form c.args.interface.now limit _ _ _ _ _ _ _ _ _ _ asked answered rest left_over
    (text asked answered rest left_over (all_unheard limit c.args.tracing.now.client.framer _ asked rest begun.client are)
    (all_unheard limit c.args.tracing.now.server.framer _ answered left_over begun.server others))
    waits (rw told.same.form at c.in_ok-client.ensures.text) (rw told.same.form at c.in_ok-server.ensures.text)
