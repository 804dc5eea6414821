use Rattle.std.proofs.Common.{◌∙◌}
use Rattle.giop_tracing.proofs.TraceLemmas.{all_unheard, client_written, on_ok}
use Rattle.giop_tracing.proofs.trace.trace_client.Goals as goal

pub returns-clause-text : goal.returns-clause-text
returns-clause-text g c =
    let begun = c.requires in
    let told = c.in_ok-hear_client.ensures in
    let limit = c.args.tracing.now.client.framer.limit in
    let text = rw begun.calls at told.text in
    let waits = rw (told.same.form, told.same.alone ∙ begun.alone) at c.in_ok-write_open.ensures in
    on_ok c.write_end.result c.write_end.ensures.text c.write_end.ensures.text
    (λ end again messages rest are.
    client_written c.args.tracing.now.form c.args.interface.now limit _ _ _ _ _ _ _ messages rest
    (text messages rest (all_unheard limit c.args.tracing.now.client.framer _ messages rest begun.client are)) waits
    (rw told.same.form at end))
