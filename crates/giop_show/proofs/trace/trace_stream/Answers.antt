use Rattle.std.proofs.Common.{◌≡◌, true, false, ap, ◌∙◌}
use Rattle.giop_show.specs.Trace.Text.{is_alone}
use Rattle.giop_show.proofs.TraceLemmas.{all_unheard, both_written, client_written, on_ok}
use Rattle.giop_show.proofs.trace.trace_stream.Goals as goal

pub returns-in-Client-clause-text : goal.returns-in-Client-clause-text
returns-in-Client-clause-text g c =
    let begun = c.in_ok-tracing.ensures in
    let told = c.in_ok-hear_client-in-Client.ensures in
    let alone : c.in_ok-tracing.tracing.observer.alone ≡ true = begun.alone ∙ ap is_alone c.in-Client.is in
    let text = rw (begun.client, begun.form, begun.calls) at told.text in
    let waits = rw (told.same.form ∙ begun.form, told.same.alone ∙ alone) at c.in_ok-write_open-in-Client.ensures in
    rw c.in-Client.is
    (on_ok c.write_end.result c.write_end.ensures.text c.write_end.ensures.text
    (λ end again messages rest are.
    client_written c.args.form c.args.interface.now c.args.limit _ _ _ _ _ _ _ messages rest
    (text messages rest (all_unheard c.args.limit c.in_ok-tracing.tracing.client.framer _ messages rest begun.unread.0 are)) waits end))

pub returns-clause-text : goal.returns-clause-text
returns-clause-text g c =
    let begun = c.in_ok-tracing.ensures in
    let told = c.in_ok-hear_both-in-Both.ensures in
    let alone : c.in_ok-tracing.tracing.observer.alone ≡ false = begun.alone ∙ ap is_alone c.in-Both.is in
    let text = rw (begun.client, begun.form, begun.calls, begun.held) at told.text in
    let waits = rw (told.same.form ∙ begun.form, told.same.alone ∙ alone) at c.in_ok-write_open-in-Both.ensures in
    rw c.in-Both.is
    (λ asked answered rest left_over are others.
    both_written c.args.form c.args.interface.now c.args.limit _ _ _ _ _ _ _ _ _ _ asked answered rest left_over
    (text asked answered rest left_over (all_unheard c.args.limit c.in_ok-tracing.tracing.client.framer _ asked rest begun.unread.0 are)
    (all_unheard c.args.limit c.in_ok-tracing.tracing.server.framer _ answered left_over begun.unread.1 others))
    waits c.in_ok-client-in-Both.ensures.text c.in_ok-server-in-Both.ensures.text)
