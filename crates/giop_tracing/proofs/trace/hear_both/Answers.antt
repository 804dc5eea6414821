use Rattle.std.proofs.Common.{◌≡◌, false, refl, ◌∙◌}
use Rattle.giop_trace.specs.declared.direction.Direction.TheVariants.{Client}
use Rattle.giop_trace.specs.Observing.{left}
use Rattle.giop_tracing.proofs.TraceLemmas.{both_message, hears_both, on_ok}
use Rattle.giop_tracing.proofs.trace.hear_both.Goals as goal

pub returns-in_default-clause-text : goal.returns-in_default-clause-text
returns-in_default-clause-text g c =
    let before = c.messages.invariant in
    let next = c.in_ok-message.ensures in
    let form = c.args.tracing.now.form in
    let interface = c.args.interface.now in
    let flows = c.messages.tracing.observer.calls.entries in
    let last = rw (c.in_default.is, before.same.client_limit) at next.last in
    let limit : c.messages.tracing.server.framer.limit ≡ c.args.tracing.now.client.framer.limit = before.same.server_limit ∙ c.requires.limit in
    on_ok c.hear_server.result c.hear_server.ensures.text c.hear_server.ensures.last
    (λ text ends asked answered rest left_over are others.
    let along = before.along asked answered rest left_over are others in
    let hears = rw (limit, before.same.form) at text in
    rw c.hear_server.ensures.client
    (hears_both form interface c.args.tracing.now.client.framer.limit _ flows _ _ _ _ _ _ _ _ _ _ _ _ _ _ _ _ _ _ _ along last next.text
    (hears along.later_answered left_over along.server_unheard)
    ((rw limit at ends) refl along.later_answered left_over along.server_unheard)))

pub messages-preserved : goal.messages-preserved
messages-preserved g c =
    let before = c.messages.invariant in
    let told = c.in_ok-tell.ensures in
    let next = c.in_ok-message.ensures in
    let turn = c.in_ok-hear_server.ensures in
    let form = c.args.tracing.now.form in
    let interface = c.args.interface.now in
    let m = c.in-Some.message.message in
    let flows = c.messages.tracing.observer.calls.entries in
    let alone : c.messages.tracing.observer.alone ≡ false = before.same.alone ∙ c.requires.alone in
    let calls : c.tell.new.tracing.observer.calls.entries ≡ left false flows Client m = rw alone at told.calls in
    let text = rw (before.same.form, alone) at told.text in
    let found = rw (c.in-Some.is, before.same.client_limit) at next.found in
    let limit : c.messages.tracing.server.framer.limit ≡ c.args.tracing.now.client.framer.limit = before.same.server_limit ∙ c.requires.limit in
    let hears = rw (told.server, limit, told.held, told.same.form ∙ before.same.form, calls) at turn.text in
    record {
      same = record {
        form = turn.same.form ∙ told.same.form ∙ before.same.form;
        alone = turn.same.alone ∙ told.same.alone ∙ before.same.alone;
        client_limit = turn.same.client_limit ∙ told.same.client_limit ∙ next.limit ∙ before.same.client_limit;
        server_limit = turn.same.server_limit ∙ told.same.server_limit ∙ before.same.server_limit;
      };
      along = λ asked answered rest left_over are others.
          let along = before.along asked answered rest left_over are others in
          rw (turn.client, told.client)
          (both_message form interface _ _ flows _ _ _ _ _ _ _ _ _ _ _ _ _ _ _ _ m along (found along.later_asked rest along.client_unheard) next.text text
          (hears along.later_answered left_over along.server_unheard));
    }
