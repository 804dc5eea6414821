use Rattle.std.proofs.Common.{◌≡◌, true, ap, sym, ◌∙◌}
use Rattle.giop_trace.specs.declared.direction.Direction.TheVariants.{Client}
use Rattle.giop_trace.specs.Observing.{heard, left}
use Rattle.giop_tracing.specs.Trace.Text.{behind, client_turn, heard_lines}
use Rattle.giop_tracing.proofs.TraceLemmas.{along_message}
use Rattle.giop_tracing.proofs.trace.hear_client.Goals as goal

pub messages-preserved : goal.messages-preserved
messages-preserved g c =
    let before = c.messages.invariant in
    let told = c.in_ok-tell.ensures in
    let next = c.in_ok-message.ensures in
    let form = c.args.tracing.now.form in
    let interface = c.args.interface.now in
    let m = c.in-Some.message.message in
    let flows = c.messages.tracing.observer.calls.entries in
    let alone : c.messages.tracing.observer.alone ≡ true = before.same.alone ∙ c.requires in
    let calls : c.tell.new.tracing.observer.calls.entries ≡ left true flows Client m = rw alone at told.calls in
    let text = rw (before.same.form, alone) at told.text in
    let found = rw (c.in-Some.is, before.same.client_limit) at next.found in
    record {
      same = record {
        form = told.same.form ∙ before.same.form;
        alone = told.same.alone ∙ before.same.alone;
        client_limit = told.same.client_limit ∙ next.limit ∙ before.same.client_limit;
        server_limit = told.same.server_limit ∙ before.same.server_limit;
      };
      along = λ messages rest are.
          let along = before.along messages rest are in
          rw told.client
          (along_message (client_turn form interface) _ _ _ _ _ _ _ _ _ _ _ _ _ m (heard_lines form interface true (heard true flows Client m)) along
          (found along.later rest along.unheard)
          (λ ms. ap (λ f. behind (heard_lines form interface true (heard true flows Client m)) (client_turn form interface f ms)) (sym calls))
          next.text text);
    }
