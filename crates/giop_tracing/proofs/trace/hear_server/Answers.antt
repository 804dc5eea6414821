use Rattle.std.proofs.Common.{◌≡◌, ◌&&◌, false, refl, ap, sym, ◌∙◌}
use Rattle.giop_trace.specs.declared.direction.Direction.TheVariants.{Server}
use Rattle.giop_trace.specs.Observing.{heard, is_early, left}
use Rattle.giop_tracing.specs.Trace.Text.{behind, heard_lines, server_turn}
use Rattle.giop_tracing.proofs.TraceLemmas.{along_message}
use Rattle.giop_tracing.proofs.trace.hear_server.Goals.{else-waits-via-then-waits+else-is_early, else-waits-via-else-waits}
use Rattle.giop_tracing.proofs.trace.hear_server.Goals as goal

pub messages-preserved : goal.messages-preserved
messages-preserved g c =
    let before = c.messages.invariant in
    let told = c.in_ok-tell.ensures in
    let next = c.in_ok-message.ensures in
    let form = c.args.tracing.now.form in
    let interface = c.args.interface.now in
    let waits = c.args.waits in
    let m = c.in-Some.message.message in
    let flows = c.messages.tracing.observer.calls.entries in
    let observer = next.observer in
    let alone : c.next_of_server.new.tracing.observer.alone ≡ false = next.same.alone ∙ before.same.alone ∙ c.requires in
    let calls : c.tell.new.tracing.observer.calls.entries ≡ left false flows Server m = rw observer at (rw alone at told.calls) in
    let text = rw observer at (rw (next.same.form ∙ before.same.form, alone) at told.text) in
    let found = rw (c.in-Some.is, before.same.server_limit) at next.found in
    let on : waits && is_early flows m ≡ false =
    elim c.else-waits.branch [
      | else-waits-via-then-waits+else-is_early w ↦ rw (w.if-waits.true, ← ap (λ o. is_early o.calls.entries m) observer)
          (sym w.is_early.ensures ∙ w.if-is_early.false)
      | else-waits-via-else-waits w ↦ rw w.if-waits.false refl
    ]
    in
    record {
      client = told.client ∙ next.client ∙ before.client;
      same = record {
        form = told.same.form ∙ next.same.form ∙ before.same.form;
        alone = told.same.alone ∙ next.same.alone ∙ before.same.alone;
        client_limit = told.same.client_limit ∙ next.same.client_limit ∙ before.same.client_limit;
        server_limit = told.same.server_limit ∙ next.same.server_limit ∙ before.same.server_limit;
      };
      along = λ messages rest are.
          let along = before.along messages rest are in
          rw (told.server, told.held, next.held)
          (along_message (server_turn form interface waits) _ _ _ _ _ _ _ _ _ _ _ _ _ m (heard_lines form interface false (heard false flows Server m)) along
          (found along.later rest along.unheard)
          (λ ms. rw on (ap (λ f. behind (heard_lines form interface false (heard false flows Server m)) (server_turn form interface waits f ms)) (sym calls)))
          next.text text);
    }
