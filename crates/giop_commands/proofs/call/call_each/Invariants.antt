use Rattle.std.proofs.Common.{◌≡◌, None, length}
use Rattle.std.specs.Vec.Iter.{into_iter_items, into_iter_len}
use Rattle.giop_commands.specs.Acts.{outbox}
use Rattle.giop_commands.specs.Calling.{Asked, CallsOne}
use Rattle.giop_commands.proofs.StepLemmas.{Before}
use Rattle.giop_commands.proofs.call.call_each.Given as goal

abbrev pub invariant-calls : goal.invariant-calls
invariant-calls l =
    let asked : Asked = record {
      interface = l.fn.end.interface.now;
      calls = l.fn.calls.items;
      key = l.key;
      version = l.version;
      form = l.form;
      limits = l.fn.end.limits;
    } in
    record {
      called :
          Before (λ call s t. CallsOne asked l.fn.end.fault call s None t) l.fn.calls.items (into_iter_items l.call-iterator)
          (outbox l.fn.end.calls l.fn.end.outgoing) (outbox l.end.calls l.end.outgoing);
      left : into_iter_len l.call-iterator ≡ length (into_iter_items l.call-iterator);
      others : l.end ≡ record l.fn.end { calls = l.end.calls; outgoing = l.end.outgoing };
    }
