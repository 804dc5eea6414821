use Rattle.std.proofs.Common.{◌≡◌, None, length}
use Rattle.std.specs.Vec.Iter.{into_iter_items, into_iter_len}
use Rattle.giop_commands.specs.Session.Acts.{outbox}
use Rattle.giop_calling.specs.Call.Calling.{CallsOne, asked_of}
use Rattle.giop_commands.proofs.OnSession.StepLemmas.{Before}
use Rattle.giop_calling.proofs.call.call_each.Given as goal

abbrev pub invariant-calls : goal.invariant-calls
invariant-calls l =
    record {
      called :
          Before (λ call s t. CallsOne (asked_of l.calling l.fn.calls.items) l.fn.end.fault call s None t) l.fn.calls.items (into_iter_items l.call-iterator)
          (outbox l.fn.end.calls l.fn.end.outgoing) (outbox l.end.calls l.end.outgoing);
      left : into_iter_len l.call-iterator ≡ length (into_iter_items l.call-iterator);
      others : l.end ≡ record l.fn.end { calls = l.end.calls; outgoing = l.end.outgoing };
    }
