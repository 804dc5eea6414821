use Rattle.std.proofs.Common.{◌≡◌, None, List}
use Rattle.giop_asked_calls.specs.declared.calls.CallLine.{CallLine}
use Rattle.giop_commands.specs.Session.Acts.{outbox}
use Rattle.giop_calling.specs.Call.Calling.{asked_of}
use Rattle.giop_calling.specs.Call.Streaming.{MakesOne}
use Rattle.giop_commands.proofs.OnSession.StepLemmas.{Before}
use Rattle.giop_calling.proofs.call.streaming.turns.make_calls.Given as goal

abbrev pub invariant-calls : goal.invariant-calls
invariant-calls l = record {
  made :
      (all : List CallLine) → Before (λ call s t. MakesOne (asked_of l.calling all) l.fn.end.fault call s None t) l.fn.left.items l.left.items
      (outbox l.fn.end.calls l.fn.end.outgoing) (outbox l.end.calls l.end.outgoing);
  others : l.end ≡ record l.fn.end { calls = l.end.calls; outgoing = l.end.outgoing };
}
