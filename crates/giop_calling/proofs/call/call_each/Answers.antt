use Rattle.std.proofs.Common.{◌≡◌, ◌∷◌, length, refl, sym, ap, ◌∙◌, rules, arith}
use Rattle.std.specs.Vec.Iter.{into_iter_items, into_iter_len}
use Rattle.giop_json.proofs.InterfaceLemmas.{nothing_left}
use Rattle.giop_commands.specs.Session.Acts.{outbox}
use Rattle.giop_calling.specs.Call.Calling.{CallsOne, asked_of}
use Rattle.giop_commands.proofs.OnSession.ActLemmas.{others_on, same_fault, same_interface, same_limits}
use Rattle.giop_commands.proofs.OnSession.StepLemmas.{before_none, before_more, before_all, before_stops}
use Rattle.giop_calling.proofs.call.call_each.Goals as goal

pub calls-init : goal.calls-init
calls-init c =
    let start : into_iter_items c.into_iter-call-iterator.result ≡ c.args.calls.items = search rules in
    let left : into_iter_len c.into_iter-call-iterator.result ≡ length (into_iter_items c.into_iter-call-iterator.result) = search rules in
    record { called = rw start (before_none _ c.args.calls.items _); left = left; others = refl }

pub calls-preserved : goal.calls-preserved
calls-preserved c =
    let fault = same_fault c.args.end.now c.calls.end c.calls.invariant.others in
    let steps : into_iter_items c.calls.call-iterator ≡ c.in-Some.call ∷ into_iter_items c.next.new.self = c.in-Some.ensures.steps.0 in
    record {
      called = before_more _ _ _ _ c.in-Some.call _ (outbox c.calls.end.calls c.calls.end.outgoing) _ steps c.calls.invariant.called
          (rw (c.in_default.is, fault) at c.in_ok-fault.ensures.calls);
      left = let gone = c.in-Some.ensures.steps.1 in let was = c.calls.invariant.left in let short = ap length steps in omega arith;
      others = others_on c.args.end.now c.calls.end c.call_one.new.end c.calls.invariant.others c.call_one.ensures.others;
    }

pub call_one-requires-clause-interface : goal.call_one-requires-clause-interface
call_one-requires-clause-interface c = same_interface c.args.end.now c.calls.end c.calls.invariant.others ∙ c.requires.interface

pub call_one-requires-clause-limits : goal.call_one-requires-clause-limits
call_one-requires-clause-limits c = same_limits c.args.end.now c.calls.end c.calls.invariant.others ∙ c.requires.limits

pub returns-in-Some-2-clause-calls : goal.returns-in-Some-2-clause-calls
returns-in-Some-2-clause-calls c =
    let fault = same_fault c.args.end.now c.calls.end c.calls.invariant.others in
    before_stops _ _ _ _ c.in-Some.call _ (outbox c.calls.end.calls c.calls.end.outgoing) _ c.in-Some-2.fault c.in-Some.ensures.steps.0
    c.calls.invariant.called (rw (c.in-Some-2.is, fault) at c.in_ok-fault.ensures.calls)

pub returns-clause-calls : goal.returns-clause-calls
returns-clause-calls c =
    before_all (CallsOne (asked_of c.args.calling c.args.calls.items) c.args.end.now.fault) _ (into_iter_items c.calls.call-iterator)
    (outbox c.args.end.now.calls c.args.end.now.outgoing) (outbox c.calls.end.calls c.calls.end.outgoing)
    (nothing_left (into_iter_items c.calls.call-iterator) (sym c.calls.invariant.left ∙ c.in-None.ensures.steps.0)) c.calls.invariant.called
