use Rattle.std.proofs.Common.{◌≡◌, ◌⊎◌, inl, inr, ◌++◌, ◌∷◌, [], Err, arith}
use Rattle.giop_cdr.specs.Reading.{items_at}
use Rattle.giop_cdr.proofs.ItemLoops.{goes_on, ends, is_done}
use Rattle.std.proofs.lemmas.Grind.{common_steps}
use Rattle.std.proofs.lemmas.Result.{err_from_is_err_and}
use Rattle.giop_msg.specs.RequestHead.{context_at}
use Rattle.giop_msg.proofs.request_head.read_counted.Goals as goal

pub returns-in_err-context : goal.returns-in_err-context
returns-in_err-context g c =
    let p = err_from_is_err_and c.from_residual.result c.from_residual.ensures.1 in
    rw (p.1, p.2) (elim c.in_err-context.ensures [
      | inl refused ↦ inl (ends context_at c.loop.contexts.items c.args.count c.loop.counter c.loop.input c.in_err-context.field-0.0
          (items_at context_at c.args.count c.args.input.now) c.loop-test.true refused c.loop.invariant)
      | inr memory ↦ inr memory
    ])

pub loop-preserved : goal.loop-preserved
loop-preserved g c =
    let pushed : c.push.new.self.items ≡ c.loop.contexts.items ++ c.in_ok-context.context ∷ [] = grind (arith, common_steps) in
    rw pushed (goes_on context_at c.loop.contexts.items c.args.count c.loop.counter c.loop.input c.in_ok-context.context c.read_context.new.input
    (items_at context_at c.args.count c.args.input.now) c.loop-test.true c.in_ok-context.ensures c.loop.invariant)

pub returns : goal.returns
returns g c = is_done context_at c.loop.contexts.items c.args.count c.loop.counter c.loop.input (items_at context_at c.args.count c.args.input.now)
    c.loop-test.false c.loop.invariant
