use Rattle.std.proofs.Common.{◌++◌, ◌∷◌, [], sym, subst, rules, append_assoc}
use Rattle.giop_session.specs.Runs.Driven.{InTurn}
use Rattle.giop_session.proofs.OnRuns.DrivenLemmas.{in_turn_more}
use Rattle.giop_session.proofs.laws.running.take_all.Goals as goal

pub loop-input-preserved : goal.loop-input-preserved
loop-input-preserved g c = record {
  parts = search (rules, append_assoc);
  run = subst (λ answers. InTurn g.D.Driven.is_given c.args.driven.now (c.loop-input.yielded ++ c.in-Some.input ∷ []) answers c.take_input.new.self)
      (sym c.in_ok-push.ensures.items)
      (in_turn_more g.D.Driven.is_given c.args.driven.now c.loop-input.driven c.take_input.new.self c.loop-input.yielded
      c.in-Some.input c.loop-input.answers.items c.in_ok-take_input.field-0 c.loop-input.invariant.run c.in_ok-take_input.ensures);
}
