use Rattle.std.proofs.Common.{refl, ◌∙◌, arith}
use Rattle.giop_msg.proofs.FramerLemmas.{HasFront, has_front}
use Rattle.giop_msg.proofs.framer.begun.Begun.begin_judged.Goals as goal

front : (c : goal.In_ok-copied-in-Ok) → HasFront c.args.limit c.args.octets.now c.in-Ok.header c.in_ok-copied-in-Ok.field-0.items
front c =
    let parts = c.in-Some.ensures.cases in
    has_front _ _ _ _ _ (λ i. (c.type_inv.octets i).fits) (omega arith) parts.0 (c.in_ok-copied-in-Ok.ensures ∙ parts.1)
    c.in-Ok.ensures.ok.0 c.in-Ok.ensures.ok.1

pub returns-in_ok-copied-in-Ok-clause-octets : goal.returns-in_ok-copied-in-Ok-clause-octets
returns-in_ok-copied-in-Ok-clause-octets c = (front c).octets_are

pub returns-in_ok-copied-in-Ok-clause-before : goal.returns-in_ok-copied-in-Ok-clause-before
returns-in_ok-copied-in-Ok-clause-before c = record {
  sized = omega arith;
  sound = (front c).sound;
  within = rw c.in_ok-copied-in-Ok.ensures (omega arith);
  last = λ _. refl;
}
