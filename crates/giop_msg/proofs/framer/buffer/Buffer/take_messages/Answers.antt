use Rattle.std.proofs.Common.{subst, arith}
use Rattle.giop_msg.specs.Stream.{TakesMessage}
use Rattle.giop_msg.proofs.FramerLemmas.{taken_none, taken_more, takes_fewer}
use Rattle.std.proofs.lemmas.Grind.{common_steps}
use Rattle.giop_msg.proofs.framer.buffer.Buffer.take_messages.Goals as goal

pub loop-found-init : goal.loop-found-init
loop-found-init c = taken_none _ _

pub loop-found-smaller : goal.loop-found-smaller
loop-found-smaller c =
    takes_fewer _ _ c.in-Some.message (subst (λ unread. TakesMessage unread c.in-Some.message c.pass.new.self) c.self.view_is c.pass.ensures)

pub loop-found-preserved : goal.loop-found-preserved
loop-found-preserved c =
    let takes = subst (λ unread. TakesMessage unread c.in-Some.message c.pass.new.self) c.self.view_is c.pass.ensures in
    rw (c.push.ensures.items, c.unwrap.ensures, c.reserve.ensures.items) (taken_more _ _ _ _ _ _ c.loop-found.invariant takes)

pub returns-in_err-found-clause-found : goal.returns-in_err-found-clause-found
returns-in_err-found-clause-found c = grind (arith, common_steps)

pub returns-in_err-found-clause-ok : goal.returns-in_err-found-clause-ok
returns-in_err-found-clause-ok c = grind (arith, common_steps)

pub returns-in_err-found-clause-err : goal.returns-in_err-found-clause-err
returns-in_err-found-clause-err c = grind (arith, common_steps)

pub returns-in_default-clause-found : goal.returns-in_default-clause-found
returns-in_default-clause-found c = grind (arith, common_steps)

pub returns-in_default-clause-ok : goal.returns-in_default-clause-ok
returns-in_default-clause-ok c = grind (arith, common_steps)

pub returns-in_default-clause-err : goal.returns-in_default-clause-err
returns-in_default-clause-err c = grind (arith, common_steps)

pub returns-in_err-reserve-clause-found : goal.returns-in_err-reserve-clause-found
returns-in_err-reserve-clause-found c = grind (arith, common_steps)

pub returns-in_err-reserve-clause-ok : goal.returns-in_err-reserve-clause-ok
returns-in_err-reserve-clause-ok c = grind (arith, common_steps)

pub returns-in_err-reserve-clause-err : goal.returns-in_err-reserve-clause-err
returns-in_err-reserve-clause-err c = grind (arith, common_steps)
