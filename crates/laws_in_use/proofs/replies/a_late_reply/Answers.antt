use Rattle.std.proofs.Common.{refl}
use Rattle.laws_in_use.specs.ClientCalls.{cancelled, cancelled_and_again}
use Rattle.laws_in_use.proofs.replies.a_late_reply.Goals as goal

pub returns-clause-accepted : goal.returns-clause-accepted
returns-clause-accepted c = (refl, (refl, (refl, (refl, (refl, (refl, (refl, (refl, (refl, (refl, tt))))))))))

pub returns-clause-seen : goal.returns-clause-seen
returns-clause-seen c = c.client_entry_stands.ensures.value cancelled (refl, (refl, (refl, (refl, tt))))

pub returns-clause-entry : goal.returns-clause-entry
returns-clause-entry c = c.client_entry_stands.ensures.value cancelled_and_again (returns-clause-accepted c)
