use Rattle.std.proofs.Common.{refl}
use Rattle.laws_in_use.specs.ServerCalls.{cancelled_and_again}
use Rattle.laws_in_use.proofs.calls.an_id_used_again.Goals as goal

pub returns-clause-accepted : goal.returns-clause-accepted
returns-clause-accepted c = (refl, (refl, (refl, (refl, (refl, (refl, (refl, (refl, (refl, (refl, tt))))))))))

pub returns-clause-entry : goal.returns-clause-entry
returns-clause-entry c = c.server_entry_stands.ensures.value cancelled_and_again (returns-clause-accepted c)
