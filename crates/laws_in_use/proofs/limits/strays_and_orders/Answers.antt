use Rattle.std.proofs.Common.{[], None, Some, refl}
use Rattle.giop_cdr.specs.declared.order.Order.TheVariants.{Big, Little}
use Rattle.giop_frag.specs.declared.fault.GatherFault.TheVariants.{OrderDiffers}
use Rattle.giop_frag.specs.Runs.{Adds}
use Rattle.laws_in_use.specs.Gathering.{begun}
use Rattle.laws_in_use.proofs.limits.strays_and_orders.Goals as goal

pub returns-clause-stray : goal.returns-clause-stray
returns-clause-stray c = (c.strays_have_nothing_gathered.ensures.stray None Big).1 refl

pub returns-clause-no_stray : goal.returns-clause-no_stray
returns-clause-no_stray c = λ stray.
    let nothing = (c.strays_have_nothing_gathered.ensures.stray (Some begun) Little).0 stray in absurd cc

pub returns-clause-differs : goal.returns-clause-differs
returns-clause-differs c = (c.strays_have_nothing_gathered.ensures.differs begun Little).1 (λ same. absurd cc)

pub returns-clause-own : goal.returns-clause-own
returns-clause-own c =
    (c.own_faults_are_of_ids.ensures OrderDiffers).1 (Some begun, Adds Little [], refl)

pub returns-clause-is_met : goal.returns-clause-is_met
returns-clause-is_met c = λ fault own. (c.own_faults_are_of_ids.ensures fault).0 own
