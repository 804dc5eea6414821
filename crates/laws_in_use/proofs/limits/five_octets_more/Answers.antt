use Rattle.std.proofs.Common.{◌≡◌, Some, ap, arith}
use Rattle.std.specs.FinMap as finite
use Rattle.giop_cdr.specs.declared.order.Order.TheVariants.{Big, Little}
use Rattle.giop_frag.specs.declared.fault.GatherFault.TheVariants.{OrderDiffers}
use Rattle.giop_frag.specs.Gathered.{order_fault}
use Rattle.giop_ids.proofs.Puts.{get-put}
use Rattle.laws_in_use.specs.Gathering.{begun, none, one_begun}
use Rattle.laws_in_use.proofs.GatheringRuns.{total_one}
use Rattle.laws_in_use.proofs.limits.five_octets_more.Goals as goal

seven : finite.get one_begun 7 ≡ Some begun
seven = get-put none 7 (Some begun) 7

pub returns-clause-five : goal.returns-clause-five
returns-clause-five c =
    let three = total_one in (c.limits_let_through_what_fits.ensures.begun (record { limit = 8; blocks = 1; lists = one_begun }) 5).1 (omega arith)

pub returns-clause-six : goal.returns-clause-six
returns-clause-six c = λ room.
    let three = total_one in
    let fits = (c.limits_let_through_what_fits.ensures.begun (record { limit = 8; blocks = 1; lists = one_begun }) 6).0 room in
    absurd (omega arith)

pub returns-clause-joined : goal.returns-clause-joined
returns-clause-joined c =
    let three = total_one in
    (c.limits_let_through_what_fits.ensures.added (record { limit = 8; blocks = 1; lists = one_begun }) 7 5 Big
    (ap (λ held. order_fault held Big) seven)).1 (omega arith)

pub returns-clause-other_order : goal.returns-clause-other_order
returns-clause-other_order c =
    c.limits_let_through_what_fits.ensures.own_first (record { limit = 8; blocks = 1; lists = one_begun }) 7 6 Little OrderDiffers
    (ap (λ held. order_fault held Little) seven)
