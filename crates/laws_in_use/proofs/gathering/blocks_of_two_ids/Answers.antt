use Rattle.std.proofs.Common.{◌≡◌, ◌/◌, length, Some, ap, arith}
use Rattle.std.specs.FinMap as finite
use Rattle.std.specs.FinMap.{len-empty}
use Rattle.std.specs.Ordering.{nat_cmp}
use Rattle.giop_ids.specs.ById.{weight_in}
use Rattle.giop_ids.proofs.Sums.{sum_empty, sum_put}
use Rattle.giop_frag.specs.declared.fault.GatherFault.TheVariants.{NoMemory, Stray}
use Rattle.giop_frag.specs.Gathered.{Pieces, blocks_for, blocks_of, total_of}
use Rattle.giop_ids.proofs.Puts.{len-put_new}
use Rattle.laws_in_use.specs.Gathering.{begun, none, one_begun}
use Rattle.laws_in_use.proofs.GatheringRuns.{none_at, total_one}
use Rattle.laws_in_use.proofs.gathering.blocks_of_two_ids.Goals as goal

pub returns-clause-one : goal.returns-clause-one
returns-clause-one c =
    let need = c.blocks_stay_within.ensures.need one_begun in
    let small : total_of one_begun / 512 ≡ 0 = ap (λ total. total / 512) total_one in
    let ids = len-put_new none 7 begun (none_at 7) in
    omega (arith, need, small, ids, len-empty nat_cmp Pieces)

pub returns-clause-three : goal.returns-clause-three
returns-clause-three c = λ m total ids. c.blocks_stay_within.ensures.kept 600 2 2 m total ids (omega arith)

pub returns-clause-memory : goal.returns-clause-memory
returns-clause-memory c =
    let put = sum_put (λ (pieces : Pieces). blocks_for (length pieces.octets)) none 7 (Some begun) in
    let was : weight_in (λ (pieces : Pieces). blocks_for (length pieces.octets)) (finite.get none 7) ≡ 0 =
    ap (weight_in (λ pieces. blocks_for (length pieces.octets))) (none_at 7) in
    let one : blocks_of one_begun ≡ 1 = omega (arith, put, was, sum_empty (λ (pieces : Pieces). blocks_for (length pieces.octets))) in
    (omega arith, rw one (omega arith))

pub returns-clause-refused : goal.returns-clause-refused
returns-clause-refused c = λ blocks after. (c.blocks_stay_within.ensures.refused Stray 2 blocks one_begun after).2 (λ (is : Stray ≡ NoMemory). absurd cc)
