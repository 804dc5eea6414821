use Rattle.std.proofs.Common.{◌≡◌, ◌+◌, cond, Some, is_some, ap, ◌∙◌, arith}
use Rattle.std.specs.Cmp.{nat_cmp_total}
use Rattle.std.specs.Ordering.{nat_cmp}
use Rattle.std.specs.FinMap as finite
use Rattle.std.specs.FinMap.{len-empty, len-insert}
use Rattle.giop_ids.specs.ById.{put}
use Rattle.laws_in_use.specs.declared.doors.Door.{Door}
use Rattle.laws_in_use.specs.declared.doors.Door.TheVariants.{Shut}
use Rattle.laws_in_use.specs.Doors.{doors}
use Rattle.laws_in_use.proofs.limits.room_for_a_door.Goals as goal

none : finite.len doors ≡ 0
none = len-empty nat_cmp Door

-- with a door there is one
one_door : finite.len (put doors 7 (Some Shut)) ≡ 1
one_door = len-insert nat_cmp_total doors 7 Shut
    ∙ ap (λ held. cond (is_some held) (finite.len doors) (finite.len doors + 1)) (finite.get-empty nat_cmp 7)
    ∙ ap (λ n. n + 1) none

pub returns-clause-one : goal.returns-clause-one
returns-clause-one c =
    let size = one_door in let had = none in
    (c.limits_let_in_what_fits.ensures doors 1 7 (Some Shut) (omega arith)).1 (omega arith)

pub returns-clause-none : goal.returns-clause-none
returns-clause-none c = λ room.
    let size = one_door in let had = none in
    let fits = (c.limits_let_in_what_fits.ensures doors 0 7 (Some Shut) (omega arith)).0 room in
    absurd (omega arith)
