use Rattle.std.proofs.Common.{refl, arith}
use Rattle.std.specs.Str.{chars}
use Rattle.giop_names.specs.Old.{has_old_parts, items_old, members_old}
use Rattle.giop_names.specs.declared.scope.Scope.TheVariants.{Elsewhere}
use Rattle.laws_in_use.specs.InJson.{coin_told}
use Rattle.laws_in_use.proofs.named.a_description_without_names.Goals as goal

pub returns-clause-old : goal.returns-clause-old
unfolding chars has_old_parts items_old members_old
returns-clause-old c = refl

pub returns-clause-nested : goal.returns-clause-nested
returns-clause-nested c = omega arith

pub returns-clause-stays : goal.returns-clause-stays
returns-clause-stays c = λ types room.
    c.old_files_stay.ensures.part 6 types room Elsewhere coin_told refl (returns-clause-old c) (returns-clause-nested c)

pub returns-clause-other : goal.returns-clause-other
unfolding chars has_old_parts items_old members_old
returns-clause-other c = refl
