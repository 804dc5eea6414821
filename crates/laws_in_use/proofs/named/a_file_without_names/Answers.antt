use Rattle.std.proofs.Common.{refl}
use Rattle.std.specs.Str.{chars}
use Rattle.giop_where.specs.Shallow.{items_shallow, members_shallow, shallow}
use Rattle.giop_names.specs.Old.{has_old_parts, items_old, members_old}
use Rattle.laws_in_use.specs.InJson.{adding_told}
use Rattle.laws_in_use.proofs.named.a_file_without_names.Goals as goal

pub returns-clause-lawful : goal.returns-clause-lawful
unfolding chars
returns-clause-lawful c = refl

pub returns-clause-old : goal.returns-clause-old
unfolding chars has_old_parts items_old members_old lib.Utf8.encode
returns-clause-old c = refl

pub returns-clause-shallow : goal.returns-clause-shallow
unfolding shallow items_shallow members_shallow
returns-clause-shallow c = refl

pub returns-clause-stays : goal.returns-clause-stays
returns-clause-stays c =
    c.old_files_stay.ensures.file adding_told (returns-clause-lawful c) (returns-clause-old c) (returns-clause-shallow c)

pub returns-clause-other : goal.returns-clause-other
unfolding chars has_old_parts items_old members_old
returns-clause-other c = refl
