use Rattle.std.proofs.Common.{refl, arith, rules}
use Rattle.laws_in_use.specs.Described.{doubled, many}
use Rattle.laws_in_use.proofs.described.two_members_of_one_name.Goals as goal

pub returns-clause-doubled : goal.returns-clause-doubled
returns-clause-doubled c = c.descriptions_are_checked_node_by_node.ensures.first 1 doubled

pub returns-clause-sound : goal.returns-clause-sound
returns-clause-sound c = (c.descriptions_are_checked_node_by_node.ensures.sound many).1 (
  record { shallow = omega arith; filled = refl; discriminated = refl; names_apart = search rules; labels_apart = search rules },
  (record { shallow = omega arith; filled = refl; discriminated = refl; names_apart = search rules; labels_apart = search rules }, tt),
)
