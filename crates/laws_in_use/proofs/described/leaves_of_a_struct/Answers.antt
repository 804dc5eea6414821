use Rattle.std.proofs.Common.{[], ◌∷◌, codes, refl, arith}
use Rattle.giop_types.specs.Descriptions.Full.{is_full}
use Rattle.giop_types.specs.Descriptions.Shape.{ushort}
use Rattle.giop_types.specs.Values.Fits.{fits}
use Rattle.giop_types.specs.Values.Tree.{Trees, no_trees, text_of, tree, ushort_of}
use Rattle.laws_in_use.proofs.described.leaves_of_a_struct.Goals as goal

abbrev name : Trees
name = tree (text_of (codes "hi")) no_trees

pub returns-clause-three : goal.returns-clause-three
unfolding is_full fits
returns-clause-three c =
    let text = (c.leaves_count_every_part.ensures.texts (codes "hi")).0 in
    let number = c.leaves_count_every_part.ensures.some ushort (ushort_of 258) refl refl in
    let rest = c.leaves_count_every_part.ensures.sums (text_of (codes "hi")) no_trees in
    let all = c.leaves_count_every_part.ensures.sums (ushort_of 258) name in
    let parts = (c.leaves_count_every_part.ensures.parts (tree (ushort_of 258) name)).0 in
    omega (arith, text, number, rest, all, parts)

pub returns-clause-octets : goal.returns-clause-octets
returns-clause-octets c = (c.leaves_count_every_part.ensures.octets (1 ∷ 2 ∷ 3 ∷ 4 ∷ [])).0

pub returns-clause-of_union : goal.returns-clause-of_union
returns-clause-of_union c = λ label member four. let more = c.leaves_count_every_part.ensures.discriminants label member in omega (arith, more, four)

pub returns-clause-of_list : goal.returns-clause-of_list
returns-clause-of_list c = λ values four. let more = (c.leaves_count_every_part.ensures.lists values).0 in omega (arith, more, four)
