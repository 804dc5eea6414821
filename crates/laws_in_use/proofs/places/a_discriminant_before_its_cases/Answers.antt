use Rattle.std.proofs.Common.{codes, refl, inl}
use Rattle.std.specs.Str.{chars}
use Rattle.serde_json.specs.Data.{number, string, unsigned}
use Rattle.giop_types.specs.Descriptions.Checked.{desc_fault}
use Rattle.giop_json.specs.DescFromJson.{desc_in}
use Rattle.giop_where.specs.Parts.{key}
use Rattle.laws_in_use.specs.Places.{bound, bounded, union}
use Rattle.laws_in_use.proofs.places.a_discriminant_before_its_cases.Goals as goal

pub returns-clause-cases : goal.returns-clause-cases
unfolding chars
returns-clause-cases c = (number (unsigned 5), inl (refl, refl), refl)

pub returns-clause-fault : goal.returns-clause-fault
unfolding chars desc_in desc_fault
returns-clause-fault c = refl

pub returns-clause-first : goal.returns-clause-first
unfolding chars desc_in desc_fault
returns-clause-first c = c.first_faults_are_found.ensures.discriminant 2 union (string (codes "int")) refl refl

pub returns-clause-none : goal.returns-clause-none
unfolding chars desc_in desc_fault
returns-clause-none c = refl

pub returns-clause-bound : goal.returns-clause-bound
unfolding chars
returns-clause-bound c = (number (unsigned 3), inl (refl, refl), refl)

pub returns-clause-sound : goal.returns-clause-sound
returns-clause-sound c =
    c.first_faults_are_found.ensures.none 2 bounded bound (key (codes "string")) (returns-clause-none c) (returns-clause-bound c)
