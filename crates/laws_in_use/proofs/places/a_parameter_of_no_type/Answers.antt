use Rattle.std.proofs.Common.{codes, refl, arith}
use Rattle.std.specs.Str.{chars}
use Rattle.serde_json.specs.Data.{string}
use Rattle.giop_types.specs.Descriptions.Checked.{desc_fault}
use Rattle.giop_json.specs.DescFromJson.{desc_in}
use Rattle.laws_in_use.specs.Places.{name, no_type, parameter}
use Rattle.giop_where.specs.Parts.{index}
use Rattle.laws_in_use.proofs.places.a_parameter_of_no_type.Goals as goal

pub returns-clause-first : goal.returns-clause-first
unfolding chars desc_in desc_fault
returns-clause-first c = refl

pub returns-clause-step : goal.returns-clause-step
returns-clause-step c = (c.first_faults_are_found.ensures.found 2 parameter no_type (index 1) (returns-clause-first c)).0

pub returns-clause-fault : goal.returns-clause-fault
returns-clause-fault c = (c.first_faults_are_found.ensures.found 2 parameter no_type (index 1) (returns-clause-first c)).1

pub returns-clause-named : goal.returns-clause-named
returns-clause-named c = (string (codes "a"), refl, refl)

pub returns-clause-name : goal.returns-clause-name
returns-clause-name c =
    c.first_faults_are_found.ensures.earlier 2 1 0 parameter no_type name (returns-clause-first c) (omega arith) (returns-clause-named c)
