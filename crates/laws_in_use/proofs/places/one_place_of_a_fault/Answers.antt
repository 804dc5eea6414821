use Rattle.std.proofs.Common.{◌∙◌, List, refl, sym, subst}
use Rattle.std.specs.Str.{chars}
use Rattle.giop_types.specs.Descriptions.Checked.{desc_fault}
use Rattle.giop_json.specs.DescFromJson.{desc_in}
use Rattle.giop_where.specs.First.{IsFirst}
use Rattle.giop_where.specs.Parts.{Way}
use Rattle.laws_in_use.specs.Places.{file, no_type, path}
use Rattle.laws_in_use.proofs.places.one_place_of_a_fault.Goals as goal

first : IsFirst 2 file path no_type
unfolding chars desc_in desc_fault
first = record { led = (_, refl, (_, refl, (_, refl, (_, refl, (_, refl, refl))))); own = refl }

pub returns-clause-leads : goal.returns-clause-leads
returns-clause-leads c = first

pub returns-clause-only : goal.returns-clause-only
returns-clause-only c = λ other q is. c.places_are_unique.ensures.path 2 file q no_type other path is first

pub returns-clause-place : goal.returns-clause-place
returns-clause-place c = λ place leads role. (no_type, subst (λ (way : List Way). IsFirst 2 file way no_type) (sym leads) first, role)

pub returns-clause-told : goal.returns-clause-told
returns-clause-told c = λ place other leads role is.
    let same = c.places_are_unique.ensures.place 2 file other place is (returns-clause-place c place leads role) in
    (same.0 ∙ leads, same.1 ∙ role)

pub returns-clause-whole : goal.returns-clause-whole
unfolding chars desc_in desc_fault
returns-clause-whole c = refl

pub returns-clause-at_fault : goal.returns-clause-at_fault
returns-clause-at_fault c = c.places_are_unique.ensures.at_fault 2 file no_type path first (returns-clause-whole c)
