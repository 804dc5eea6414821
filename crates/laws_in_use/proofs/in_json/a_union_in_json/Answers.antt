use Rattle.std.proofs.Common.{refl}
use Rattle.giop_types.specs.Descriptions.Checked.{branches_fault, desc_fault, fields_fault}
use Rattle.giop_json.specs.DescToJson.{branches_sayable, cases_data, default_data, desc_data, fields_sayable, is_sayable}
use Rattle.giop_json.specs.Plain.{branches_plain, fields_plain, is_plain}
use Rattle.laws_in_use.specs.InJson.{coin}
use Rattle.laws_in_use.proofs.in_json.a_union_in_json.Goals as goal

pub returns-clause-sound : goal.returns-clause-sound
unfolding desc_fault fields_fault branches_fault
returns-clause-sound c = refl

pub returns-clause-plain : goal.returns-clause-plain
unfolding is_plain fields_plain branches_plain
returns-clause-plain c = refl

pub returns-clause-sayable : goal.returns-clause-sayable
unfolding is_sayable fields_sayable branches_sayable
returns-clause-sayable c = refl

pub returns-clause-written : goal.returns-clause-written
unfolding desc_data cases_data default_data
returns-clause-written c = refl

pub returns-clause-described : goal.returns-clause-described
unfolding desc_data cases_data default_data
returns-clause-described c =
    c.json_gives_descriptions_back.ensures coin (returns-clause-sound c) (returns-clause-plain c) (returns-clause-sayable c)
