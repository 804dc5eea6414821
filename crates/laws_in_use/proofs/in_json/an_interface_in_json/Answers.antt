use Rattle.std.proofs.Common.{refl}
use Rattle.giop_types.specs.Descriptions.Checked.{desc_fault}
use Rattle.giop_json.specs.DescToJson.{desc_data, is_sayable, members_data}
use Rattle.giop_json.specs.Plain.{is_plain}
use Rattle.laws_in_use.specs.InJson.{adding}
use Rattle.laws_in_use.proofs.in_json.an_interface_in_json.Goals as goal

pub returns-clause-sayable : goal.returns-clause-sayable
unfolding is_sayable is_plain desc_fault
returns-clause-sayable c = refl

pub returns-clause-written : goal.returns-clause-written
unfolding desc_data members_data
returns-clause-written c = refl

pub returns-clause-offered : goal.returns-clause-offered
unfolding desc_data members_data
returns-clause-offered c = c.json_gives_interfaces_back.ensures adding (returns-clause-sayable c)
