use Rattle.giop_types.proofs.JsonForms.InterfaceBack.{offer_back}
use Rattle.giop_types.proofs.laws.json.json_gives_interfaces_back.Goals as goal

pub returns : goal.returns
returns c offer sayable = offer_back offer sayable
