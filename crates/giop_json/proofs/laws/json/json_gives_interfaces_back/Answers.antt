use Rattle.giop_json.proofs.InterfaceBack.{offer_back}
use Rattle.giop_json.proofs.laws.json.json_gives_interfaces_back.Goals as goal

pub returns : goal.returns
returns c offer sayable = offer_back offer sayable
