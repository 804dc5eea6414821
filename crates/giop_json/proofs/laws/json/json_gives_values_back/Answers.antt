use Rattle.giop_json.proofs.JsonBack.{back_from_json}
use Rattle.giop_json.proofs.laws.json.json_gives_values_back.Goals as goal

pub returns : goal.returns
returns c shape checked plain tree fit numbers = back_from_json numbers shape checked plain tree fit
