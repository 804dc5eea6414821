use Rattle.giop_json.proofs.DescBack.{described_back}
use Rattle.giop_json.proofs.laws.json.json_gives_descriptions_back.Goals as goal

pub returns : goal.returns
returns c shape checked plain sayable = described_back shape checked plain sayable
