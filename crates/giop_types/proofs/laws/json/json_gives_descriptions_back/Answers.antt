use Rattle.giop_types.proofs.JsonForms.DescBack.{described_back}
use Rattle.giop_types.proofs.laws.json.json_gives_descriptions_back.Goals as goal

pub returns : goal.returns
returns c shape checked plain sayable = described_back shape checked plain sayable
