use Rattle.giop_types.specs.Values.Views.{desc_view}
use Rattle.giop_types.proofs.Descriptions.CheckLemmas.{faultless_full}
use Rattle.giop_types.proofs.description.checked_desc.CheckedDesc.desc.Goals as goal

pub returns-clause-full : goal.returns-clause-full
returns-clause-full c = faultless_full 1 (desc_view c.args.self.now.desc) c.args.self.now.checked
