use Rattle.giop_types.specs.Views.{desc_view}
use Rattle.giop_types.proofs.CheckLemmas.{faultless_full}
use Rattle.giop_types.proofs.checked_desc.CheckedDesc.check.Goals as goal

pub invariant_of-result : goal.invariant_of-result
invariant_of-result c = record { full = faultless_full 1 (desc_view c.args.desc) c.in_ok-check_desc.ensures }
