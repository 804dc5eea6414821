use Rattle.giop_types.proofs.Coding.SpelledFits.{shape_fits}
use Rattle.giop_types.proofs.laws.values.spelled_values_fit.Goals as goal

pub returns : goal.returns
returns c = λ shape order at tree octets all spelled. shape_fits shape order at tree octets all spelled
