use Rattle.std.proofs.Common.{◌∙◌}
use Rattle.giop_types.proofs.Values.FitLemmas.{octets_judged}
use Rattle.giop_types.proofs.codec.fitting.is_octets_of.Goals as goal

pub returns : goal.returns
returns c = c.is_counted.ensures ∙ octets_judged c.args.bound c.args.octets.now c.type_inv.octets
