use Rattle.std.proofs.Common.{◌<◌, arith}
use Rattle.std.proofs.lemmas.List.Elements.{All-from_get_or}
use Rattle.giop_c.proofs.ValuesFit.{spelled_fit, text_fits}
use Rattle.giop_c.proofs.values.read_values.Goals as goal

pub returns-in-Ok-clause-fit : goal.returns-in-Ok-clause-fit
returns-in-Ok-clause-fit c =
    spelled_fit c.args.parameters.now c.in-Cdr.order c.in-Ok.values c.args.octets.now
    (All-from_get_or (λ octet. octet < 256) c.args.octets.now 0 (λ i there. let fits = c.type_inv.octets i in omega arith)) c.in-Ok.ensures.found

pub returns-in-Ok-values_from_text-clause-fit : goal.returns-in-Ok-values_from_text-clause-fit
returns-in-Ok-values_from_text-clause-fit c =
    text_fits c.args.parameters.now c.args.octets.now c.in-Ok-values_from_text.values c.in-Ok-values_from_text.ensures
