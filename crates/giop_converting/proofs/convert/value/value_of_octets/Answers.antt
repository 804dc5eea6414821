use Rattle.giop_types.specs.Descriptions.CheckedShape.{checked_shape}
use Rattle.giop_types.specs.Values.Views.{value_view}
use Rattle.giop_converting.proofs.ConvertLemmas.{taken_fits}
use Rattle.giop_converting.proofs.convert.value.value_of_octets.Goals as goal

pub returns-clause-fits : goal.returns-clause-fits
returns-clause-fits c =
    taken_fits (checked_shape c.args.desc.now) c.args.order c.args.octets.now (value_view c.in_ok-value.value) _ c.type_inv.octets
    (rw (c.new-input.ensures, c.new-source.ensures) at c.in_ok-value.ensures.found)
