use Rattle.std.proofs.Common.{◌∙◌, ap, map}
use Rattle.serde_json.specs.Data.{array}
use Rattle.serde_json.specs.View.{items_of, view}
use Rattle.serde_json.proofs.Views.{view-Array}
use Rattle.giop_types.specs.Values.Views.{value_view}
use Rattle.giop_commands.specs.Bodies.{each_data}
use Rattle.giop_commands.proofs.BodiesLemmas.{all_done}
use Rattle.giop_commands.proofs.session.bodies.values_json.Goals as goal

pub returns : goal.returns
returns c = view-Array c.loop-i.list ∙ ap (λ ds. array (items_of ds))
    (all_done c.args.numbers (map view c.loop-i.list.items) (each_data c.args.numbers c.args.parameters.now (map value_view c.args.values.now)) c.args.parameters.now c.args.values.now
    c.loop-i.i c.min-i-end.result c.min-i-end.ensures c.loop-i-test.false c.loop-i.invariant)
