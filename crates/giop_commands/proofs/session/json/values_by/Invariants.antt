use Rattle.std.proofs.Common.{◌≡◌, map, drop, option_map}
use Rattle.serde_json.specs.View.{items_view}
use Rattle.giop_types.specs.Values.Views.{value_view}
use Rattle.giop_commands.specs.Session.Forms.{each_value}
use Rattle.giop_commands.proofs.OnSession.PartLemmas.{made_before}
use Rattle.giop_commands.proofs.session.json.values_by.Given as goal

-- what was read so far, and what is still to be read
abbrev pub invariant-loop-i : goal.invariant-loop-i
invariant-loop-i l =
    made_before (option_map (λ v. map value_view v.items) l.values) (each_value (drop l.i l.parameters) (items_view (drop l.i l.list)))
    ≡ each_value l.parameters (items_view l.list)
