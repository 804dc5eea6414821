use Rattle.std.proofs.Common.{◌≡◌, drop}
use Rattle.serde_json.specs.View.{items_view}
use Rattle.giop_json.specs.FromJson.{items_shown, octets_shown}
use Rattle.giop_types.proofs.Coding.PartLoops.{with_front}
use Rattle.giop_json.proofs.desc_json.names_of.Given as goal

abbrev pub invariant-loop-name : goal.invariant-loop-name
invariant-loop-name l =
    with_front l.names.items (items_shown octets_shown (items_view (drop l.name-index l.list))) ≡ items_shown octets_shown (items_view l.list)
