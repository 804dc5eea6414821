use Rattle.std.proofs.Common.{◌≡◌, drop, option_map}
use Rattle.serde_json.specs.View.{items_view}
use Rattle.giop_asked_calls.specs.Forms.{each_call}
use Rattle.giop_commands.proofs.OnSession.PartLemmas.{made_before}
use Rattle.giop_asked_calls.proofs.calls.calls_by.Given as goal

-- what was read so far, and what is still to be read
abbrev pub invariant-loop-json : goal.invariant-loop-json
invariant-loop-json l =
    made_before (option_map (λ v. v.items) l.calls) (each_call l.interface (items_view (drop l.json-index l.list)))
    ≡ each_call l.interface (items_view l.list)
