use Rattle.std.proofs.Common.{◌≡◌, map, drop}
use Rattle.giop_json.specs.ToJson.{selected}
use Rattle.giop_types.specs.Values.Views.{case_view, fallback_view, branches_of}
use Rattle.giop_json.proofs.to_json.selected.Given as goal

abbrev pub invariant-loop-case : goal.invariant-loop-case
invariant-loop-case l =
    selected (branches_of (map case_view (drop l.case-index l.cases))) (fallback_view l.fallback) l.label
    ≡ selected (branches_of (map case_view l.cases)) (fallback_view l.fallback) l.label
