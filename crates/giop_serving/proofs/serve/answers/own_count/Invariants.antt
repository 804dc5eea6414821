use Rattle.std.proofs.Common.{◌≡◌, ◌+◌}
use Rattle.std.specs.List.{count_by}
use Rattle.serde_json.specs.View.{view}
use Rattle.giop_serving.specs.Serve.AnswerFiles.{has_own, own_count}
use Rattle.giop_serving.proofs.serve.answers.own_count.Given as goal

-- how many were counted, and how many are still to be counted
abbrev pub invariant-loop-name : goal.invariant-loop-name
invariant-loop-name l =
    l.count + count_by (λ e. has_own (view l.json) e.0.items e.1) l.name-iterator ≡ own_count l.interface (view l.json)
