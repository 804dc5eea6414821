use Rattle.std.proofs.Common.{◌≡◌, ◌+◌, not}
use Rattle.std.specs.List.{count_by}
use Rattle.giop_commands.specs.AnswerForms.{answered}
use Rattle.giop_commands.proofs.serve.answers.answered.Given as goal

-- how many were counted, and how many are still to be counted
abbrev pub invariant-loop-operation : goal.invariant-loop-operation
invariant-loop-operation l = l.count + count_by (λ operation. not operation.oneway) l.operation-iterator ≡ answered l.interface
