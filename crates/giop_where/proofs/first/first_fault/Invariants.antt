use Rattle.std.proofs.Common.{◌++◌, List, map}
use Rattle.giop_where.specs.Parts.{Portion, Way, part_view, step_view}
use Rattle.giop_where.specs.First.{IsFirst}
use Rattle.giop_where.proofs.first.first_fault.Given as goal

-- what a path leads to from here, the path so far and it lead to from the whole
abbrev pub invariant-loop : goal.invariant-loop
invariant-loop l = (path : List Way) (q : Portion) → IsFirst l.number (part_view l.part) path q
    → IsFirst l.number (part_view l.initial.part) (map step_view l.path.items ++ path) q
