use Rattle.std.proofs.Common.{◌≡◌, map, drop, length}
use Rattle.giop_types.specs.Values.Same.{same_trees}
use Rattle.giop_types.specs.Values.Views.{value_view, trees_of}
use Rattle.giop_types.proofs.same.+same.Given as goal

abbrev pub invariant-are_same-loop-i : goal.invariant-are_same-loop-i
invariant-are_same-loop-i l = record {
  so_far : same_trees (trees_of (map value_view (drop l.i l.one))) (trees_of (map value_view (drop l.i l.other)))
      ≡ same_trees (trees_of (map value_view l.one)) (trees_of (map value_view l.other));
  as_many : length l.one ≡ length l.other;
}
