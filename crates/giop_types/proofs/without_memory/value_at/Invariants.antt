use Rattle.std.proofs.Common.{◌≡◌}
use Rattle.std.specs.BTreeMap.{is_at}
use Rattle.std.specs.Cmp.Lexicographic.{slice_cmp}
use Rattle.std.specs.Map.{lookup}
use Rattle.std.specs.Ordering.{nat_cmp}
use Rattle.giop_types.proofs.without_memory.value_at.Given as goal

abbrev pub invariant-loop-key : goal.invariant-loop-key
invariant-loop-key g l =
    lookup (is_at (λ key. slice_cmp nat_cmp (g.S.Octets.octets l.octets) key.items)) l.key-iterator
    ≡ lookup (is_at (λ key. slice_cmp nat_cmp (g.S.Octets.octets l.octets) key.items)) l.map.entries
