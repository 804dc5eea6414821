use Rattle.std.proofs.Common.{◌≡◌, ◌++◌}
use Rattle.giop_cdr.proofs.input.tagged_list_at.TaggedListAt.to_vec.Given as goal

abbrev pub invariant-loop-tag : goal.invariant-loop-tag
invariant-loop-tag g l = l.values.items ++ l.tag-iterator ≡ l.self
