use Rattle.std.specs.Prelude.{None}
use Rattle.giop_calls.proofs.EqualCalls.{equal_items}
use Rattle.giop_calls.proofs.laws.equal_items_equal_entries.Goals as goal

pub returns : goal.returns
returns c = record { value = λ items. equal_items items None }
