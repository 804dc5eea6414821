use Rattle.std.proofs.Common.{◌≡◌, ◌-◌}
use Rattle.giop_cdr.specs.Reading.Values.{past, items_at}
use Rattle.giop_cdr.specs.Reading.View.{tagged_at}
use Rattle.giop_cdr.proofs.input.tagged_list_at.skip_tagged.Given as goal

abbrev pub invariant-loop : goal.invariant-loop
invariant-loop g l = past (items_at (tagged_at g.I.Tagged.made) (l.count - l.counter) l.input) ≡ past (items_at (tagged_at g.I.Tagged.made) l.count l.fn.input)
