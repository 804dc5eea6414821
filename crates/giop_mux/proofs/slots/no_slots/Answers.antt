use Rattle.std.specs.FinMap as map
use Rattle.std.specs.FinMap.{get-empty}
use Rattle.std.specs.Ordering.{nat_cmp}
use Rattle.giop_ids.proofs.Puts.{put_absent}
use Rattle.giop_mux.proofs.slots.no_slots.Goals as goal

pub returns-clause-value : goal.returns-clause-value
returns-clause-value g c = rw c.new.ensures.empty (put_absent map.empty 0 (get-empty nat_cmp 0))

pub returns-clause-whole : goal.returns-clause-whole
returns-clause-whole g c = rw c.new.ensures.empty (record { full = λ id slot found. absurd cc; apart = get-empty nat_cmp 0 })
