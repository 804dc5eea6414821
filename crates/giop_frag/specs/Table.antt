-- How a gatherer keeps what it holds: a slot for each id, and its counts.
use Rattle.std.specs.Prelude.{◌≡◌, ℕ, ◌≤◌, ◌^◌, List, Some}
use Rattle.giop_ids.specs.Slots.{entries_by}
use Rattle.giop_frag.specs.Gathered.{Pieces, Lists, total_of, blocks_of}

-- the lists of the slots
abbrev pub entries_of : List (ℕ × Pieces) → Lists
entries_of slots = entries_by (λ pieces. Some pieces) slots

-- between two calls the counts are right: of all octets, of the blocks that they need now, and of
-- the most that they have needed
pub record IsTable (limit total needed blocks : ℕ) (slots : List (ℕ × Pieces)) : Type 0 where
  pub counted : total ≡ total_of (entries_of slots)
  pub needs : needed ≡ blocks_of (entries_of slots)
  pub within : total ≤ limit
  pub enough : needed ≤ blocks
  pub few : blocks ≤ limit
  pub small : limit ≤ 2 ^ 62
