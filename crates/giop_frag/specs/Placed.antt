-- How a gatherer keeps what it holds: a slot for each id, the blocks that its octets lie in, and
-- how many there are of all.
use Rattle.std.specs.Prelude.{◌≡◌, ℕ, ◌+◌, ◌-◌, ◌≤◌, ◌^◌, ◌++◌, max, Bool, true, List, [], length, Option, Some, is_some}
use Rattle.std.specs.Coded.{Coded, code_by, coded×, coded_ℕ, coded_bool, coded_list}
use Rattle.std.specs.Ordering.{nat_cmp}
use Rattle.std.specs.Map.{lookup}
use Rattle.std.specs.BTreeMap.{is_at}
use Rattle.giop_cdr.specs.declared.order.Order.{Order}
use Rattle.giop_ids.specs.ById.{ById, weight_in, sum_of}
use Rattle.giop_ids.specs.Slots.{entries_by, Becomes}
use Rattle.giop_frag.specs.declared.fault.GatherFault.{GatherFault}
use Rattle.giop_frag.specs.declared.fault.GatherFault.TheVariants.{Stray, OrderDiffers, GatherFull, NoMemory}
use Rattle.giop_frag.specs.Gathered.{Pieces, Lists, is_little, order_of, order_of-is_little, blocks_for, blocks_of, total_of}
use Rattle.giop_frag.specs.Blocks.{Pooled, AreWhole, HasGrown, block, octets_at, once, times}

-- where the octets of one message lie: their order, how many there are, the numbers of their
-- blocks, and how many numbers there is room for
pub record Placed : Type 0 where
  pub order : Order
  pub size : ℕ
  pub numbers : List ℕ
  pub room : ℕ

-- such a place is stored as its fields
abbrev pub placed_code : Coded Placed
placed_code =
    code_by ((Bool × ℕ) × (List ℕ × ℕ))
    (coded× (coded× coded_bool coded_ℕ) (coded× (coded_list coded_ℕ) coded_ℕ))
    (λ p. ((is_little p.order, p.size), (p.numbers, p.room)))
    (λ q. record {
      order = order_of q.0.0;
      size = q.0.1;
      numbers = q.1.0;
      room = q.1.1;
    })
    (λ p i. record {
      order = order_of-is_little p.order i;
      size = p.size;
      numbers = p.numbers;
      room = p.room;
    })

-- the octets that lie there, and their order
abbrev pub pieces_at : List (List ℕ) → Placed → Pieces
pieces_at blocks p = record { order = p.order; octets = octets_at blocks p.numbers p.size }

-- what is gathered, by id
abbrev pub lists_at : List (List ℕ) → List (ℕ × Placed) → Lists
lists_at blocks slots = entries_by (λ p. Some (pieces_at blocks p)) slots

-- the places of what is gathered, by id
abbrev pub places_of : List (ℕ × Placed) → ById Placed
places_of slots = entries_by (λ p. Some p) slots

-- how often a number stands in a slot, and how many stand there
abbrev pub times_in : ℕ → Option Placed → ℕ
times_in n slot = weight_in (λ p. times n p.numbers) slot

abbrev pub numbers_in : Option Placed → ℕ
numbers_in slot = weight_in (λ p. length p.numbers) slot

-- each number of a block stands once, in one list or among the free ones, no other number does,
-- and each list has just the blocks that it needs
pub record AreStanding (pool : Pooled) (slots : List (ℕ × Placed)) : Type 0 where
  pub whole : AreWhole pool.blocks
  pub stands : (n : ℕ) → sum_of (λ p. times n p.numbers) (places_of slots) + times n pool.free
      ≡ once n pool.blocks
  pub counts : (id : ℕ) (p : Placed) → lookup (is_at (nat_cmp id)) slots ≡ Some p
      → length p.numbers ≡ blocks_for p.size

-- and the free ones are those that no list needs
pub record AreHeld (pool : Pooled) (slots : List (ℕ × Placed)) : Type 0 where
  pub standing : AreStanding pool slots
  pub free : length pool.free + blocks_of (lists_at pool.blocks slots) ≡ length pool.blocks

-- octets were written behind those of one list, into its blocks and free ones that became its own
pub record IsFilled (old : Placed) (from : Pooled) (new : Placed) (to : Pooled)
    (more : List ℕ) : Type 0 where
  pub order : new.order ≡ old.order
  pub size : new.size ≡ old.size + length more
  pub octets : octets_at to.blocks new.numbers new.size
      ≡ octets_at from.blocks old.numbers old.size ++ more
  pub count : length new.numbers ≡ blocks_for new.size
  pub stands : (n : ℕ)
      → times n new.numbers + times n to.free ≡ times n old.numbers + times n from.free
  pub free : length new.numbers + length to.free ≡ length old.numbers + length from.free
  pub number : length to.blocks ≡ length from.blocks
  pub others : (n : ℕ) → times n old.numbers + times n from.free ≡ 0
      → block to.blocks n ≡ block from.blocks n
  pub whole : AreWhole to.blocks

-- blocks were made until so many are free, or until out of memory
pub record IsProvided (wanted : ℕ) (old new : Pooled) : Type 0 where
  pub grown : HasGrown old new
  pub few : length new.free ≤ max (length old.free) wanted
  pub whole : AreWhole new.blocks

-- how many blocks a list lacks
abbrev pub lacking : Placed → ℕ → ℕ
lacking p more = blocks_for (p.size + more) - length p.numbers

-- a slot has a list that can grow by n octets without memory
pub record IsReady (pool : Pooled) (slot : Option Placed) (n : ℕ) : Type 0 where
  pub there : is_some slot ≡ true
  pub small : (p : Placed) → slot ≡ Some p → p.size + n ≤ 2 ^ 62
  pub free : (p : Placed) → slot ≡ Some p → lacking p n ≤ length pool.free
  pub room : (p : Placed) → slot ≡ Some p → blocks_for (p.size + n) ≤ p.room

-- a list without octets was begun, with room for so many blocks, and as many are free
pub record IsOpened (pool : Pooled) (old new : List (ℕ × Placed)) (id : ℕ) (order : Order)
    (wanted : ℕ) : Type 0 where
  pub place : Placed
  pub empty : place ≡ record { order = order; size = 0; numbers = []; room = place.room }
  pub room : wanted ≤ place.room
  pub free : wanted ≤ length pool.free
  pub becomes : Becomes old new id (Some place)

-- octets were joined to a list: blocks were made where too few were free, and then filled
pub record IsJoinedTo (old : Placed) (from : Pooled) (new : Placed) (to : Pooled)
    (more : List ℕ) : Type 0 where
  pub between : Pooled
  pub provided : IsProvided (lacking old (length more)) from between
  pub filled : IsFilled old between new to more

-- what a refusal leaves: no block more, or, when out of memory, some of those that are wanted
abbrev pub IsLeft : GatherFault → ℕ → Pooled → Pooled → Type 0
IsLeft Stray wanted old new = new ≡ old
IsLeft OrderDiffers wanted old new = new ≡ old
IsLeft GatherFull wanted old new = new ≡ old
IsLeft NoMemory wanted old new = IsProvided wanted old new

-- between two calls the blocks are held so, and the count of all octets is right
pub record IsTable (limit total : ℕ) (pool : Pooled) (slots : List (ℕ × Placed)) : Type 0 where
  pub held : AreHeld pool slots
  pub counted : total ≡ total_of (lists_at pool.blocks slots)
  pub within : total ≤ limit
  pub few : length pool.blocks ≤ limit
  pub small : limit ≤ 2 ^ 62
