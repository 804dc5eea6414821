-- What a contract sees of a gatherer (9.4.9): a finite map from ids to joined octets, a limit, and
-- the number of blocks of octets.
use Rattle.std.specs.Prelude.{◌≡◌, ℕ, ◌+◌, ◌/◌, ◌≤◌, ◌++◌, Bool, true, false, if◌then◌else◌, nat_lt, max, List, length, Option, Some, None, refl}
use Rattle.std.specs.FinMap as map
use Rattle.std.specs.Coded.{Coded, code_by, coded×, coded_ℕ, coded_bool, coded_list}
use Rattle.giop_cdr.specs.declared.order.Order.{Order}
use Rattle.giop_cdr.specs.declared.order.Order.TheVariants.{Big, Little}
use Rattle.giop_ids.specs.ById.{ById, by_id_code, weight_in, sum_of}
use Rattle.giop_frag.specs.declared.fault.GatherFault.{GatherFault}
use Rattle.giop_frag.specs.declared.fault.GatherFault.TheVariants.{Stray, OrderDiffers, GatherFull, NoMemory}

-- the octets of one message so far, and the order that they are in
pub record Pieces : Type 0 where
  pub order : Order
  pub octets : List ℕ

-- what is gathered, by id
abbrev pub Lists : Type 0
Lists = ById Pieces

-- a gatherer: how many octets it may hold, how many blocks it has, and what it holds
pub record Gathered : Type 0 where
  pub limit : ℕ
  pub blocks : ℕ
  pub lists : Lists

-- whether an order is little-endian, and back
abbrev pub is_little : Order → Bool
is_little Big = false
is_little Little = true

abbrev pub order_of : Bool → Order
order_of false = Big
order_of true = Little

pub order_of-is_little : (order : Order) → order_of (is_little order) ≡ order
order_of-is_little Big = refl
order_of-is_little Little = refl

-- pieces are stored as the pair of their fields
abbrev pub pieces_code : Coded Pieces
pieces_code =
    code_by (Bool × List ℕ) (coded× coded_bool (coded_list coded_ℕ))
    (λ p. (is_little p.order, p.octets))
    (λ q. record { order = order_of q.0; octets = q.1 })
    (λ p i. record { order = order_of-is_little p.order i; octets = p.octets })

-- and a gatherer likewise
abbrev pub gathered_code : Coded Gathered
gathered_code =
    code_by (ℕ × (ℕ × Lists)) (coded× coded_ℕ (coded× coded_ℕ (by_id_code pieces_code)))
    (λ g. (g.limit, (g.blocks, g.lists)))
    (λ p. record { limit = p.0; blocks = p.1.0; lists = p.1.1 })
    (λ _. refl)

-- these pieces, if there are any, and more octets after them
abbrev pub grown : Option Pieces → List ℕ → Option Pieces
grown None more = None
grown (Some pieces) more = Some (record pieces { octets = pieces.octets ++ more })

-- the number of all gathered octets
abbrev pub total_of : Lists → ℕ
total_of m = sum_of (λ p. length p.octets) m

-- how many octets these are
abbrev pub octets_in : Option Pieces → ℕ
octets_in held = weight_in (λ p. length p.octets) held

-- how many blocks of 512 octets n octets need
abbrev pub blocks_for : ℕ → ℕ
blocks_for n = (n + 511) / 512

-- how many blocks all lists need, each for itself
abbrev pub blocks_of : Lists → ℕ
blocks_of m = sum_of (λ p. blocks_for (length p.octets)) m

-- the blocks there are then: none is freed
abbrev pub blocks_after : ℕ → Lists → ℕ
blocks_after blocks m = max blocks (blocks_of m)

-- how many blocks there may be after a refusal on the way to these lists: as many as before, or,
-- when out of memory, some of those that they need
abbrev pub IsBlocksAfter : GatherFault → ℕ → Lists → ℕ → Type 0
IsBlocksAfter Stray old m new = new ≡ old
IsBlocksAfter OrderDiffers old m new = new ≡ old
IsBlocksAfter GatherFull old m new = new ≡ old
IsBlocksAfter NoMemory old m new = (old ≤ new) × (new ≤ blocks_after old m)

-- whether n octets more would be more than the limit
abbrev pub is_over : ℕ → Lists → ℕ → Bool
is_over limit m n = nat_lt limit (total_of m + n)

-- whether two orders are one
abbrev pub same_order : Order → Order → Bool
same_order Big Big = true
same_order Little Little = true
same_order Big Little = false
same_order Little Big = false

-- why there is no room, if there is none
abbrev pub room_fault : Bool → Option GatherFault
room_fault over = if over then Some GatherFull else None

-- why octets of this order are not joined to these, whatever room there is
abbrev pub order_fault : Option Pieces → Order → Option GatherFault
order_fault None order = Some Stray
order_fault (Some pieces) order =
    if same_order order pieces.order then None else Some OrderDiffers

-- the first of two faults
abbrev pub first_fault : Option GatherFault → Option GatherFault → Option GatherFault
first_fault None second = second
first_fault (Some fault) second = Some fault

-- why n octets are not begun with, out of memory aside
abbrev pub begin_fault : Gathered → ℕ → Option GatherFault
begin_fault g n = room_fault (is_over g.limit g.lists n)

-- why octets are not joined to these, out of memory aside: the order comes before the room
abbrev pub add_fault_by : Bool → Option Pieces → Order → Option GatherFault
add_fault_by over held order = first_fault (order_fault held order) (room_fault over)

-- why n octets of this order are not joined to those of the id, out of memory aside
abbrev pub add_fault : Gathered → ℕ → Order → ℕ → Option GatherFault
add_fault g id order n = add_fault_by (is_over g.limit g.lists n) (map.get g.lists id) order

-- why nothing is handed out, out of memory aside
abbrev pub finish_fault : Option Pieces → Option GatherFault
finish_fault None = Some Stray
finish_fault (Some pieces) = None
