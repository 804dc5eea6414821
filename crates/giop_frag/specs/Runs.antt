-- Acts on a gatherer: what each does to the octets of its id.
use Rattle.std.specs.Prelude.{◌≡◌, ℕ, ◌+◌, Bool, true, false, List, [], ◌∷◌, ◌++◌, length, map, Option, Some, None, Result, Ok, Err}
use Rattle.giop_cdr.specs.declared.order.Order.{Order}
use Rattle.giop_ids.specs.declared.addressed.Addressed.{Addressed}
use Rattle.giop_ids.specs.Runs.{Done, Rules, table_rules}
use Rattle.giop_frag.specs.declared.fault.GatherFault.{GatherFault}
use Rattle.giop_frag.specs.declared.fault.GatherFault.TheVariants.{Stray, OrderDiffers, GatherFull, NoMemory}
use Rattle.giop_frag.specs.Gathered.{Pieces, Lists, grown, is_over, room_fault, order_fault}

-- what may befall an id
pub data Happening : Type 0 where
  Begins : Order → List ℕ → Happening
  Adds : Order → List ℕ → Happening
  IsFinished : Happening
  IsDiscarded : Happening

-- what is answered: that it is done, or the octets that are handed out
pub data Reply : Type 0 where
  IsDone : Reply
  Gives : Pieces → Reply

-- what `begin` and `add` return to their caller, and what `finish` returns
abbrev pub call_reply : Result (Unit {0}) GatherFault → Result Reply GatherFault
call_reply (Ok done) = Ok IsDone
call_reply (Err fault) = Err fault

abbrev pub finish_reply : Result (Order × List ℕ) GatherFault → Result Reply GatherFault
finish_reply (Ok joined) = Ok (Gives (record { order = joined.0; octets = joined.1 }))
finish_reply (Err fault) = Err fault

-- whether the id's own octets are why it is refused, and not the limit or being out of memory
abbrev pub is_of_id : GatherFault → Bool
is_of_id Stray = true
is_of_id OrderDiffers = true
is_of_id GatherFull = false
is_of_id NoMemory = false

-- what is gathered under an id then and what is answered, or why not
abbrev pub Turned : Type 0
Turned = Result (Done (Option Pieces) Reply) GatherFault

-- this is gathered under the id then, unless there is a fault
abbrev pub unless : Option GatherFault → Option Pieces → Turned
unless None held = Ok (record { now = held; answer = IsDone })
unless (Some fault) held = Err fault

-- the octets are handed out and gone, if there are any
abbrev pub handed_out : Option Pieces → Turned
handed_out None = Err Stray
handed_out (Some pieces) = Ok (record { now = None; answer = Gives pieces })

-- what befalls an id, whatever is gathered under others
abbrev pub turn : Option Pieces → Happening → Turned
turn held (Begins order octets) = unless None (Some (record { order = order; octets = octets }))
turn held (Adds order octets) = unless (order_fault held order) (grown held octets)
turn held IsFinished = handed_out held
turn held IsDiscarded = unless None None

-- how many octets come with it
abbrev pub octets_with : Happening → ℕ
octets_with (Begins order octets) = length octets
octets_with (Adds order octets) = length octets
octets_with IsFinished = 0
octets_with IsDiscarded = 0

-- why there is no room for them, if there is none
abbrev pub room : ℕ → Lists → Happening → Option GatherFault
room limit m (Begins order octets) = room_fault (is_over limit m (length octets))
room limit m (Adds order octets) = room_fault (is_over limit m (length octets))
room limit m IsFinished = None
room limit m IsDiscarded = None

-- how lists are gathered by id, of at most so many octets together
abbrev pub gather_rules : ℕ → Rules Lists (Option Pieces) Happening Reply GatherFault
gather_rules limit = table_rules turn (λ m act. room limit m act.what) NoMemory

-- lists one behind the other
abbrev pub joined : List (List ℕ) → List ℕ
joined [] = []
joined (octets ∷ rest) = octets ++ joined rest

-- these are added, all in one order
abbrev pub added : Order → List (List ℕ) → List Happening
added order pieces = map (Adds order) pieces

-- the octets are those of the latest beginning and of all that was added since, joined
pub record IsJoined (pieces : Pieces) (heard : List Happening) : Type 0 where
  pub before : List Happening
  pub first : List ℕ
  pub rest : List (List ℕ)
  pub parts : heard ≡ before ++ Begins pieces.order first ∷ added pieces.order rest
  pub octets : pieces.octets ≡ joined (first ∷ rest)

-- how many octets come with all of these
abbrev pub all_octets : List (Addressed Happening) → ℕ
all_octets [] = 0
all_octets (act ∷ acts) = octets_with act.what + all_octets acts
