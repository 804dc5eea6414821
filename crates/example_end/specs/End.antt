-- The end as contracts see it, and its acts as a use of the theory of tables by id.
use Rattle.std.specs.Prelude.{◌≡◌, ℕ, ◌+◌, Bool, true, false, if◌then◌else◌, List, length, Option, Some, None, is_some, Result, Ok, Err, refl}
use Rattle.std.specs.Option.{option_map}
use Rattle.std.specs.FinMap as finite
use Rattle.std.specs.Coded.{Coded, code_by, coded×, coded_ℕ, coded_option}
use Rattle.giop_cdr.specs.declared.order.Order.{Order}
use Rattle.giop_ids.specs.ById.{ById, by_id_code, put}
use Rattle.giop_ids.specs.Runs.{Done, Rules}
use Rattle.giop_frag.specs.Gathered.{Pieces, Lists, pieces_code, grown, octets_in, is_over, room_fault, order_fault}
use Rattle.giop_frag.specs.declared.fault.GatherFault.{GatherFault}
use Rattle.giop_mux.specs.Calls.{is_one_too_many}
use Rattle.example_end.specs.declared.meter.Entry.{Entry}
use Rattle.example_end.specs.declared.meter.Entry.TheVariants.{Arriving, Whole, Cancelled}
use Rattle.example_end.specs.declared.fault.EndFault.{EndFault}
use Rattle.example_end.specs.declared.fault.EndFault.TheVariants.{InUse, Stray, OrderDiffers, StillOpen, TooManyCalls, GatherFull, NoMemory}
use Rattle.example_end.specs.Faults.{fault_of}

-- an end: how many entries and how many octets it may hold, the entries, and the pieces
pub record Held : Type 0 where
  pub calls : ℕ
  pub room : ℕ
  pub table : ById Entry
  pub gathered : Lists

-- what is stored for one id, and an end with that changed
pub record Call : Type 0 where
  pub entry : Option Entry
  pub pieces : Option Pieces

-- what is stored for an id
abbrev pub at : Held → ℕ → Call
at h id = record { entry = finite.get h.table id; pieces = finite.get h.gathered id }

-- an end in which something else is stored for an id
abbrev pub put_call : Held → ℕ → Call → Held
put_call h id call = record h {
  table = put h.table id call.entry;
  gathered = put h.gathered id call.pieces;
}

-- whether a message comes
abbrev pub is_arriving : Option Entry → Bool
is_arriving (Some Arriving) = true
is_arriving (Some (Whole n)) = false
is_arriving (Some Cancelled) = false
is_arriving None = false

-- an id has pieces exactly where its message comes
abbrev pub IsTied : Held → Type 0
IsTied h = (id : ℕ) → is_some (finite.get h.gathered id) ≡ is_arriving (finite.get h.table id)

-- what may befall an id: its first piece, a further one, its last, a cancel, a take
pub data Act : Type 0 where
  First : Order → List ℕ → Act
  More : Order → List ℕ → Act
  Last : Order → List ℕ → Act
  IsCancelled : Act
  IsTaken : Act

-- what is answered: that it is done, or the entry that was taken out
pub data Reply : Type 0 where
  IsDone : Reply
  Gives : Option Entry → Reply

-- what an act does to one id, or why not
abbrev pub Turned : Type 0
Turned = Result (Done Call Reply) EndFault

-- this stands there then
abbrev pub becomes : Option Entry → Option Pieces → Turned
becomes entry pieces =
    Ok (record { now = record { entry = entry; pieces = pieces }; answer = IsDone })

-- a piece in the wrong order is refused
abbrev pub unless : Option GatherFault → Turned → Turned
unless None turned = turned
unless (Some fault) turned = Err (fault_of fault)

-- a first piece
abbrev pub first : Option Entry → Option Pieces → Turned
first (Some Arriving) pieces = Err InUse
first (Some (Whole n)) pieces = becomes (Some Arriving) pieces
first (Some Cancelled) pieces = becomes (Some Arriving) pieces
first None pieces = becomes (Some Arriving) pieces

-- a further piece does this where the message comes, and is ignored where it was cancelled
abbrev pub further : Option Entry → Option Pieces → Order → Turned → Turned
further (Some Arriving) pieces order turned = unless (order_fault pieces order) turned
further (Some (Whole n)) pieces order turned = Err Stray
further (Some Cancelled) pieces order turned = becomes (Some Cancelled) pieces
further None pieces order turned = Err Stray

-- what befalls one id, whatever is stored for others
abbrev pub turn : Call → Act → Turned
turn call (First order octets) =
    first call.entry (Some (record { order = order; octets = octets }))
turn call (More order octets) =
    further call.entry call.pieces order (becomes (Some Arriving) (grown call.pieces octets))
turn call (Last order octets) = further call.entry call.pieces order
    (becomes (Some (Whole (octets_in call.pieces + length octets))) None)
turn call IsCancelled = if is_arriving call.entry
    then becomes (Some Cancelled) None
    else becomes call.entry call.pieces
turn call IsTaken = if is_arriving call.entry
    then Err StillOpen
    else Ok (record {
      now = record { entry = None; pieces = call.pieces };
      answer = Gives call.entry;
    })

-- why there is no room for n octets, if there is none
abbrev pub room_of : Held → ℕ → Option EndFault
room_of h n = option_map fault_of (room_fault (is_over h.room h.gathered n))

-- why the whole has no room for an act
abbrev pub limit : Held → ℕ → Act → Option EndFault
limit h id (First order octets) = if is_one_too_many h.table h.calls id (Some Arriving)
    then Some TooManyCalls
    else room_of h (length octets)
limit h id (More order octets) =
    if is_arriving (finite.get h.table id) then room_of h (length octets) else None
limit h id (Last order octets) =
    if is_arriving (finite.get h.table id) then room_of h (length octets) else None
limit h id IsCancelled = None
limit h id IsTaken = None

-- whether a message may begin under the id, as far as the table goes
abbrev pub may_begin : Held → ℕ → Result (Unit {0}) EndFault
may_begin h id = if is_arriving (finite.get h.table id)
    then Err InUse
    else (if is_one_too_many h.table h.calls id (Some Arriving) then Err TooManyCalls else Ok tt)

-- how the end is kept by id
abbrev pub end_rules : Rules Held Call Act Reply EndFault
end_rules = record {
  at = at;
  put = put_call;
  turn = turn;
  limit = λ h act. limit h act.id act.what;
  memory = NoMemory;
}

-- whether a message's own entry or pieces are why it is refused, and not a limit or memory
abbrev pub is_of_message : EndFault → Bool
is_of_message InUse = true
is_of_message Stray = true
is_of_message OrderDiffers = true
is_of_message StillOpen = true
is_of_message TooManyCalls = false
is_of_message GatherFull = false
is_of_message NoMemory = false

-- what is returned to the caller, and for a take
abbrev pub reply : Result (Unit {0}) EndFault → Result Reply EndFault
reply (Ok done) = Ok IsDone
reply (Err fault) = Err fault

-- what taking an entry out answers
abbrev pub take_reply : Result (Option Entry) EndFault → Result Reply EndFault
take_reply (Ok entry) = Ok (Gives entry)
take_reply (Err fault) = Err fault

-- an entry is stored as one of three options
abbrev pub stored : Entry → Option (Option ℕ)
stored Arriving = None
stored (Whole n) = Some (Some n)
stored Cancelled = Some None

-- the entry of a number, as it was stored
abbrev pub from_stored : Option (Option ℕ) → Entry
from_stored None = Arriving
from_stored (Some (Some n)) = Whole n
from_stored (Some None) = Cancelled

pub from_stored-stored : (entry : Entry) → from_stored (stored entry) ≡ entry
from_stored-stored Arriving = refl
from_stored-stored (Whole n) = refl
from_stored-stored Cancelled = refl

-- entries can be stored as numbers, so that a map of them can be seen by contracts
abbrev pub entry_code : Coded Entry
entry_code =
    code_by (Option (Option ℕ)) (coded_option (coded_option coded_ℕ))
    stored from_stored from_stored-stored

-- an end is stored as the tuple of its fields
abbrev pub held_code : Coded Held
held_code =
    code_by (ℕ × (ℕ × (ById Entry × Lists)))
    (coded× coded_ℕ (coded× coded_ℕ (coded× (by_id_code entry_code) (by_id_code pieces_code))))
    (λ h. (h.calls, (h.room, (h.table, h.gathered))))
    (λ p. record { calls = p.0; room = p.1.0; table = p.1.1.0; gathered = p.1.1.1 })
    (λ _. refl)
