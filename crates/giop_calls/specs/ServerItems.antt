-- The events of a server that spell what a client said of one call.
use Rattle.std.specs.Prelude.{◌≡◌, ◌⊎◌, Bool, true, false, Option, Some}
use Rattle.giop_mux.specs.Runs.{Happening, Hears, IsTaken, Turned, turn}
use Rattle.giop_calls.specs.declared.kind.CallKind.{CallKind}
use Rattle.giop_calls.specs.declared.fault.CallFault.{CallFault}
use Rattle.giop_calls.specs.declared.server.heard.HeardCall.{HeardCall}
use Rattle.giop_calls.specs.declared.server.entry.ServerEntry.{ServerEntry}
use Rattle.giop_calls.specs.declared.server.entry.ServerEntry.TheVariants.{Cancelled}
use Rattle.giop_calls.specs.declared.server.event.ServerEvent.{ServerEvent}
use Rattle.giop_calls.specs.declared.server.event.ServerEvent.TheVariants as event
use Rattle.giop_calls.specs.ServerTable.{server_step, is_closed}
use Rattle.giop_calls.specs.Items.{Wording, Item}

-- what may befall a call
abbrev pub Act : Type 0
Act = Happening ServerEvent

-- and what it does
abbrev pub server_turn : Option ServerEntry → Act → Turned ServerEntry (Unit {0}) CallFault
server_turn = turn server_step is_closed

-- a Fragment behind which more come: in the order of the first, else it is refused
abbrev pub IsMore : Act → Type 0
IsMore act = (in_order : Bool) × (act ≡ Hears (event.More in_order))

-- the last one, with what they all are together
abbrev pub IsLast : HeardCall → Act → Type 0
IsLast call act = (in_order : Bool) × (act ≡ Hears (event.Last in_order call))

-- the server answers, sends, or takes the entry out
abbrev pub is_own : Act → Bool
is_own (Hears (event.Answer reply pieces)) = true
is_own (Hears (event.AnswerLocate here)) = true
is_own (Hears event.Send) = true
is_own IsTaken = true
is_own _ = false

-- in which events a server hears it: a first piece by its kind; behind a cancel any Fragment as one
-- of many
abbrev pub server_words : Wording (Option ServerEntry) Act CallKind HeardCall
server_words = record {
  whole = λ call. Hears (event.Whole call);
  first = λ kind. Hears (event.First kind);
  Begins = λ kind call. Unit {0};
  Further = IsMore;
  Last = IsLast;
  Ends = λ act. IsMore act ⊎ ((call : HeardCall) × IsLast call act);
  WasCancelled = λ v. (answered : Bool) × (left : _) × (v ≡ Some (Cancelled answered left));
  is_own = is_own;
}

-- what was said of one call
abbrev pub Items : Type 0
Items = Item Act CallKind HeardCall
