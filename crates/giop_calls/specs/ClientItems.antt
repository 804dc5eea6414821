-- The events of a client that spell what a server said of one call.
use Rattle.std.specs.Prelude.{◌≡◌, Bool, true, false, Option, Some}
use Rattle.giop_mux.specs.Runs.{Happening, Hears, IsTaken, Turned, turn}
use Rattle.giop_msg.specs.declared.version.Version.{Version}
use Rattle.giop_calls.specs.declared.kind.CallKind.{CallKind}
use Rattle.giop_calls.specs.declared.fault.CallFault.{CallFault}
use Rattle.giop_calls.specs.declared.client.heard.HeardReply.{HeardReply}
use Rattle.giop_calls.specs.declared.client.entry.ClientEntry.{ClientEntry}
use Rattle.giop_calls.specs.declared.client.entry.ClientEntry.TheVariants.{Cancelled}
use Rattle.giop_calls.specs.declared.client.event.ClientEvent.{ClientEvent}
use Rattle.giop_calls.specs.declared.client.event.ClientEvent.TheVariants as event
use Rattle.giop_calls.specs.ClientTable.{client_step, is_closed}
use Rattle.giop_calls.specs.Items.{Wording, Item}

-- what may befall a call
abbrev pub Act : Type 0
Act = Happening ClientEvent

-- and what it does
abbrev pub client_turn : Option ClientEntry → Act → Turned ClientEntry (Unit {0}) CallFault
client_turn = turn client_step is_closed

-- what the first piece of a Reply or a LocateReply says
pub record Beginning : Type 0 where
  pub kind : CallKind
  pub version : Version

-- what all of one says
pub record Message : Type 0 where
  pub begun : Beginning
  pub reply : HeardReply

-- a Fragment behind which more come: in the order of the first, else it is refused
abbrev pub IsMore : Act → Type 0
IsMore act = (in_order : Bool) × (act ≡ Hears (event.More in_order))

-- the last one, with what they all are together
abbrev pub IsLast : HeardReply → Act → Type 0
IsLast reply act = (in_order : Bool) × (act ≡ Hears (event.Last in_order reply))

-- the client calls, sends, cancels, or takes the entry out
abbrev pub is_own : Act → Bool
is_own (Hears (event.Call call pieces)) = true
is_own (Hears event.Send) = true
is_own (Hears event.Cancel) = true
is_own IsTaken = true
is_own _ = false

-- in which events a client hears it: behind a cancel the last Fragment still ends the late reply
abbrev pub client_words : Wording (Option ClientEntry) Act Beginning Message
client_words = record {
  whole = λ m. Hears (event.Whole m.begun.kind m.begun.version m.reply);
  first = λ b. Hears (event.First b.kind b.version);
  Begins = λ b m. b ≡ m.begun;
  Further = IsMore;
  Last = λ m. IsLast m.reply;
  Ends = λ act. (reply : HeardReply) × IsLast reply act;
  WasCancelled = λ v. (late : _) × (v ≡ Some (Cancelled late));
  is_own = is_own;
}

-- what was said of one call
abbrev pub Items : Type 0
Items = Item Act Beginning Message
