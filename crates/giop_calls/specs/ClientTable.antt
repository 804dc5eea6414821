-- The table of a client's steps: what each event does to one call (CORBA 3.3 Part 2, 9.4 and 9.6).
use Rattle.std.specs.Prelude.{ℕ, ◌==◌, ◌-◌, Bool, true, false, if◌then◌else◌, Option, Some, None, Ok, Err}
use Rattle.giop_mux.specs.declared.step.Step.{Step}
use Rattle.giop_msg.specs.declared.version.Version.{Version}
use Rattle.giop_msg.specs.declared.messages.reply.Reply.{Reply}
use Rattle.giop_calls.specs.declared.kind.CallKind.{CallKind}
use Rattle.giop_calls.specs.declared.kind.CallKind.TheVariants as kind
use Rattle.giop_calls.specs.declared.fault.CallFault.{CallFault}
use Rattle.giop_calls.specs.declared.fault.CallFault.TheVariants.{IdInUse, Stray, OrderDiffers, UnknownReply, WrongKind, NotOpen, NothingToSend}
use Rattle.giop_calls.specs.declared.outcome.Outcome.{Outcome}
use Rattle.giop_calls.specs.declared.outcome.Outcome.TheVariants as ended
use Rattle.giop_calls.specs.declared.client.call.Call.{Call}
use Rattle.giop_calls.specs.declared.client.call.Call.TheVariants as asked
use Rattle.giop_calls.specs.declared.client.late.Late.TheVariants as late
use Rattle.giop_calls.specs.declared.client.heard.HeardReply.{HeardReply}
use Rattle.giop_calls.specs.declared.client.heard.HeardReply.TheVariants as heard
use Rattle.giop_calls.specs.declared.client.entry.ClientEntry.{ClientEntry}
use Rattle.giop_calls.specs.declared.client.entry.ClientEntry.TheVariants.{Sending, Waiting, Gathering, Done, LocateDone, Undecoded, OnewaySent, Cancelled}
use Rattle.giop_calls.specs.declared.client.event.ClientEvent.{ClientEvent}
use Rattle.giop_calls.specs.declared.client.event.ClientEvent.TheVariants as event
use Rattle.giop_calls.specs.Messages.{is_oneway, is_same_version}

-- what an event does to the entry of a call
abbrev pub ClientStep : Type 0
ClientStep = Step ClientEntry (Unit {0}) CallFault

-- it is accepted, and this stands then; or it is refused, and the entry stays
abbrev pub becomes : ClientEntry → ClientStep
becomes entry = record { entry = Some entry; outcome = Ok tt }

abbrev pub refused : Option ClientEntry → CallFault → ClientStep
refused entry fault = record { entry = entry; outcome = Err fault }

-- whether the call is over
abbrev pub is_closed : ClientEntry → Bool
is_closed (Done request reply) = true
is_closed (LocateDone request reply) = true
is_closed (Undecoded call fault) = true
is_closed (OnewaySent request) = true
is_closed (Cancelled late.Seen) = true
is_closed (Cancelled late.None) = false
is_closed (Cancelled late.Begun) = false
is_closed (Sending call left) = false
is_closed (Waiting call) = false
is_closed (Gathering call) = false

-- whether pieces of the reply are gathered
abbrev pub is_gathering : ClientEntry → Bool
is_gathering (Gathering call) = true
is_gathering _ = false

-- how many pieces of the call aren't sent yet
abbrev pub left_of : ClientEntry → ℕ
left_of (Sending call left) = left
left_of _ = 0

-- whether a call may begin under the id: it has no entry, or that of a call that is over
abbrev pub is_free : Option ClientEntry → Bool
is_free None = true
is_free (Some entry) = is_closed entry

-- what stands for a call that is sent
abbrev pub sent : Call → ClientEntry
sent (asked.Request request) =
    if is_oneway request then OnewaySent request else Waiting (asked.Request request)
sent (asked.Locate request) = Waiting (asked.Locate request)

-- what stands for one of which so many pieces aren't sent yet
abbrev pub sending : Call → ℕ → ClientEntry
sending call left = if left == 0 then sent call else Sending call left

-- the client calls: absent or closed, else IdInUse
abbrev pub begins : Option ClientEntry → Call → ℕ → ClientStep
begins before call pieces =
    if is_free before then becomes (sending call (pieces - 1)) else refused before IdInUse

-- the next piece of the call is sent
abbrev pub send : Option ClientEntry → ClientStep
send (Some (Sending call left)) = becomes (sending call (left - 1))
send entry = refused entry NothingToSend

-- the client cancels
abbrev pub cancel : Option ClientEntry → ClientStep
cancel (Some (Sending call left)) = becomes (Cancelled late.None)
cancel (Some (Waiting call)) = becomes (Cancelled late.None)
cancel (Some (Gathering call)) = becomes (Cancelled late.Begun)
cancel entry = refused entry NotOpen

-- a message of this kind and version answers the call
abbrev pub answers : CallKind → Version → Call → Bool
answers kind.Request version (asked.Request request) =
    is_same_version request.head.version version
answers kind.Locate version (asked.Locate request) = is_same_version request.version version
answers kind.Request version (asked.Locate request) = false
answers kind.Locate version (asked.Request request) = false

-- what stands for a call whose reply isn't whole: gathered in part, or not begun
abbrev pub expecting : Bool → Call → ClientEntry
expecting true call = Gathering call
expecting false call = Waiting call

-- the last piece of a reply to the call came, and this is what it is
abbrev pub settles : ClientEntry → Call → HeardReply → ClientStep
settles before (asked.Request request) (heard.Reply reply) = becomes (Done request reply)
settles before (asked.Locate request) (heard.Locate reply) = becomes (LocateDone request reply)
settles before call (heard.Undecoded fault) = becomes (Undecoded call fault)
settles before call reply = refused (Some before) WrongKind

-- the first piece of a Reply or a LocateReply comes, and more are to come
abbrev pub first : Option ClientEntry → CallKind → Version → ClientStep
first (Some (Waiting call)) kind version =
    if answers kind version call then becomes (Gathering call)
    else refused (Some (Waiting call)) WrongKind
first (Some (Cancelled late.None)) kind version = becomes (Cancelled late.Begun)
first entry kind version = refused entry UnknownReply

-- a Reply or a LocateReply comes in one piece
abbrev pub whole : Option ClientEntry → CallKind → Version → HeardReply → ClientStep
whole (Some (Waiting call)) kind version reply =
    if answers kind version call then settles (Waiting call) call reply
    else refused (Some (Waiting call)) WrongKind
whole (Some (Cancelled late.None)) kind version reply = becomes (Cancelled late.Seen)
whole entry kind version reply = refused entry UnknownReply

-- a Fragment comes, and more are to come
abbrev pub more : Option ClientEntry → Bool → ClientStep
more (Some (Gathering call)) in_order = if in_order then becomes (Gathering call)
    else refused (Some (Gathering call)) OrderDiffers
more (Some (Cancelled late)) in_order = becomes (Cancelled late)
more entry in_order = refused entry Stray

-- the last Fragment comes
abbrev pub last : Option ClientEntry → Bool → HeardReply → ClientStep
last (Some (Gathering call)) in_order reply =
    if in_order then settles (Gathering call) call reply
    else refused (Some (Gathering call)) OrderDiffers
last (Some (Cancelled late.Begun)) in_order reply = becomes (Cancelled late.Seen)
last (Some (Cancelled late)) in_order reply = becomes (Cancelled late)
last entry in_order reply = refused entry Stray

-- the table: what each event does to a call with this entry, or to an id without one
abbrev pub client_step : Option ClientEntry → ClientEvent → ClientStep
client_step entry (event.Call call pieces) = begins entry call pieces
client_step entry event.Send = send entry
client_step entry event.Cancel = cancel entry
client_step entry (event.First kind version) = first entry kind version
client_step entry (event.Whole kind version reply) = whole entry kind version reply
client_step entry (event.More in_order) = more entry in_order
client_step entry (event.Last in_order reply) = last entry in_order reply

-- what the call came to
abbrev pub outcome : ClientEntry → Outcome Reply
outcome (Done request reply) = ended.Replied reply
outcome (LocateDone request reply) = ended.Located reply.head.status
outcome (Undecoded call fault) = ended.Undecoded
outcome (OnewaySent request) = ended.OneWay
outcome (Cancelled late) = ended.Cancelled
outcome _ = ended.Pending
