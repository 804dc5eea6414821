-- What the session's own ends put on a lane: the calls and replies that they plan to send (CORBA
-- 3.3 Part 2, 9.4.2, 9.4.3, 9.4.5, 9.4.6 and 9.4.9).
use Rattle.std.specs.Prelude.{◌≡◌, ℕ, Bool, false, if◌then◌else◌, List, [], ◌∷◌, Option, Some, None, true}
use Rattle.giop_cdr.specs.declared.order.Order.{Order}
use Rattle.giop_types.specs.declared.interfaces.interface.Interface.{Interface}
use Rattle.giop_msg.specs.Locate.{AnyLocateRequest}
use Rattle.giop_msg.specs.declared.messages.locate_reply.LocateReply.{LocateReply}
use Rattle.giop_msg.specs.declared.messages.reply.Reply.{Reply}
use Rattle.giop_msg.specs.declared.messages.request.Request.{Request}
use Rattle.giop_calls.specs.Lane.{Act, Cut, Lane, Piece, count, pieces_of, step}
use Rattle.giop_calls.specs.Lane as lanes
use Rattle.giop_calls.specs.Messages.{is_oneway, is_same_version}
use Rattle.giop_calls.specs.declared.client.call.Call.{Call}
use Rattle.giop_calls.specs.declared.client.call.Call.TheVariants as asked
use Rattle.giop_calls.specs.declared.client.entry.ClientEntry.{ClientEntry}
use Rattle.giop_calls.specs.declared.client.event.ClientEvent.{ClientEvent}
use Rattle.giop_calls.specs.declared.client.event.ClientEvent.TheVariants as at_client
use Rattle.giop_calls.specs.declared.fault.CallFault.{CallFault}
use Rattle.giop_calls.specs.declared.server.entry.ServerEntry.TheVariants.{Asked, LocateAsked}
use Rattle.giop_calls.specs.declared.server.event.ServerEvent.{ServerEvent}
use Rattle.giop_calls.specs.declared.server.event.ServerEvent.TheVariants as at_server
use Rattle.giop_end.specs.declared.acts.form.Form.{Form}
use Rattle.giop_end.specs.declared.limits.Limits.{Limits}
use Rattle.giop_table.specs.declared.plan.Plan.TheVariants.{Put}
use Rattle.giop_table.specs.declared.plan.Planned.{Planned}
use Rattle.giop_end.specs.Acts.ClientCalls.{IsCall, IsLocate, call_fault, locate_fault}
use Rattle.giop_session.specs.Worlds.Coding.{coding}
use Rattle.giop_end.specs.Acts.Form.{IsForm}
use Rattle.giop_end.specs.Acts.Sent.{sends_one}
use Rattle.giop_end.specs.Acts.ServerAnswers.{IsAnswer, IsLocateAnswer, answer_fault}

-- an event that sends a message in these pieces, and tells how many
abbrev pub sends_cut : {V : Type 0} → (ℕ → V) → Cut → Planned V
sends_cut event cut = record { event = event (count cut); plan = Put (pieces_of cut) }

-- a message is planned to be sent: within some limits and in some form, where nothing refuses it
pub record IsPlanned {V : Type 0} (fault : Limits → Form → Option CallFault)
    (Plans : Form → Planned V → Type 0) (planned : Planned V) : Type 0 where
  pub limits : Limits
  pub form : Form
  pub is_form : IsForm form
  pub unrefused : fault limits form ≡ None
  pub plans : Plans form planned

-- a client's end plans a call, where this stands under its id
abbrev pub PlansCall : Interface → Option ClientEntry → Call → Planned ClientEvent → Type 0
PlansCall interface entry (asked.Request q) =
    IsPlanned (λ limits. call_fault interface limits entry q) (IsCall interface q)
PlansCall interface entry (asked.Locate q) =
    IsPlanned (λ limits. locate_fault limits entry q) (IsLocate q)

-- a server's end plans a Reply to a Request
abbrev pub PlansReply : Interface → Request → Reply → Planned ServerEvent → Type 0
PlansReply interface q r =
    IsPlanned (λ limits. answer_fault interface limits (Some (Some q)) r)
    (IsAnswer interface (Some (Some q)) r)

-- and a LocateReply to a LocateRequest
abbrev pub PlansLocated : AnyLocateRequest → Bool → Planned ServerEvent → Type 0
PlansLocated q here planned = (id : ℕ) × (order : Order)
    × IsLocateAnswer id here order (Some q.version) planned

-- these in the pieces of a cut
abbrev pub SendsCall : Interface → Option ClientEntry → Call → Cut → Type 0
SendsCall interface entry call cut =
    PlansCall interface entry call (sends_cut (at_client.Call call) cut)

abbrev pub SendsReply : Interface → Request → Reply → Cut → Type 0
SendsReply interface q r cut = PlansReply interface q r (sends_cut (at_server.Answer r) cut)

abbrev pub SendsLocated : AnyLocateRequest → Bool → Piece → Type 0
SendsLocated q here piece = PlansLocated q here (sends_one (at_server.AnswerLocate here) piece)

-- an act of a lane is what the session's own ends plan there
abbrev pub IsOwn : Interface → Lane → Act → Type 0
IsOwn interface lane (lanes.Calls call cut) =
    PlansCall interface lane.client.entry call (sends_cut (at_client.Call call) cut)
IsOwn interface lane (lanes.Answers r cut) = (q : Request) → lane.server.entry ≡ Some (Asked q)
    → PlansReply interface q r (sends_cut (at_server.Answer r) cut)
IsOwn interface lane (lanes.Locates here piece) =
    (q : AnyLocateRequest) → lane.server.entry ≡ Some (LocateAsked q)
    → PlansLocated q here (sends_one (at_server.AnswerLocate here) piece)
IsOwn interface lane act = Unit {0}

-- a schedule of such acts leads from one lane to another
abbrev pub OwnRuns : Interface → Lane → List Act → Lane → Type 0
OwnRuns interface lane [] end = lane ≡ end
OwnRuns interface lane (act ∷ acts) end = IsOwn interface lane act
    × ((after : Lane) × (step (coding interface) lane act ≡ Some after)
    × OwnRuns interface after acts end)

-- such a schedule brings a new lane's client to this entry
abbrev pub BringsClient : Interface → List Act → ClientEntry → Type 0
BringsClient interface acts entry = (lane : Lane) × OwnRuns interface lanes.new acts lane
    × (lane.client.entry ≡ Some entry)

-- a message in one piece
abbrev pub alone : Piece → Cut
alone piece = record { first = piece; rest = [] }

-- a Request is called in one piece, arrives, is answered in one, and that arrives
abbrev pub replied_run : Request → Reply → (one other : Piece) → List Act
replied_run q r one other =
    lanes.Calls (asked.Request q) (alone one) ∷ lanes.ToServer
    ∷ lanes.Answers r (alone other) ∷ lanes.ToClient ∷ []

-- so a LocateRequest
abbrev pub located_run : AnyLocateRequest → Bool → (one other : Piece) → List Act
located_run q here one other =
    lanes.Calls (asked.Locate q) (alone one) ∷ lanes.ToServer
    ∷ lanes.Locates here other ∷ lanes.ToClient ∷ []

-- a Request wants a Reply, and this one is of its version
abbrev pub IsAnswerable : Request → Reply → Type 0
IsAnswerable q r =
    (is_oneway q ≡ false) × (is_same_version q.head.version r.version ≡ true)

-- a client's end sends a Request in one piece, and a server's end a Reply to it in one
abbrev pub IsReplied : Interface → Request → Reply → (one other : Piece) → Type 0
IsReplied interface q r one other =
    SendsCall interface None (asked.Request q) (alone one) × SendsReply interface q r (alone other)

-- so a LocateRequest, and a LocateReply to it
abbrev pub IsLocated : Interface → AnyLocateRequest → Bool → (one other : Piece) → Type 0
IsLocated interface q here one other =
    SendsCall interface None (asked.Locate q) (alone one) × SendsLocated q here other

-- a LocateReply says whether the object is here, and no more (9.4.6)
abbrev pub SaysWhether : Bool → LocateReply → Type 0
SaysWhether here told = (told.head.status ≡ (if here then 1 else 0)) × (told.rest ≡ [])
