-- The table of a server's steps: what each event does to one call (CORBA 3.3 Part 2, 9.4 and 9.6).
use Rattle.std.specs.Prelude.{ℕ, ◌==◌, ◌-◌, ◌&&◌, Bool, true, false, not, if◌then◌else◌, Option, Some, None, is_some, is_none, Ok, Err}
use Rattle.giop_mux.specs.declared.step.Step.{Step}
use Rattle.giop_msg.specs.declared.messages.reply.Reply.{Reply}
use Rattle.giop_calls.specs.declared.kind.CallKind.{CallKind}
use Rattle.giop_calls.specs.declared.kind.CallKind.TheVariants as kind
use Rattle.giop_calls.specs.declared.fault.CallFault.{CallFault}
use Rattle.giop_calls.specs.declared.fault.CallFault.TheVariants.{IdInUse, Stray, OrderDiffers, WrongKind, NotOpen, Unfit, NothingToSend}
use Rattle.giop_calls.specs.declared.outcome.Outcome.{Outcome}
use Rattle.giop_calls.specs.declared.outcome.Outcome.TheVariants as ended
use Rattle.giop_calls.specs.declared.server.question.Question.TheVariants as question
use Rattle.giop_calls.specs.declared.server.undecoded.UndecodedCall.{UndecodedCall}
use Rattle.giop_calls.specs.declared.server.heard.HeardCall.{HeardCall}
use Rattle.giop_calls.specs.declared.server.heard.HeardCall.TheVariants as heard
use Rattle.giop_calls.specs.declared.server.entry.ServerEntry.{ServerEntry}
use Rattle.giop_calls.specs.declared.server.entry.ServerEntry.TheVariants.{Gathering, Asked, Undecoded, LocateAsked, Answered, LocateAnswered, Delivered, Cancelled}
use Rattle.giop_calls.specs.declared.server.event.ServerEvent.{ServerEvent}
use Rattle.giop_calls.specs.declared.server.event.ServerEvent.TheVariants as event
use Rattle.giop_calls.specs.Messages.{is_oneway, is_same_version, is_system_exception}

-- what an event does to the entry of a call
abbrev pub ServerStep : Type 0
ServerStep = Step ServerEntry (Unit {0}) CallFault

-- it is accepted, and this stands then; or it is refused, and the entry stays
abbrev pub becomes : ServerEntry → ServerStep
becomes entry = record { entry = Some entry; outcome = Ok tt }

abbrev pub refused : Option ServerEntry → CallFault → ServerStep
refused entry fault = record { entry = entry; outcome = Err fault }

-- what becomes of a call where a test holds, and else its refusal
abbrev pub becomes_if : Bool → ServerEntry → ServerEntry → CallFault → ServerStep
becomes_if test before after fault =
    if test then becomes after else refused (Some before) fault

-- whether the call is over
abbrev pub is_closed : ServerEntry → Bool
is_closed (Answered asked reply left) = left == 0
is_closed (Cancelled answered left) = left == 0
is_closed (LocateAnswered target here) = true
is_closed (Delivered request) = true
is_closed (Undecoded call) = is_none call.expects
is_closed (Gathering kind) = false
is_closed (Asked request) = false
is_closed (LocateAsked request) = false

-- whether pieces of the call are gathered
abbrev pub is_gathering : ServerEntry → Bool
is_gathering (Gathering kind) = true
is_gathering _ = false

-- how many pieces of the reply aren't sent yet
abbrev pub left_of : ServerEntry → ℕ
left_of (Answered asked reply left) = left
left_of (Cancelled answered left) = left
left_of _ = 0

-- whether a call may begin under the id: it has no entry, or that of a call that is over
abbrev pub is_free : Option ServerEntry → Bool
is_free None = true
is_free (Some entry) = is_closed entry

-- what stands for a whole message
abbrev pub arrived : HeardCall → ServerEntry
arrived (heard.Request request) =
    if is_oneway request then Delivered request else Asked request
arrived (heard.Locate request) = LocateAsked request
arrived (heard.Undecoded call) = Undecoded call

-- a Request or a LocateRequest comes, and this stands then: absent or closed, else IdInUse
abbrev pub begins : Option ServerEntry → ServerEntry → ServerStep
begins before after = if is_free before then becomes after else refused before IdInUse

-- a Fragment comes, and more are to come
abbrev pub more : Option ServerEntry → Bool → ServerStep
more (Some (Gathering kind)) in_order =
    becomes_if in_order (Gathering kind) (Gathering kind) OrderDiffers
more (Some (Cancelled answered left)) in_order = becomes (Cancelled answered left)
more entry in_order = refused entry Stray

-- the last Fragment comes
abbrev pub last : Option ServerEntry → Bool → HeardCall → ServerStep
last (Some (Gathering kind)) in_order call =
    becomes_if in_order (Gathering kind) (arrived call) OrderDiffers
last (Some (Cancelled answered left)) in_order call = becomes (Cancelled answered left)
last entry in_order call = refused entry Stray

-- a CancelRequest comes: it is never refused
abbrev pub cancel : Option ServerEntry → ServerStep
cancel (Some (Gathering kind)) = becomes (Cancelled false 0)
cancel (Some (Asked request)) = becomes (Cancelled false 0)
cancel (Some (LocateAsked request)) = becomes (Cancelled false 0)
cancel (Some (Undecoded call)) =
    becomes (if is_some call.expects then Cancelled false 0 else Undecoded call)
cancel (Some (Answered asked reply left)) = becomes (Cancelled true left)
cancel (Some (LocateAnswered target here)) = becomes (Cancelled true 0)
cancel (Some (Delivered request)) = becomes (Delivered request)
cancel (Some (Cancelled answered left)) = becomes (Cancelled answered left)
cancel None = record { entry = None; outcome = Ok tt }

-- the server answers a Request that couldn't be decoded, or a LocateRequest like that
abbrev pub answer_undecoded : Option CallKind → UndecodedCall → Reply → ℕ → ServerStep
answer_undecoded None call reply pieces = refused (Some (Undecoded call)) NotOpen
answer_undecoded (Some kind.Locate) call reply pieces = refused (Some (Undecoded call)) WrongKind
answer_undecoded (Some kind.Request) call reply pieces =
    becomes_if (is_system_exception reply.body && is_same_version call.version reply.version)
    (Undecoded call) (Answered (question.Undecoded call.fault) reply (pieces - 1)) Unfit

-- the server answers a Request
abbrev pub answer : Option ServerEntry → Reply → ℕ → ServerStep
answer (Some (Asked request)) reply pieces =
    becomes_if (is_same_version request.head.version reply.version)
    (Asked request) (Answered (question.Request request) reply (pieces - 1)) Unfit
answer (Some (Undecoded call)) reply pieces =
    answer_undecoded call.expects call reply pieces
answer (Some (LocateAsked request)) reply pieces = refused (Some (LocateAsked request)) WrongKind
answer entry reply pieces = refused entry NotOpen

-- the server answers a LocateRequest that couldn't be decoded, or a Request like that
abbrev pub answer_locate_undecoded : Option CallKind → UndecodedCall → Bool → ServerStep
answer_locate_undecoded None call here = refused (Some (Undecoded call)) NotOpen
answer_locate_undecoded (Some kind.Request) call here = refused (Some (Undecoded call)) WrongKind
answer_locate_undecoded (Some kind.Locate) call here =
    becomes_if (not here) (Undecoded call) (LocateAnswered None false) Unfit

-- the server answers a LocateRequest
abbrev pub answer_locate : Option ServerEntry → Bool → ServerStep
answer_locate (Some (LocateAsked request)) here =
    becomes (LocateAnswered (Some request.target) here)
answer_locate (Some (Undecoded call)) here =
    answer_locate_undecoded call.expects call here
answer_locate (Some (Asked request)) here = refused (Some (Asked request)) WrongKind
answer_locate entry here = refused entry NotOpen

-- the next piece of the reply is sent
abbrev pub send : Option ServerEntry → ServerStep
send (Some (Answered asked reply left)) =
    if left == 0 then refused (Some (Answered asked reply left)) NothingToSend
    else becomes (Answered asked reply (left - 1))
send (Some (Cancelled answered left)) =
    if left == 0 then refused (Some (Cancelled answered left)) NothingToSend
    else becomes (Cancelled answered (left - 1))
send entry = refused entry NothingToSend

-- the table: what each event does to a call with this entry, or to an id without one
abbrev pub server_step : Option ServerEntry → ServerEvent → ServerStep
server_step entry (event.First kind) = begins entry (Gathering kind)
server_step entry (event.Whole call) = begins entry (arrived call)
server_step entry (event.More in_order) = more entry in_order
server_step entry (event.Last in_order call) = last entry in_order call
server_step entry event.Cancel = cancel entry
server_step entry (event.Answer reply pieces) = answer entry reply pieces
server_step entry (event.AnswerLocate here) = answer_locate entry here
server_step entry event.Send = send entry

-- what the call came to
abbrev pub outcome : ServerEntry → Outcome Reply
outcome (Answered asked reply left) =
    if left == 0 then ended.Replied reply else ended.Pending
outcome (LocateAnswered target here) = ended.Located (if here then 1 else 0)
outcome (Delivered request) = ended.OneWay
outcome (Cancelled answered left) = ended.Cancelled
outcome (Undecoded call) = if is_some call.expects then ended.Pending else ended.Undecoded
outcome _ = ended.Pending
