-- What the program of `serve` does at its end: after each read it answers what waits for an answer,
-- in ascending order of the ids, and puts every piece out (CORBA 3.3 Part 2, 9.4).
use Rattle.std.specs.Prelude.{◌≡◌, ℕ, ◌<◌, true, false, List, [], length, map, Option, Some, None, Ok}
use Rattle.std.specs.FinMap as finite
use Rattle.giop_types.specs.declared.interfaces.interface.Interface.{Interface}
use Rattle.giop_msg.specs.declared.messages.reply.Reply.{Reply as AnyReply}
use Rattle.giop_calls.specs.declared.server.entry.ServerEntry.{ServerEntry}
use Rattle.giop_calls.specs.declared.fault.CallFault.{CallFault}
use Rattle.giop_calls.specs.declared.server.event.ServerEvent.{ServerEvent}
use Rattle.giop_calls.specs.declared.server.event.ServerEvent.TheVariants as event
use Rattle.giop_calls.specs.declared.server.rule.ServerRule.{ServerRule}
use Rattle.giop_calls.specs.ServerTable.{server_step, is_closed, is_gathering, left_of}
use Rattle.giop_end.specs.declared.acts.form.Form.{Form}
use Rattle.giop_end.specs.declared.end.End.{End}
use Rattle.giop_end.specs.declared.limits.Limits.{Limits}
use Rattle.giop_end.specs.declared.session_fault.SessionFault.{SessionFault}
use Rattle.giop_end.specs.Ends.Begun.{no_calls}
use Rattle.giop_table.specs.CallTable.{Held, rules_of}
use Rattle.giop_end.specs.Hearing.Heard.{in_call}
use Rattle.giop_end.specs.Ends.View.{end_between}
use Rattle.giop_end.specs.Pumping.{Between, between}
use Rattle.giop_table.specs.Sending.{entry_of}
use Rattle.giop_end.specs.Acts.ServerAnswers.{IsAnswer, IsLocateAnswer, answer_fault, locate_in, question_in}
use Rattle.giop_serving.specs.declared.serve.answering.Due.{Due}
use Rattle.giop_serving.specs.declared.serve.answering.Due.TheVariants.{Nothing, Locate, Reply}
use Rattle.giop_serving.specs.declared.serve.given.Serving.{Serving}
use Rattle.giop_serving.specs.declared.serve.in_turn.AnswerName.{AnswerName}
use Rattle.giop_serving.specs.declared.serve.in_turn.Passed.{Passed}
use Rattle.giop_commands.specs.declared.session.SessionTurn.{SessionTurn}
use Rattle.giop_commands.specs.declared.session.SessionTurn.TheVariants.{Ends, GoesOn as goes_on}
use Rattle.giop_commands.specs.Session.Acts.{ActsOrTells, Outbox, SendsAll, outbox, outbox_of}
use Rattle.giop_serving.specs.Serve.Answering.{due_to, reply_of}
use Rattle.giop_commands.specs.Check.{nothing_read, server_hears}
use Rattle.giop_serving.specs.Serve.InTurn.{passed_behind}
use Rattle.giop_serving.specs.Serve.Objects.{Object, object_of}
use Rattle.giop_commands.specs.Session.Steps.{AndThen, Each, Upto}
use Rattle.giop_commands.specs.Session.Traffic.{Traffic}
use Rattle.giop_commands.specs.Session.Turns.{GoesOn, most_turns}

-- the calls of a server
abbrev pub ServerCalls : Type 0
ServerCalls = Held ServerRule ServerEntry

-- a server's end, as contracts see it
abbrev pub ServerSide : Type 0
ServerSide = End ServerRule ServerEntry ServerEvent (Unit {0}) CallFault

-- an end that has no calls and has heard nothing, by the interface and the limits of what is served
pub record IsNew (serving : Serving) (end : ServerSide) : Type 0 where
  pub interface : end.interface.now ≡ serving.interface.now
  pub limits : end.limits ≡ serving.limits
  pub calls : end.calls ≡ no_calls (record {}) serving.limits
  pub unread : end.framer ≡ record { limit = serving.limits.message; octets = [] }
  pub outgoing : end.outgoing ≡ []
  pub fault : end.fault ≡ None

-- the pieces that are left of all answers are put out
abbrev pub AnswersSent : Option SessionFault → Outbox ServerCalls → Option SessionFault
    → Outbox ServerCalls → Type 0
AnswersSent fault =
    SendsAll (λ rule. server_step) (λ rule. is_closed) is_gathering in_call event.Send fault left_of

-- what is served: objects by what they offer, in a form, by an end with these limits
pub record Served : Type 0 where
  pub interface : Interface
  pub objects : List Object
  pub form : Form
  pub limits : Limits

abbrev pub served_of : Serving → Served
served_of serving = record {
  interface = serving.interface.now;
  objects = map object_of serving.objects.now;
  form = serving.form;
  limits = serving.limits;
}

-- the calls of an end and its outgoing octets, and which answers of lists are passed
pub record Desk : Type 0 where
  pub box : Outbox ServerCalls
  pub passed : List AnswerName

abbrev pub desk : Outbox ServerCalls → List AnswerName → Desk
desk box passed = record { box = box; passed = passed }

-- at an end
abbrev pub desk_at : ServerSide → Passed → Desk
desk_at end passed = desk (outbox_of end) passed.names.items

-- an end with these limits, at which this fault stands, if one does
module _ (served : Served) (limits : Limits) (fault : Option SessionFault) where
  -- a Reply to what is stored for an id is sent, unless it is refused
  abbrev pub Replies : ServerEntry → AnyReply → Outbox ServerCalls → Option SessionFault
      → Outbox ServerCalls → Type 0
  Replies entry reply =
      ActsOrTells (rules_of server_step is_closed is_gathering) in_call fault reply.id
      (answer_fault served.interface limits (question_in entry) reply served.form)
      (IsAnswer served.interface (question_in entry) reply served.form)

  -- what is due to what is stored for an id is sent, and what is given by it is passed
  abbrev pub SendsDue : ℕ → ServerEntry → Due → Desk → Option SessionFault → Desk → Type 0
  SendsDue id entry Nothing s refused t = (refused ≡ None) × (t ≡ s)
  SendsDue id entry (Locate here) s refused t =
      ActsOrTells (rules_of server_step is_closed is_gathering) in_call fault id None
      (IsLocateAnswer id here served.form.order (locate_in here entry)) s.box refused t.box
      × (t.passed ≡ s.passed)
  SendsDue id entry (Reply version answer) s refused t =
      Replies entry (reply_of served.interface served.objects s.passed id entry version answer)
      s.box refused t.box
      × (t.passed ≡ passed_behind served.objects s.passed entry answer)

  -- what is stored for an id is answered, where something is
  abbrev pub Answers : ℕ → Option ServerEntry → Desk → Option SessionFault → Desk → Type 0
  Answers id None s refused t = (refused ≡ None) × (t ≡ s)
  Answers id (Some entry) s refused t = SendsDue id entry (due_to served.objects entry) s refused t

  abbrev pub AnswersOne : ℕ → Desk → Option SessionFault → Desk → Type 0
  AnswersOne id s = Answers id (entry_of (finite.get s.box.calls.table id)) s

  -- the pieces that are left are put out, and nothing is passed
  abbrev pub SendsLeft : Desk → Option SessionFault → Desk → Type 0
  SendsLeft s refused t = AnswersSent fault s.box refused t.box × (t.passed ≡ s.passed)

  -- what is stored for each id is answered, ascending, and then the pieces that are left are put
  -- out
  abbrev pub AnswersAll : Desk → Option SessionFault → Desk → Type 0
  AnswersAll s = AndThen (Upto AnswersOne (finite.keys s.box.calls.table)) SendsLeft s

-- an end between a reader and a writer, and which answers of lists are passed
pub record Session : Type 0 where
  pub end : Between ServerCalls
  pub passed : List AnswerName

abbrev pub session : Between ServerCalls → List AnswerName → Session
session end passed = record { end = end; passed = passed }

-- between a reader and a writer of these octets
abbrev pub session_at : (input output : Option (List ℕ)) → ServerSide → Passed → Session
session_at input output end passed = session (end_between input output end) passed.names.items

-- its calls and its outgoing octets, and what is passed
abbrev pub desk_of : Between ServerCalls → List AnswerName → Desk
desk_of s passed = desk (outbox s.state.calls s.outgoing) passed

-- the same end with others of these
abbrev pub with_desk : Between ServerCalls → Desk → Session
with_desk s t = session
    (between s.input s.output t.box.outgoing s.state.unread t.box.calls s.state.fault) t.passed

module _ (served : Served) (limits : Limits) where
  -- the session continues behind a turn, and what waits for an answer is answered
  pub record TurnAnswers (s : Session) (refused : Option SessionFault) (t : Session) : Type 0 where
    pub mid : Between ServerCalls
    pub turn : GoesOn (server_hears served.interface) s.end (Ok true) mid
    pub left : Desk
    pub answers : AnswersAll served limits mid.state.fault (desk_of mid s.passed) refused left
    pub others : t ≡ with_desk mid left

  -- so it goes, turn by turn, up to one that ends the session, or behind which an answer is refused
  abbrev pub ServeEnds : Session → Option SessionFault → Session → Type 0
  ServeEnds s None t =
      GoesOn (server_hears served.interface) s.end (Ok false) t.end × (t.passed ≡ s.passed)
  ServeEnds s (Some why) t = TurnAnswers s (Some why) t

  -- what a turn comes to: the session goes on, or ends
  abbrev pub Goes : Session → SessionTurn → Session → Type 0
  Goes s goes_on t = TurnAnswers s None t
  Goes s (Ends refused) t = ServeEnds s refused t

  pub record Converses (s : Session) (refused : Option SessionFault) (t : Session) : Type 0 where
    pub turns : List ℕ
    pub few : length turns < most_turns
    pub mid : Session
    pub each : Each (λ turn s t. TurnAnswers s None t) turns s mid
    pub ends : ServeEnds mid refused t

-- ---- of an end over pipes, by what passed, and by which answers of lists were passed and are
module _ (serving : Serving) (old new : ServerSide) (was is : Passed) where
  -- what a turn comes to
  abbrev pub GoesOver : SessionTurn → Traffic → Type 0
  GoesOver turn over =
      Goes (served_of serving) old.limits
      (session_at over.input.before over.output.before old was) turn
      (session_at over.input.after over.output.after new is)

  -- turn by turn
  abbrev pub ConversesOver : Option SessionFault → Traffic → Type 0
  ConversesOver refused over =
      Converses (served_of serving) old.limits
      (session_at over.input.before over.output.before old was) refused
      (session_at over.input.after over.output.after new is)

-- a new server's end with these limits, between a reader and a writer
abbrev pub new_server : Limits → Option (List ℕ) → Option (List ℕ) → Between ServerCalls
new_server limits input output =
    between input output [] (nothing_read limits) (no_calls (record {}) limits) None
