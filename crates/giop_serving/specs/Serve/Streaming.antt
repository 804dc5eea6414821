-- A connection that `serve --stream` serves: after each turn the calls that are over are told, and
-- taken out.
use Rattle.std.specs.Prelude.{◌≡◌, ℕ, ◌<◌, List, ◌++◌, length, Option, None}
use Rattle.std.specs.FinMap as finite
use Rattle.std.specs.Io.KnownBytes.{Appends}
use Rattle.giop_msg.specs.Stream.{Unread}
use Rattle.giop_end.specs.declared.limits.Limits.{Limits}
use Rattle.giop_end.specs.declared.session_fault.SessionFault.{SessionFault}
use Rattle.giop_types.specs.declared.interfaces.interface.Interface.{Interface}
use Rattle.giop_end.specs.Pumping.{Between, between}
use Rattle.giop_calls.specs.ServerTable.{is_closed}
use Rattle.giop_serving.specs.declared.serve.given.Serving.{Serving}
use Rattle.giop_serving.specs.declared.serve.in_turn.AnswerName.{AnswerName}
use Rattle.giop_serving.specs.declared.serve.in_turn.Passed.{Passed}
use Rattle.giop_forms.specs.declared.line_form.LineForm.{LineForm}
use Rattle.giop_show.specs.declared.status.Status.{Status}
use Rattle.giop_show.specs.Forms.{ended}
use Rattle.giop_commands.specs.Session.Faults.Lines.{last_in}
use Rattle.giop_serving.specs.Serve.Serving.{ServeEnds, Served, ServerCalls, ServerSide, Session, TurnAnswers, new_server, served_of, session, session_at}
use Rattle.giop_commands.specs.Session.Printed.{Wire, told}
use Rattle.giop_serving.specs.Serve.Printed.{connection_in, serve_status}
use Rattle.giop_commands.specs.Session.Steps.{Each}
use Rattle.giop_commands.specs.Session.StreamLines.{server_told_in}
use Rattle.giop_commands.specs.Session.Tables.Table.{table_text}
use Rattle.giop_commands.specs.Session.Traffic.{Traffic}
use Rattle.giop_commands.specs.Session.Turns.{most_turns}
use Rattle.giop_commands.specs.Session.Streaming.{over_text, without_over}

-- the same calls without those that are over
abbrev pub still_open : ServerCalls → ServerCalls
still_open calls = record calls {
  table = without_over is_closed (finite.keys calls.table) calls.table;
}

-- a session, and what is printed of it so far, where that is known
pub record Shown : Type 0 where
  pub session : Session
  pub text : Option (List ℕ)

abbrev pub shown : Session → Option (List ℕ) → Shown
shown session text = record { session = session; text = text }

-- an end of which the calls that are over are taken out
abbrev pub opened : Between ServerCalls → Between ServerCalls
opened s = between s.input s.output s.outgoing s.state.unread (still_open s.state.calls) s.state.fault

module _ (served : Served) (limits : Limits) (lines : LineForm) where
  -- behind a turn and its answers, the calls that are over are told and taken out
  pub record TurnTells (s t : Shown) : Type 0 where
    pub mid : Session
    pub answers : TurnAnswers served limits s.session None mid
    pub tells :
        Appends s.text t.text
        (over_text is_closed (server_told_in lines served.interface) mid.end.state.calls.table)
    pub left : t.session ≡ session (opened mid.end) mid.passed

  -- so it goes, turn by turn, up to one that ends the session, or behind which an answer is refused
  pub record Streams (s : Shown) (refused : Option SessionFault) (t : Shown) : Type 0 where
    pub turns : List ℕ
    pub few : length turns < most_turns
    pub mid : Shown
    pub each : Each (λ turn s t. TurnTells s t) turns s mid
    pub ends : ServeEnds served limits mid.session refused t.session
    pub text : t.text ≡ mid.text

-- the turns of an end over pipes, by what passed, and by which answers of lists were passed and are
abbrev pub StreamsOver : Serving → (old new : ServerSide) → (was is : Passed)
    → Option SessionFault → Traffic → Type 0
StreamsOver serving old new was is refused over =
    Streams (served_of serving) old.limits serving.lines
    (shown (session_at over.input.before over.output.before old was) over.text.before) refused
    (shown (session_at over.input.after over.output.after new is) over.text.after)

-- what is told at the end: what is left, and the last line
abbrev pub left_text : LineForm → Interface → ServerCalls → Option SessionFault → Unread → List ℕ
left_text lines interface left fault unread =
    table_text (server_told_in lines interface) left.table
    ++ ended (last_in lines fault (length unread.octets))

-- a connection of this number was served by a new server's end: what is printed in a form is its
-- number, each call when it is over, and then what is left, and the last line. Before and behind it
-- these answers of lists are passed
pub record IsStreamed (number : ℕ) (served : Served) (lines : LineForm) (before after : Wire)
    (old_passed new_passed : List AnswerName) (old new : Option (List ℕ)) (status : Status) : Type 0 where
  pub named : Option (List ℕ)
  pub name : Appends old named (ended (connection_in lines number))
  pub refused : Option SessionFault
  pub outgoing : List ℕ
  pub unread : Unread
  pub left : ServerCalls
  pub fault : Option SessionFault
  pub text : Option (List ℕ)
  pub streams :
      Streams served served.limits lines
      (shown (session (new_server served.limits before.input before.output) old_passed) named) refused
      (shown (session (between after.input after.output outgoing unread left fault) new_passed) text)
  pub last : Appends text new (left_text lines served.interface left (told refused fault) unread)
  pub is : status ≡ serve_status (told refused fault)
