-- What `serve --stream` and `call --stream` do with the calls that are over: after each turn they
-- are told, in ascending order of their ids, and taken out.
use Rattle.std.specs.Prelude.{◌≡◌, ℕ, ◌<◌, Bool, false, List, [], ◌∷◌, ◌++◌, length, take, Option, Some, None, if◌then◌else◌}
use Rattle.std.specs.FinMap as finite
use Rattle.std.specs.List.{flat_map}
use Rattle.std.specs.Io.KnownBytes.{Appends}
use Rattle.giop_ids.specs.ById.{ById, put}
use Rattle.giop_msg.specs.Stream.{Unread}
use Rattle.giop_table.specs.declared.slot.Slot.{Slot}
use Rattle.giop_end.specs.declared.limits.Limits.{Limits}
use Rattle.giop_end.specs.declared.session_fault.SessionFault.{SessionFault}
use Rattle.giop_table.specs.CallTable.{Held}
use Rattle.giop_table.specs.Sending.{entry_of}
use Rattle.giop_types.specs.declared.json.interface.Interface.{Interface}
use Rattle.giop_end.specs.Pumping.{Between, between}
use Rattle.giop_calls.specs.ServerTable.{is_closed}
use Rattle.giop_commands.specs.declared.serve.given.Serving.{Serving}
use Rattle.giop_commands.specs.declared.serve.in_turn.AnswerName.{AnswerName}
use Rattle.giop_commands.specs.declared.serve.in_turn.Passed.{Passed}
use Rattle.giop_commands.specs.declared.session.given.Showing.{Showing}
use Rattle.giop_show.specs.declared.form.LineForm.{LineForm}
use Rattle.giop_show.specs.declared.status.Status.{Status}
use Rattle.giop_show.specs.Dump.Text.{ended}
use Rattle.giop_commands.specs.Session.FaultLines.{last_in}
use Rattle.giop_commands.specs.Serve.Serving.{ServeEnds, Served, ServerCalls, ServerSide, Session, TurnAnswers, new_server, served_of, session, session_at}
use Rattle.giop_commands.specs.Session.Printed.{Wire, connection_in, serve_status, told}
use Rattle.giop_commands.specs.Session.Steps.{Each}
use Rattle.giop_commands.specs.Serve.StreamLines.{server_told_in}
use Rattle.giop_commands.specs.Session.Table.{table_text, text_at}
use Rattle.giop_commands.specs.Session.Traffic.{Traffic}
use Rattle.giop_commands.specs.Session.Turns.{most_turns}

-- ---- the calls that are over

-- of calls that are over by this
module _ {E : Type 0} (closed : E → Bool) where
  -- whether something is stored, of a call that is over
  abbrev pub has_ended : Option E → Bool
  has_ended (Some entry) = closed entry
  has_ended None = false

  abbrev pub ended_at : ById (Slot E) → ℕ → Bool
  ended_at table id = has_ended (entry_of (finite.get table id))

  -- the line of what is stored for an id, where its call is over
  abbrev pub over_at : (ℕ → E → List ℕ) → ById (Slot E) → ℕ → List ℕ
  over_at line table id = if ended_at table id then text_at line table id else []

  -- a line for each id whose call is over, ascending
  abbrev pub over_text : (ℕ → E → List ℕ) → ById (Slot E) → List ℕ
  over_text line table = flat_map (over_at line table) (finite.keys table)

  -- a table without what is stored for an id, where its call is over
  abbrev pub without_ended : ℕ → ById (Slot E) → ById (Slot E)
  without_ended id table = if ended_at table id then put table id None else table

  -- a table without the calls of these ids that are over
  abbrev pub without_over : List ℕ → ById (Slot E) → ById (Slot E)
  without_over [] table = table
  without_over (id ∷ ids) table = without_over ids (without_ended id table)

  -- of the calls of these ids that are over, those of the first ids are out, and all others stay
  abbrev pub OutInPart : List ℕ → ById (Slot E) → ById (Slot E) → Type 0
  OutInPart ids old new = (n : ℕ) × (new ≡ without_over (take n ids) old)

  -- and they are those that have their lines
  abbrev pub ToldInPart :
      (ℕ → E → List ℕ) → List ℕ → ById (Slot E) → ById (Slot E) → Option (List ℕ) → Option (List ℕ) → Type 0
  ToldInPart line ids old new was now =
      (n : ℕ) × (new ≡ without_over (take n ids) old)
      × Appends was now (flat_map (over_at line old) (take n ids))

-- of the calls of an end, by which are over at its side and how they are told there, those of the
-- first of these ids have their lines and are out
abbrev pub SomeTold : {R E : Type 0} → (R → E → Bool) → (LineForm → Interface → ℕ → E → List ℕ)
    → Showing → List ℕ → (old new : Held R E) → (was now : Option (List ℕ)) → Type 0
SomeTold closed told showing ids old new =
    ToldInPart (closed old.rule) (told showing.lines showing.interface.now) ids old.table new.table

-- the lines of those of these ids whose calls are over
abbrev pub over_lines : {R E : Type 0} → (R → E → Bool) → (LineForm → Interface → ℕ → E → List ℕ)
    → Showing → List ℕ → Held R E → List ℕ
over_lines closed told showing ids calls =
    flat_map (over_at (closed calls.rule) (told showing.lines showing.interface.now) calls.table) ids

-- ---- a connection that is served so

-- the same calls without those that are over
abbrev pub still_open : ServerCalls → ServerCalls
still_open calls = record calls {
  table = without_over is_closed (finite.keys calls.table) calls.table;
}

-- a session, and what is printed of it so far, where that is known
pub record Shown : Type 0 where
  pub session : Session
  pub text : Option (List ℕ)

abbrev pub shown : Session → Option (List ℕ) → Shown
shown session text = record { session = session; text = text }

-- an end of which the calls that are over are taken out
abbrev pub opened : Between ServerCalls → Between ServerCalls
opened s = between s.input s.output s.outgoing s.state.unread (still_open s.state.calls) s.state.fault

module _ (served : Served) (limits : Limits) (lines : LineForm) where
  -- behind a turn and its answers, the calls that are over are told and taken out
  pub record TurnTells (s t : Shown) : Type 0 where
    pub mid : Session
    pub answers : TurnAnswers served limits s.session None mid
    pub tells :
        Appends s.text t.text
        (over_text is_closed (server_told_in lines served.interface) mid.end.state.calls.table)
    pub left : t.session ≡ session (opened mid.end) mid.passed

  -- so it goes, turn by turn, up to one that ends the session, or behind which an answer is refused
  pub record Streams (s : Shown) (refused : Option SessionFault) (t : Shown) : Type 0 where
    pub turns : List ℕ
    pub few : length turns < most_turns
    pub mid : Shown
    pub each : Each (λ turn s t. TurnTells s t) turns s mid
    pub ends : ServeEnds served limits mid.session refused t.session
    pub text : t.text ≡ mid.text

-- the turns of an end over pipes, by what passed, and by which answers of lists were passed and are
abbrev pub StreamsOver : Serving → (old new : ServerSide) → (was is : Passed)
    → Option SessionFault → Traffic → Type 0
StreamsOver serving old new was is refused over =
    Streams (served_of serving) old.limits serving.lines
    (shown (session_at over.input.before over.output.before old was) over.text.before) refused
    (shown (session_at over.input.after over.output.after new is) over.text.after)

-- what is told at the end: what is left, and the last line
abbrev pub left_text : LineForm → Interface → ServerCalls → Option SessionFault → Unread → List ℕ
left_text lines interface left fault unread =
    table_text (server_told_in lines interface) left.table
    ++ ended (last_in lines fault (length unread.octets))

-- a connection of this number was served by a new server's end: what is printed in a form is its
-- number, each call when it is over, and then what is left, and the last line. Before and behind it
-- these answers of lists are passed
pub record IsStreamed (number : ℕ) (served : Served) (lines : LineForm) (before after : Wire)
    (old_passed new_passed : List AnswerName) (old new : Option (List ℕ)) (status : Status) : Type 0 where
  pub named : Option (List ℕ)
  pub name : Appends old named (ended (connection_in lines number))
  pub refused : Option SessionFault
  pub outgoing : List ℕ
  pub unread : Unread
  pub left : ServerCalls
  pub fault : Option SessionFault
  pub text : Option (List ℕ)
  pub streams :
      Streams served served.limits lines
      (shown (session (new_server served.limits before.input before.output) old_passed) named) refused
      (shown (session (between after.input after.output outgoing unread left fault) new_passed) text)
  pub last : Appends text new (left_text lines served.interface left (told refused fault) unread)
  pub is : status ≡ serve_status (told refused fault)
