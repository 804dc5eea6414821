-- What `call --stream` does at its end: calls are made as there is room for them, and after each
-- turn those that are over are told and taken out (CORBA 3.3 Part 2, 9.4.2).
use Rattle.std.specs.Prelude.{◌≡◌, ◌⊎◌, ℕ, nat_lt, ◌<◌, ◌==◌, ◌&&◌, Bool, true, false, List, [], ◌∷◌, ◌++◌, length, Option, Some, None, Ok, if◌then◌else◌}
use Rattle.std.specs.FinMap as finite
use Rattle.std.specs.List.{flat_map, list_all}
use Rattle.std.specs.Io.KnownBytes.{Appends}
use Rattle.giop_ids.specs.ById.{ById}
use Rattle.giop_msg.specs.Stream.{Unread}
use Rattle.giop_calls.specs.declared.client.entry.ClientEntry.{ClientEntry}
use Rattle.giop_calls.specs.ClientTable.{is_closed}
use Rattle.giop_types.specs.declared.interfaces.interface.Interface.{Interface}
use Rattle.giop_table.specs.declared.slot.Slot.{Slot}
use Rattle.giop_end.specs.declared.limits.Limits.{Limits}
use Rattle.giop_end.specs.declared.session_fault.SessionFault.{SessionFault}
use Rattle.giop_end.specs.Ends.Begun.{no_calls}
use Rattle.giop_table.specs.Sending.{entry_of}
use Rattle.giop_end.specs.Ends.View.{end_between}
use Rattle.giop_end.specs.Pumping.{Between, between}
use Rattle.giop_call_lines.specs.SessionJson.{unsent_json}
use Rattle.giop_call_lines.specs.TableLines.{unsent_line}
use Rattle.giop_asked_calls.specs.declared.calls.CallLine.{CallLine}
use Rattle.giop_calling.specs.declared.call.given.Calling.{Calling}
use Rattle.giop_commands.specs.declared.session.SessionTurn.{SessionTurn}
use Rattle.giop_commands.specs.declared.session.SessionTurn.TheVariants.{Ends, GoesOn as goes_on}
use Rattle.giop_forms.specs.declared.line_form.LineForm.{LineForm}
use Rattle.giop_show.specs.declared.status.Status.{Status}
use Rattle.giop_show.specs.declared.status.Status.TheVariants.{Done}
use Rattle.giop_commands.specs.Session.Acts.{Outbox, outbox}
use Rattle.giop_calling.specs.Call.Calling.{Asked, CallsOne, CallsSent, ClientCalls, ClientSide, are_over, asked_of, client_hears, entry_at}
use Rattle.giop_commands.specs.Check.{nothing_read}
use Rattle.giop_show.specs.Forms.{ended, line_in}
use Rattle.giop_commands.specs.Session.Printed.{Wire, fault_text, told}
use Rattle.giop_calling.specs.Call.Printed.{all_well, is_well, unwell_status}
use Rattle.giop_commands.specs.Session.Faults.Broken.{broken_status}
use Rattle.giop_commands.specs.Session.Steps.{AndThen, Each}
use Rattle.giop_commands.specs.Session.Streaming.{has_ended, over_text, without_over}
use Rattle.giop_commands.specs.Session.Tables.Table.{client_entry_in, table_text}
use Rattle.giop_commands.specs.Session.Turns.{GoesOn, WritesOut, most_turns}
use Rattle.giop_commands.specs.Session.Traffic.{Traffic}

-- ---- calls are made as there is room

-- whether nothing stands under an id
abbrev pub is_vacant : Option ClientEntry → Bool
is_vacant (Some entry) = false
is_vacant None = true

-- so many octets are outgoing at most before another call is made: what one read may give
abbrev pub most_outgoing : ℕ
most_outgoing = 4096

-- whether there is room for a call: none is open; or fewer than the limit are, none under its id,
-- and little is outgoing
abbrev pub has_room : Limits → CallLine → Outbox ClientCalls → Bool
has_room limits call box =
    if length (finite.keys box.calls.table) == 0 then true
    else (nat_lt (length (finite.keys box.calls.table)) limits.calls
    && (is_vacant (entry_at box.calls call.id) && nat_lt (length box.outgoing) most_outgoing))

-- whether there is a next call, and room for it
abbrev pub next_has_room : Limits → List CallLine → Outbox ClientCalls → Bool
next_has_room limits [] box = false
next_has_room limits (call ∷ calls) box = has_room limits call box

-- the next call is taken where there is room for it, and these are left
abbrev pub TakesNext : Limits → List CallLine → Outbox ClientCalls → Option CallLine
    → List CallLine → Type 0
TakesNext limits calls box None left =
    (next_has_room limits calls box ≡ false) × (left ≡ calls)
TakesNext limits calls box (Some call) left =
    (calls ≡ call ∷ left) × (has_room limits call box ≡ true)

-- an end at which this fault stands, if one does
module _ (asked : Asked) (fault : Option SessionFault) where
  -- a call is made for which there is room
  pub record MakesOne (call : CallLine) (s : Outbox ClientCalls) (refused : Option SessionFault)
      (t : Outbox ClientCalls) : Type 0 where
    pub room : has_room asked.limits call s ≡ true
    pub calls : CallsOne asked fault call s refused t

  -- calls are made while there is room for the next, and these are left
  pub record MakesSome (calls left : List CallLine) (s t : Outbox ClientCalls) : Type 0 where
    pub made : List CallLine
    pub parts : calls ≡ made ++ left
    pub each : Each (λ call s t. MakesOne call s None t) made s t
    pub full : next_has_room asked.limits left t ≡ false

  -- so it goes up to one that is refused
  pub record MakesUpTo (calls left : List CallLine) (s : Outbox ClientCalls) (why : SessionFault)
      (t : Outbox ClientCalls) : Type 0 where
    pub made : List CallLine
    pub call : CallLine
    pub mid : Outbox ClientCalls
    pub parts : calls ≡ made ++ call ∷ left
    pub each : Each (λ call s t. MakesOne call s None t) made s mid
    pub stops : MakesOne call mid (Some why) t

  abbrev pub Makes : List CallLine → List CallLine → Outbox ClientCalls → Option SessionFault
      → Outbox ClientCalls → Type 0
  Makes calls left s None t = MakesSome calls left s t
  Makes calls left s (Some why) t = MakesUpTo calls left s why t

  -- and then the pieces that are left of them are put out
  abbrev pub CallsNext : List CallLine → List CallLine → Outbox ClientCalls
      → Option SessionFault → Outbox ClientCalls → Type 0
  CallsNext calls left = AndThen (Makes calls left) (CallsSent fault)

-- ---- turns

-- the calls of an end between a reader and a writer, and its outgoing octets
abbrev pub box_of : Between ClientCalls → Outbox ClientCalls
box_of s = outbox s.state.calls s.outgoing

-- the same end with others of both
abbrev pub with_box : Between ClientCalls → Outbox ClientCalls → Between ClientCalls
with_box s box = between s.input s.output box.outgoing s.state.unread box.calls s.state.fault

-- a turn of a client: where all calls are over, what is outgoing is written, and nothing is read
abbrev pub TurnsIf : Interface → Bool → Between ClientCalls → Bool → Between ClientCalls → Type 0
TurnsIf interface true s goes t = (goes ≡ true) × WritesOut s t
TurnsIf interface false s goes t = GoesOn (client_hears interface) s (Ok goes) t

abbrev pub Turns : Interface → Between ClientCalls → Bool → Between ClientCalls → Type 0
Turns interface s =
    TurnsIf interface (are_over (finite.keys s.state.calls.table) s.state.calls) s

-- at an end between a reader and a writer of these octets
abbrev pub TurnsAt : Interface → (input output : Option (List ℕ)) → ClientSide → Bool
    → (input' output' : Option (List ℕ)) → ClientSide → Type 0
TurnsAt interface input output e goes input' output' e' =
    Turns interface (end_between input output e) goes (end_between input' output' e')

-- whether the call that is stored went well, where it is over
abbrev pub is_over_well : Option ClientEntry → Bool
is_over_well entry = if has_ended is_closed entry then is_well entry else true

-- whether all that are over did
abbrev pub all_over_well : ById (Slot ClientEntry) → Bool
all_over_well table =
    list_all (λ id. is_over_well (entry_of (finite.get table id))) (finite.keys table)

-- the same calls without those that are over
abbrev pub still_open : ClientCalls → ClientCalls
still_open calls = record calls {
  table = without_over is_closed (finite.keys calls.table) calls.table;
}

-- an end of which the calls that are over are taken out
abbrev pub opened : Between ClientCalls → Between ClientCalls
opened s =
    between s.input s.output s.outgoing s.state.unread (still_open s.state.calls) s.state.fault

-- a session, what is printed of it so far, where that is known, the calls that aren't made yet, and
-- whether all that were told went well
pub record Course : Type 0 where
  pub end : Between ClientCalls
  pub text : Option (List ℕ)
  pub left : List CallLine
  pub well : Bool

abbrev pub course : Between ClientCalls → Option (List ℕ) → List CallLine → Bool → Course
course end text left well = record { end = end; text = text; left = left; well = well }

-- of an end between a reader and a writer of these octets, and what is printed
abbrev pub course_of : (input output text : Option (List ℕ)) → ClientSide → List CallLine → Bool
    → Course
course_of input output text end = course (end_between input output end) text

-- whether no call is left to be made, and none is open
abbrev pub is_done : List CallLine → ClientCalls → Bool
is_done left calls = (length left == 0) && (length (finite.keys calls.table) == 0)

-- a session that is told in a form
module _ (asked : Asked) (lines : LineForm) where
  -- calls are made, a turn is taken, and the calls that are over are told and taken out
  pub record TurnTells (s t : Course) : Type 0 where
    pub pending : is_done s.left s.end.state.calls ≡ false
    pub box : Outbox ClientCalls
    pub calls : CallsNext asked s.end.state.fault s.left t.left (box_of s.end) None box
    pub mid : Between ClientCalls
    pub turn : Turns asked.interface (with_box s.end box) true mid
    pub tells : Appends s.text t.text
        (over_text is_closed (client_entry_in lines asked.interface) mid.state.calls.table)
    pub taken : t.end ≡ opened mid
    pub well : t.well ≡ (s.well && all_over_well mid.state.calls.table)

  -- it ends where no call is left and none is open
  pub record EndsDone (s t : Course) : Type 0 where
    pub done : is_done s.left s.end.state.calls ≡ true
    pub same : t ≡ s

  -- it ends with a turn behind which the session doesn't continue
  pub record EndsOff (s t : Course) : Type 0 where
    pub pending : is_done s.left s.end.state.calls ≡ false
    pub box : Outbox ClientCalls
    pub calls : CallsNext asked s.end.state.fault s.left t.left (box_of s.end) None box
    pub turn : Turns asked.interface (with_box s.end box) false t.end
    pub text : t.text ≡ s.text
    pub well : t.well ≡ s.well

  -- it ends with a call that is refused at this end
  pub record EndsRefused (s : Course) (why : SessionFault) (t : Course) : Type 0 where
    pub pending : is_done s.left s.end.state.calls ≡ false
    pub box : Outbox ClientCalls
    pub calls : CallsNext asked s.end.state.fault s.left t.left (box_of s.end) (Some why) box
    pub end : t.end ≡ with_box s.end box
    pub text : t.text ≡ s.text
    pub well : t.well ≡ s.well

  abbrev pub CourseEnds : Course → Option SessionFault → Course → Type 0
  CourseEnds s None t = EndsDone s t ⊎ EndsOff s t
  CourseEnds s (Some why) t = EndsRefused s why t

  -- what a turn comes to: the session goes on, or ends
  abbrev pub Goes : Course → SessionTurn → Course → Type 0
  Goes s goes_on t = TurnTells s t
  Goes s (Ends refused) t = CourseEnds s refused t

  -- so it goes, turn by turn
  pub record Streams (s : Course) (refused : Option SessionFault) (t : Course) : Type 0 where
    pub turns : List ℕ
    pub few : length turns < most_turns
    pub mid : Course
    pub each : Each (λ turn s t. TurnTells s t) turns s mid
    pub ends : CourseEnds mid refused t

-- ---- of an end over pipes, by what passed; these calls weren't made yet and these aren't now, and
-- so it is whether all calls that were told went well

-- what a turn comes to, of these calls in all
abbrev pub GoesOver : Calling → List CallLine → (old new : ClientSide)
    → (before after : List CallLine) → (was is : Bool) → SessionTurn → Traffic → Type 0
GoesOver calling all old new before after was is turn over =
    Goes (asked_of calling all) calling.lines
    (course_of over.input.before over.output.before over.text.before old before was) turn
    (course_of over.input.after over.output.after over.text.after new after is)

-- turn by turn
abbrev pub StreamsOver : Calling → (old new : ClientSide) → (before after : List CallLine)
    → (was is : Bool) → Option SessionFault → Traffic → Type 0
StreamsOver calling old new before after was is refused over =
    Streams (asked_of calling before) calling.lines
    (course_of over.input.before over.output.before over.text.before old before was) refused
    (course_of over.input.after over.output.after over.text.after new after is)

-- ---- what is told at the end

-- the line of a call that wasn't made, in a form
abbrev pub unsent_in : LineForm → CallLine → List ℕ
unsent_in lines call = line_in lines (unsent_line call.id) (unsent_json call.id)

-- a line for each of them
abbrev pub unsent_text : LineForm → List CallLine → List ℕ
unsent_text lines calls = flat_map (λ call. ended (unsent_in lines call)) calls

-- what is left: the calls that are open, those that weren't made, and the fault
abbrev pub left_text : LineForm → Interface → ClientCalls → List CallLine → Option SessionFault
    → List ℕ
left_text lines interface calls left fault =
    table_text (client_entry_in lines interface) calls.table
    ++ (unsent_text lines left ++ fault_text lines fault)

-- whether all went well: those that were told, and those that are left, and none is unsent
abbrev pub all_done : Bool → ClientCalls → List CallLine → Bool
all_done well calls left = well && (all_well calls.table && (length left == 0))

-- the status: by the fault of a call that was refused at this end, else by whether all went well
abbrev pub stream_status : Option SessionFault → Option SessionFault → Bool → Status
stream_status None fault done = if done then Done else unwell_status fault
stream_status (Some why) fault done = broken_status why

-- a new client's end with these limits, between a reader and a writer
abbrev pub new_client : Limits → Option (List ℕ) → Option (List ℕ) → Between ClientCalls
new_client limits input output =
    between input output [] (nothing_read limits) (no_calls (record {}) limits) None

-- these calls were made at a new client's end; what is printed in a form is each call when it is
-- over, and then what is left
pub record IsStreamed (asked : Asked) (lines : LineForm) (before after : Wire)
    (old new : Option (List ℕ)) (status : Status) : Type 0 where
  pub refused : Option SessionFault
  pub outgoing : List ℕ
  pub unread : Unread
  pub still : ClientCalls
  pub fault : Option SessionFault
  pub text : Option (List ℕ)
  pub left : List CallLine
  pub well : Bool
  pub streams :
      Streams asked lines
      (course (new_client asked.limits before.input before.output) old asked.calls true)
      refused
      (course (between after.input after.output outgoing unread still fault) text left well)
  pub last : Appends text new (left_text lines asked.interface still left (told refused fault))
  pub is : status ≡ stream_status refused fault (all_done well still left)
