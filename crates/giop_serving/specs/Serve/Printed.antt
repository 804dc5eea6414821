-- What `serve` prints of a connection, and the status that it ends with.
use Rattle.std.specs.Prelude.{◌≡◌, ℕ, List, ◌++◌, Option, Some, None, ⊤}
use Rattle.std.specs.Io.KnownBytes.{Appends}
use Rattle.giop_ids.specs.ById.{ById}
use Rattle.giop_msg.specs.Stream.{Unread}
use Rattle.giop_types.specs.declared.interfaces.interface.Interface.{Interface}
use Rattle.giop_calls.specs.declared.server.entry.ServerEntry.{ServerEntry}
use Rattle.giop_end.specs.declared.session_fault.SessionFault.{SessionFault}
use Rattle.giop_table.specs.declared.slot.Slot.{Slot}
use Rattle.giop_end.specs.Pumping.{between}
use Rattle.giop_call_lines.specs.SessionJson.{connection_json}
use Rattle.giop_call_lines.specs.TableLines.{connection_line}
use Rattle.giop_serving.specs.declared.serve.given.Serving.{Serving}
use Rattle.giop_serving.specs.declared.serve.in_turn.AnswerName.{AnswerName}
use Rattle.giop_serving.specs.declared.serve.in_turn.Passed.{Passed}
use Rattle.giop_forms.specs.declared.line_form.LineForm.{LineForm}
use Rattle.giop_show.specs.declared.status.Status.{Status}
use Rattle.giop_show.specs.declared.status.Status.TheVariants.{Done, InputOutput, Memory}
use Rattle.giop_commands.specs.Check.{fault_status}
use Rattle.giop_show.specs.Forms.{ended, line_in}
use Rattle.giop_serving.specs.Serve.Serving as serving
use Rattle.giop_serving.specs.Serve.Serving.{Served, ServerCalls, new_server, served_of, session}
use Rattle.giop_commands.specs.Session.Tables.Table.{server_entry_in}
use Rattle.giop_commands.specs.Session.Traffic.{Traffic}
use Rattle.giop_commands.specs.Session.Printed.{Wire, session_text, told, wire}

-- which connection it is, counted from 1, in a form
abbrev pub connection_in : LineForm → ℕ → List ℕ
connection_in lines number = line_in lines (connection_line number) (connection_json number)

-- the status of a connection that ended with a fault, or without: an orderly end is none
abbrev pub serve_status : Option SessionFault → Status
serve_status (Some why) = fault_status why
serve_status None = Done

-- what is printed of a connection of this number: its number, its table, and the fault that ended
-- it, where one did
abbrev pub served_text : LineForm → Interface → ℕ → ById (Slot ServerEntry) → Option SessionFault
    → List ℕ
served_text lines interface number table fault =
    ended (connection_in lines number)
    ++ session_text lines (server_entry_in lines interface) table fault

-- a connection of this number was served by a new server's end, which talked over the wire; and
-- what is printed of it in a form is its number, the table that its calls are left with, its fault,
-- and this status. Before and behind it these answers of lists are passed
pub record IsServed (number : ℕ) (served : Served) (lines : LineForm) (before after : Wire)
    (old_passed new_passed : List AnswerName) (old new : Option (List ℕ)) (status : Status) : Type 0 where
  pub refused : Option SessionFault
  pub outgoing : List ℕ
  pub unread : Unread
  pub left : ServerCalls
  pub fault : Option SessionFault
  pub talks :
      serving.Converses served served.limits
      (session (new_server served.limits before.input before.output) old_passed) refused
      (session (between after.input after.output outgoing unread left fault) new_passed)
  pub text : Appends old new
      (served_text lines served.interface number left.table (told refused fault))
  pub is : status ≡ serve_status (told refused fault)

-- what `serve` did, told in a form, by the status that the connection ends with
abbrev pub Serves : ℕ → Served → LineForm → Wire → Wire → List AnswerName → List AnswerName
    → Option (List ℕ) → Option (List ℕ) → Status → Type 0
Serves number served lines before after old_passed new_passed old new InputOutput = ⊤
Serves number served lines before after old_passed new_passed old new Memory = ⊤
Serves number served lines before after old_passed new_passed old new status =
    IsServed number served lines before after old_passed new_passed old new status

-- what it did, by what passed
abbrev pub ServesOver : ℕ → Serving → (old new : Passed) → Traffic → Status → Type 0
ServesOver number serving old new over =
    Serves number (served_of serving) serving.lines (wire over.input.before over.output.before)
    (wire over.input.after over.output.after) old.names.items new.names.items over.text.before
    over.text.after
