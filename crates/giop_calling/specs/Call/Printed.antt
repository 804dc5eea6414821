-- What `call` prints of a session, and the status that it ends with.
use Rattle.std.specs.Prelude.{◌≡◌, ℕ, ◌==◌, Bool, true, false, List, Option, Some, None, ⊤, if◌then◌else◌}
use Rattle.std.specs.FinMap as finite
use Rattle.std.specs.List.{list_all}
use Rattle.std.specs.Io.KnownBytes.{Appends}
use Rattle.giop_ids.specs.ById.{ById}
use Rattle.giop_msg.specs.Messages.Reply.{status_of}
use Rattle.giop_msg.specs.Stream.{Unread}
use Rattle.giop_calls.specs.declared.client.entry.ClientEntry.{ClientEntry}
use Rattle.giop_calls.specs.declared.client.entry.ClientEntry.TheVariants.{Done as done, OnewaySent}
use Rattle.giop_end.specs.declared.session_fault.SessionFault.{SessionFault}
use Rattle.giop_table.specs.declared.slot.Slot.{Slot}
use Rattle.giop_end.specs.Pumping.{between}
use Rattle.giop_table.specs.Sending.{entry_of}
use Rattle.giop_asked_calls.specs.declared.calls.CallLine.{CallLine}
use Rattle.giop_calling.specs.declared.call.given.Calling.{Calling}
use Rattle.giop_commands.specs.declared.session.given.Showing.{Showing}
use Rattle.giop_forms.specs.declared.line_form.LineForm.{LineForm}
use Rattle.giop_show.specs.declared.status.Status.{Status}
use Rattle.giop_show.specs.declared.status.Status.TheVariants.{Done, Refused, InputOutput, Memory}
use Rattle.giop_commands.specs.Session.Acts.{Outbox}
use Rattle.giop_calling.specs.Call.Calling.{Asked, CallsAll, ClientCalls, Talks, asked_of, begun, new_box}
use Rattle.giop_commands.specs.Session.Faults.Broken.{broken_status}
use Rattle.giop_commands.specs.Session.Tables.Table.{client_entry_in}
use Rattle.giop_commands.specs.Session.Traffic.{Traffic}
use Rattle.giop_commands.specs.Session.Printed.{Wire, session_text, told, wire}

-- the table of a client's end, as it is shown, and the fault that ended its session
abbrev pub client_text : Showing → ById (Slot ClientEntry) → Option SessionFault → List ℕ
client_text showing =
    session_text showing.lines (client_entry_in showing.lines showing.interface.now)

-- ---- the status

-- whether a call went well: it got its result, or was sent and has none
abbrev pub went_well : ClientEntry → Bool
went_well (done request reply) = status_of reply.body == 0
went_well (OnewaySent request) = true
went_well _ = false

-- whether what is stored for an id went well
abbrev pub is_well : Option ClientEntry → Bool
is_well (Some entry) = went_well entry
is_well None = true

-- whether all that stands in a table went well
abbrev pub all_well : ById (Slot ClientEntry) → Bool
all_well table = list_all (λ id. is_well (entry_of (finite.get table id))) (finite.keys table)

-- the status of calls that didn't go well, in a session with this fault or without
abbrev pub unwell_status : Option SessionFault → Status
unwell_status (Some why) = broken_status why
unwell_status None = Refused

-- the status of calls, by the fault of a refused one and the end's own: done where none was refused
-- at this end and all went well
abbrev pub call_status : Option SessionFault → Option SessionFault → ById (Slot ClientEntry)
    → Status
call_status None fault table = if all_well table then Done else unwell_status fault
call_status (Some why) fault table = broken_status why

-- ---- what `call` did

-- these calls were made at a new client's end, which then talked over the wire; and what is printed
-- of them in a form is the table that its calls are left with, its fault, and this status
pub record IsCalled (asked : Asked) (lines : LineForm) (before after : Wire)
    (old new : Option (List ℕ)) (status : Status) : Type 0 where
  pub refused : Option SessionFault
  pub box : Outbox ClientCalls
  pub calls : CallsAll asked None (new_box asked.limits) refused box
  pub outgoing : List ℕ
  pub unread : Unread
  pub left : ClientCalls
  pub fault : Option SessionFault
  pub talks :
      Talks asked.interface refused (begun asked.limits before.input before.output box)
      (between after.input after.output outgoing unread left fault)
  pub text : Appends old new
      (session_text lines (client_entry_in lines asked.interface) left.table (told refused fault))
  pub is : status ≡ call_status refused fault left.table

-- what `call` did, told in a form, by the status that the calls end with
abbrev pub Calls : Asked → LineForm → Wire → Wire → Option (List ℕ) → Option (List ℕ) → Status
    → Type 0
Calls asked lines before after old new InputOutput = ⊤
Calls asked lines before after old new Memory = ⊤
Calls asked lines before after old new status = IsCalled asked lines before after old new status

-- what it did, by what passed
abbrev pub CallsOver : Calling → List CallLine → Traffic → Status → Type 0
CallsOver calling calls over =
    Calls (asked_of calling calls) calling.lines (wire over.input.before over.output.before)
    (wire over.input.after over.output.after) over.text.before over.text.after
