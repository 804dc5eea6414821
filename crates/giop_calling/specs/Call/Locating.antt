-- What the program of `locate` does at its end: it asks where the object of a key is, and waits for
-- the answer (CORBA 3.3 Part 2, 9.4.5, 9.4.6).
use Rattle.std.specs.Prelude.{◌≡◌, ℕ, ◌==◌, if◌then◌else◌, Bool, false, List, [], Option, Some, None}
use Rattle.std.specs.FinMap as finite
use Rattle.std.specs.Io.KnownBytes.{Appends}
use Rattle.giop_ids.specs.ById.{ById}
use Rattle.giop_msg.specs.declared.target.Target.TheVariants.{Key}
use Rattle.giop_msg.specs.declared.version.Version.{Version}
use Rattle.giop_msg.specs.Locate.{AnyLocateRequest}
use Rattle.giop_msg.specs.Stream.{Unread}
use Rattle.giop_calls.specs.declared.client.entry.ClientEntry.{ClientEntry}
use Rattle.giop_calls.specs.declared.client.entry.ClientEntry.TheVariants.{LocateDone}
use Rattle.giop_calls.specs.ClientTable.{client_step, is_closed, is_gathering}
use Rattle.giop_table.specs.declared.slot.Slot.{Slot}
use Rattle.giop_end.specs.declared.session_fault.SessionFault.{SessionFault}
use Rattle.giop_end.specs.Acts.ClientCalls.{IsLocate, locate_fault}
use Rattle.giop_table.specs.CallTable.{rules_of}
use Rattle.giop_table.specs.Sending.{entry_of}
use Rattle.giop_end.specs.Hearing.Heard.{in_call}
use Rattle.giop_end.specs.Pumping.{between}
use Rattle.giop_calling.specs.declared.call.given.Calling.{Calling}
use Rattle.giop_forms.specs.declared.line_form.LineForm.{LineForm}
use Rattle.giop_commands.specs.declared.session.ending.Ending.{Ending}
use Rattle.giop_show.specs.declared.status.Status.{Status}
use Rattle.giop_show.specs.declared.status.Status.TheVariants.{Done}
use Rattle.giop_commands.specs.Session.Acts.{ActsOrTells, Outbox}
use Rattle.giop_calling.specs.Call.Calling.{Asked, CallsSent, ClientCalls, Talks, asked_of, begun, entry_at, new_box}
use Rattle.giop_commands.specs.Session.Endings.{Ends}
use Rattle.giop_commands.specs.Session.Printed.{Wire, session_text, told, wire}
use Rattle.giop_calling.specs.Call.Printed.{unwell_status}
use Rattle.giop_commands.specs.Session.Traffic.{Traffic}
use Rattle.giop_commands.specs.Session.Faults.Broken.{broken_status}
use Rattle.giop_commands.specs.Session.Steps.{AndThen}
use Rattle.giop_commands.specs.Session.Tables.Table.{client_entry_in}

-- the LocateRequest of the object of a key, under the id 1
abbrev pub locate_of : List ℕ → Version → AnyLocateRequest
locate_of key version = record { version = version; id = 1; target = Key key }

-- it is put out, by an end at which this fault stands, if one does
abbrev pub LocatesOne : Asked → Option SessionFault → Outbox ClientCalls → Option SessionFault
    → Outbox ClientCalls → Type 0
LocatesOne asked fault s =
    ActsOrTells (rules_of client_step is_closed is_gathering) in_call fault 1
    (locate_fault asked.limits (entry_at s.calls 1) (locate_of asked.key asked.version) asked.form)
    (IsLocate (locate_of asked.key asked.version) asked.form) s

-- and then the pieces that are left of it
abbrev pub Locates : Asked → Option SessionFault → Outbox ClientCalls → Option SessionFault
    → Outbox ClientCalls → Type 0
Locates asked fault = AndThen (LocatesOne asked fault) (CallsSent fault)

-- whether an answer came that says that the object is here: OBJECT_HERE
abbrev pub is_here : Option ClientEntry → Bool
is_here (Some (LocateDone request reply)) = reply.head.status == 1
is_here _ = false

-- the status, by the fault of a LocateRequest that was refused at this end, and the end's own
abbrev pub locate_status : Option SessionFault → Option SessionFault → ById (Slot ClientEntry)
    → Status
locate_status None fault table =
    if is_here (entry_of (finite.get table 1)) then Done else unwell_status fault
locate_status (Some why) fault table = broken_status why

-- the object of a key was asked for at a new client's end, which then talked over the wire; and
-- what is printed of it in a form is its line, the fault, and this status
pub record LocatesEnd (asked : Asked) (lines : LineForm) (before after : Wire)
    (old new : Option (List ℕ)) (ending : Ending) : Type 0 where
  pub refused : Option SessionFault
  pub box : Outbox ClientCalls
  pub locates : Locates asked None (new_box asked.limits) refused box
  pub outgoing : List ℕ
  pub unread : Unread
  pub left : ClientCalls
  pub fault : Option SessionFault
  pub talks :
      Talks asked.interface refused (begun asked.limits before.input before.output box)
      (between after.input after.output outgoing unread left fault)
  pub text : Appends old new
      (session_text lines (client_entry_in lines asked.interface) left.table (told refused fault))
  pub is : ending.status ≡ locate_status refused fault left.table
  pub ends : Ends is_closed (told refused fault) left.table unread ending

-- by what passed
abbrev pub LocatesEndOver : Calling → Traffic → Ending → Type 0
LocatesEndOver calling over =
    LocatesEnd (asked_of calling []) calling.lines (wire over.input.before over.output.before)
    (wire over.input.after over.output.after) over.text.before over.text.after
