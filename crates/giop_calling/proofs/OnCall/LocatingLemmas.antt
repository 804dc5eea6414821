-- What is told of a LocateRequest.
use Rattle.std.proofs.Common.{◌≡◌, ℕ, List, Option, None, Result, Ok, Err, IfOk, OnOk}
use Rattle.std.specs.Io.KnownBytes.{Appends}
use Rattle.giop_calls.specs.ClientTable.{is_closed}
use Rattle.giop_msg.specs.Stream.{Unread}
use Rattle.giop_end.specs.declared.session_fault.SessionFault.{SessionFault}
use Rattle.giop_end.specs.Pumping.{between}
use Rattle.giop_show.specs.declared.failure.Failure.{Failure}
use Rattle.giop_forms.specs.declared.line_form.LineForm.{LineForm}
use Rattle.giop_commands.specs.declared.session.ending.Ending.{Ending}
use Rattle.giop_commands.specs.Session.Acts.{Outbox}
use Rattle.giop_calling.specs.Call.Calling.{Asked, ClientCalls, Talks, begun, new_box}
use Rattle.giop_commands.specs.Session.Endings.{Ends}
use Rattle.giop_calling.specs.Call.Locating.{Locates, LocatesEnd, locate_status}
use Rattle.giop_commands.specs.Session.Printed.{Wire, session_text, told}
use Rattle.giop_commands.specs.Session.Tables.Table.{client_entry_in}

-- the LocateRequest of a client's end, its table and its fault
pub located : (asked : Asked) (lines : LineForm) (before after : Wire) (old new : Option (List ℕ)) (refused : Option SessionFault) (box : Outbox ClientCalls)
    (outgoing : List ℕ) (unread : Unread) (left : ClientCalls) (fault : Option SessionFault) (r : Result Ending Failure)
    → Locates asked None (new_box asked.limits) refused box
    → Talks asked.interface refused (begun asked.limits before.input before.output box) (between after.input after.output outgoing unread left fault)
    → OnOk r (Appends old new (session_text lines (client_entry_in lines asked.interface) left.table (told refused fault)))
    → IfOk r (λ ending. ending.status ≡ locate_status refused fault left.table)
    → IfOk r (Ends is_closed (told refused fault) left.table unread) → IfOk r (LocatesEnd asked lines before after old new)
located asked lines before after old new refused box outgoing unread left fault (Err failure) locates talks text is ends = tt
located asked lines before after old new refused box outgoing unread left fault (Ok ending) locates talks text is ends = record {
  refused = refused;
  box = box;
  locates = locates;
  outgoing = outgoing;
  unread = unread;
  left = left;
  fault = fault;
  talks = talks;
  text = text;
  is = is;
  ends = ends;
}
