-- What is told of a connection.
use Rattle.std.proofs.Common.{◌≡◌, ℕ, List, ◌++◌, Option, Result, Ok, Err, IfOk, OnOk}
use Rattle.std.specs.Io.KnownBytes.{Appends}
use Rattle.giop_calls.specs.ServerTable as server
use Rattle.giop_msg.specs.Stream.{Unread}
use Rattle.giop_end.specs.declared.session_fault.SessionFault.{SessionFault}
use Rattle.giop_end.specs.Pumping.{between}
use Rattle.giop_serving.specs.declared.serve.in_turn.AnswerName.{AnswerName}
use Rattle.giop_show.specs.declared.failure.Failure.{Failure}
use Rattle.giop_forms.specs.declared.line_form.LineForm.{LineForm}
use Rattle.giop_commands.specs.declared.session.ending.Ending.{Ending}
use Rattle.giop_show.specs.declared.status.Status.{Status}
use Rattle.giop_show.specs.declared.status.Status.TheVariants.{Done, Refused, LimitPassed, Usage, InputOutput, Memory}
use Rattle.giop_show.specs.Forms.{ended}
use Rattle.giop_commands.specs.Session.Endings.{Ends}
use Rattle.giop_serving.specs.Serve.Endings.{ServesEnd}
use Rattle.giop_serving.specs.Serve.Printed.{IsServed, Serves, connection_in, serve_status}
use Rattle.giop_commands.specs.Session.Printed.{Wire, session_text, told}
use Rattle.giop_serving.specs.Serve.Serving as serving
use Rattle.giop_serving.specs.Serve.Serving.{Served, ServerCalls, new_server, session}
use Rattle.giop_commands.specs.Session.Tables.Table.{server_entry_in}

-- the connection of a server's end: its number, its table and its fault
pub served : (number : ℕ) (it : Served) (lines : LineForm) (before after : Wire) (was now_passed : List AnswerName) (old new : Option (List ℕ))
    (refused : Option SessionFault) (outgoing : List ℕ)
    (unread : Unread) (left : ServerCalls) (fault : Option SessionFault) (r : Result Ending Failure)
    → serving.Converses it it.limits (session (new_server it.limits before.input before.output) was) refused
    (session (between after.input after.output outgoing unread left fault) now_passed)
    → OnOk r (Appends old new (ended (connection_in lines number) ++ session_text lines (server_entry_in lines it.interface) left.table (told refused fault)))
    → IfOk r (λ ending. ending.status ≡ serve_status (told refused fault))
    → IfOk r (Ends server.is_closed (told refused fault) left.table unread) → IfOk r (ServesEnd number it lines before after was now_passed old new)
served number it lines before after was now_passed old new refused outgoing unread left fault (Err failure) talks text is ends = tt
served number it lines before after was now_passed old new refused outgoing unread left fault (Ok ending) talks text is ends = record {
  served = record {
    refused = refused;
    outgoing = outgoing;
    unread = unread;
    left = left;
    fault = fault;
    talks = talks;
    text = text;
    is = is;
  };
  ends = ends;
}

-- by its status
serves_by : (number : ℕ) (it : Served) (lines : LineForm) (before after : Wire) (was now_passed : List AnswerName) (old new : Option (List ℕ))
    (status : Status) → IsServed number it lines before after was now_passed old new status
    → Serves number it lines before after was now_passed old new status
serves_by number it lines before after was now_passed old new Done is = is
serves_by number it lines before after was now_passed old new Refused is = is
serves_by number it lines before after was now_passed old new (LimitPassed limit) is = is
serves_by number it lines before after was now_passed old new Usage is = is
serves_by number it lines before after was now_passed old new InputOutput is = tt
serves_by number it lines before after was now_passed old new Memory is = tt

-- the same of an ending
pub serves_told : (number : ℕ) (it : Served) (lines : LineForm) (before after : Wire) (was now_passed : List AnswerName) (old new : Option (List ℕ))
    (ending : Ending) → ServesEnd number it lines before after was now_passed old new ending
    → Serves number it lines before after was now_passed old new ending.status
serves_told number it lines before after was now_passed old new ending end =
    serves_by number it lines before after was now_passed old new ending.status end.served
