-- What is told of the calls of a session.
use Rattle.std.proofs.Common.{◌≡◌, ℕ, false, List, Option, None, Result, Ok, Err, IfOk, OnOk, sym, subst}
use Rattle.std.specs.FinMap as finite
use Rattle.std.specs.Io.KnownBytes.{Appends}
use Rattle.giop_calls.specs.ClientTable as client
use Rattle.giop_msg.specs.Stream.{Unread}
use Rattle.giop_end.specs.declared.session_fault.SessionFault.{SessionFault}
use Rattle.giop_end.specs.Pumping.{Between, between}
use Rattle.giop_types.specs.declared.interfaces.interface.Interface.{Interface}
use Rattle.giop_show.specs.declared.failure.Failure.{Failure}
use Rattle.giop_forms.specs.declared.line_form.LineForm.{LineForm}
use Rattle.giop_commands.specs.declared.session.ending.Ending.{Ending}
use Rattle.giop_show.specs.declared.status.Status.{Status}
use Rattle.giop_show.specs.declared.status.Status.TheVariants.{Done, Refused, LimitPassed, Usage, InputOutput, Memory}
use Rattle.giop_commands.specs.Session.Acts.{Outbox}
use Rattle.giop_calling.specs.Call.Calling.{Asked, CallsAll, ClientCalls, Converses, ConversesIf, Talks, are_over, begun, client_hears, new_box}
use Rattle.giop_calling.specs.Call.Endings.{CallsEnd}
use Rattle.giop_commands.specs.Session.Endings.{Ends}
use Rattle.giop_calling.specs.Call.Printed.{Calls, IsCalled, call_status}
use Rattle.giop_commands.specs.Session.Printed.{Wire, session_text, told}
use Rattle.giop_commands.specs.Session.Turns.{Waits}
use Rattle.giop_commands.specs.Session.Tables.Table.{client_entry_in}

-- the calls of a client's end, its table and its fault
pub called : (asked : Asked) (lines : LineForm) (before after : Wire) (old new : Option (List ℕ)) (refused : Option SessionFault)
    (box : Outbox ClientCalls) (outgoing : List ℕ)
    (unread : Unread) (left : ClientCalls) (fault : Option SessionFault) (r : Result Ending Failure)
    → CallsAll asked None (new_box asked.limits) refused box
    → Talks asked.interface refused (begun asked.limits before.input before.output box) (between after.input after.output outgoing unread left fault)
    → OnOk r (Appends old new (session_text lines (client_entry_in lines asked.interface) left.table (told refused fault)))
    → IfOk r (λ ending. ending.status ≡ call_status refused fault left.table)
    → IfOk r (Ends client.is_closed (told refused fault) left.table unread) → IfOk r (CallsEnd asked lines before after old new)
called asked lines before after old new refused box outgoing unread left fault (Err failure) calls talks text is ends = tt
called asked lines before after old new refused box outgoing unread left fault (Ok ending) calls talks text is ends = record {
  called = record {
    refused = refused;
    box = box;
    calls = calls;
    outgoing = outgoing;
    unread = unread;
    left = left;
    fault = fault;
    talks = talks;
    text = text;
    is = is;
  };
  ends = ends;
}

-- by its status
calls_by : (asked : Asked) (lines : LineForm) (before after : Wire) (old new : Option (List ℕ)) (status : Status)
    → IsCalled asked lines before after old new status → Calls asked lines before after old new status
calls_by asked lines before after old new Done is = is
calls_by asked lines before after old new Refused is = is
calls_by asked lines before after old new (LimitPassed limit) is = is
calls_by asked lines before after old new Usage is = is
calls_by asked lines before after old new InputOutput is = tt
calls_by asked lines before after old new Memory is = tt

-- the same of an ending
pub calls_told : (asked : Asked) (lines : LineForm) (before after : Wire) (old new : Option (List ℕ)) (ending : Ending)
    → CallsEnd asked lines before after old new ending → Calls asked lines before after old new ending.status
calls_told asked lines before after old new ending end = calls_by asked lines before after old new ending.status end.called

-- a client's turns, where its calls aren't over at first
pub converses_by : (interface : Interface) (s t : Between ClientCalls) (ids : List ℕ) (r : Result (Unit {0}) Failure) → ids ≡ finite.keys s.state.calls.table
    → are_over ids s.state.calls ≡ false → Waits (client_hears interface) (are_over ids) s r t → OnOk r (Converses interface s t)
converses_by interface s t ids (Err failure) is still waits = tt
converses_by interface s t ids (Ok tt) is still waits =
    let over = subst (λ l. are_over l s.state.calls ≡ false) is still in
    subst (λ b. ConversesIf interface b s t) (sym over) (subst (λ l. Waits (client_hears interface) (are_over l) s (Ok tt) t) is waits)
