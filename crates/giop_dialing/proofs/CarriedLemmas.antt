-- No session ends with the status of unknown words.
use Rattle.std.proofs.Common.{◌≡◌, sym, subst, ℕ, List, Option, Some, None, Bool, true, false, ◌&&◌}
use Rattle.giop_end.specs.declared.session_fault.SessionFault.{SessionFault}
use Rattle.giop_forms.specs.declared.line_form.LineForm.{LineForm}
use Rattle.giop_commands.specs.declared.session.ending.Ending.{Ending}
use Rattle.giop_commands.specs.Session.Printed.{Wire}
use Rattle.giop_calling.specs.Call.Calling.{Asked, ClientCalls, entry_at}
use Rattle.giop_calling.specs.Call.Endings.{CallsEnd, CallsStreamEnd}
use Rattle.giop_asked_calls.specs.Lines.{Feed}
use Rattle.giop_calling.specs.Call.Feeding.{FedEnd}
use Rattle.giop_calling.specs.Call.Locating.{LocatesEnd, is_here, locate_status}
use Rattle.giop_calling.specs.Call.Printed.{all_well, call_status, unwell_status}
use Rattle.giop_calling.specs.Call.Streaming.{all_done, stream_status}
use Rattle.giop_connections.specs.Carried.{IsCarriedOut}
use Rattle.giop_connections.proofs.CarriedLemmas.{broken_carried}

unwell_carried : (fault : Option SessionFault) → IsCarriedOut (unwell_status fault)
unwell_carried (Some why) = broken_carried why
unwell_carried None = tt

pub stream_carried : (refused fault : Option SessionFault) (done : Bool) → IsCarriedOut (stream_status refused fault done)
stream_carried None fault true = tt
stream_carried None fault false = unwell_carried fault
stream_carried (Some why) fault done = broken_carried why

pub call_carried : (refused fault : Option SessionFault) (calls : ClientCalls) → IsCarriedOut (call_status refused fault calls.table)
call_carried None fault calls = stream_carried None fault (all_well calls.table)
call_carried (Some why) fault calls = broken_carried why

pub locate_carried : (refused fault : Option SessionFault) (calls : ClientCalls) → IsCarriedOut (locate_status refused fault calls.table)
locate_carried None fault calls = stream_carried None fault (is_here (entry_at calls 1))
locate_carried (Some why) fault calls = broken_carried why

pub calls_carried : (asked : Asked) (lines : LineForm) (before after : Wire) (old new : Option (List ℕ)) (ending : Ending)
    → CallsEnd asked lines before after old new ending → IsCarriedOut ending.status
calls_carried asked lines before after old new ending e =
    subst (λ status. IsCarriedOut status) (sym e.called.is) (call_carried e.called.refused e.called.fault e.called.left)

pub calls_stream_carried : (asked : Asked) (lines : LineForm) (before after : Wire) (old new : Option (List ℕ)) (ending : Ending)
    → CallsStreamEnd asked lines before after old new ending → IsCarriedOut ending.status
calls_stream_carried asked lines before after old new ending e =
    subst (λ status. IsCarriedOut status) (sym e.streamed.is)
    (stream_carried e.streamed.refused e.streamed.fault (all_done e.streamed.well e.streamed.still e.streamed.left))

pub fed_carried : (asked : Asked) (lines : LineForm) (waits : Bool) (first last : Feed) (before after : Wire) (old new : Option (List ℕ))
    (ending : Ending) → FedEnd asked lines waits first last before after old new ending → IsCarriedOut ending.status
fed_carried asked lines waits first last before after old new ending e =
    subst (λ status. IsCarriedOut status) (sym e.is)
    (stream_carried e.refused e.fault (all_done (e.well && last.so_far.is_over) e.still last.so_far.calls))

pub locates_carried : (asked : Asked) (lines : LineForm) (before after : Wire) (old new : Option (List ℕ)) (ending : Ending)
    → LocatesEnd asked lines before after old new ending → IsCarriedOut ending.status
locates_carried asked lines before after old new ending e =
    subst (λ status. IsCarriedOut status) (sym e.is) (locate_carried e.refused e.fault e.left)
