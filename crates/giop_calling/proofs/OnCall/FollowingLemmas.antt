-- Calls that are made again where they are forwarded to.
use Rattle.std.proofs.Common.{Option}
use Rattle.giop_end.specs.declared.session_fault.SessionFault.{SessionFault}
use Rattle.giop_end.specs.Pumping.{Between}
use Rattle.giop_commands.specs.Session.Acts.{Outbox}
use Rattle.giop_calling.specs.Call.Streaming.{box_of, with_box}
use Rattle.giop_calling.specs.Call.Calling.{Asked, CallsAll, ClientCalls, Talks}
use Rattle.giop_calling.specs.Call.Following.{CallsAt}

-- calls that are made at an end, which then talks
pub called_at : (asked : Asked) (s t : Between ClientCalls) (box : Outbox ClientCalls) (refused : Option SessionFault)
    → CallsAll asked s.state.fault (box_of s) refused box → Talks asked.interface refused (with_box s box) t → CallsAt asked s refused t
called_at asked s t box refused calls talks = record { box = box; calls = calls; talks = talks }
