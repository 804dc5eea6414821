-- An object that is asked for again where it is said to be.
use Rattle.std.proofs.Common.{Option}
use Rattle.giop_end.specs.declared.session_fault.SessionFault.{SessionFault}
use Rattle.giop_end.specs.Pumping.{Between}
use Rattle.giop_commands.specs.Session.Acts.{Outbox}
use Rattle.giop_calling.specs.Call.Streaming.{box_of, with_box}
use Rattle.giop_calling.specs.Call.Calling.{Asked, ClientCalls, Talks}
use Rattle.giop_calling.specs.Call.LocateFollowing.{LocatesAt}
use Rattle.giop_calling.specs.Call.Locating.{Locates}

-- a LocateRequest that is made at an end, which then talks
pub located_at : (asked : Asked) (s t : Between ClientCalls) (box : Outbox ClientCalls) (refused : Option SessionFault)
    → Locates asked s.state.fault (box_of s) refused box → Talks asked.interface refused (with_box s box) t → LocatesAt asked s refused t
located_at asked s t box refused locates talks = record { box = box; locates = locates; talks = talks }
