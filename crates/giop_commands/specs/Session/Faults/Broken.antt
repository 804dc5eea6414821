-- The exit status of a session that a fault broke off.
use Rattle.giop_end.specs.declared.session_fault.SessionFault.{SessionFault}
use Rattle.giop_end.specs.declared.session_fault.SessionFault.TheVariants.{Wire, TooManyCalls, GatherFull}
use Rattle.giop_show.specs.declared.status.Limit.TheVariants.{Calls, Gathered}
use Rattle.giop_show.specs.declared.status.Status.{Status}
use Rattle.giop_show.specs.declared.status.Status.TheVariants.{Refused, LimitPassed}
use Rattle.giop_show.specs.Status.{header_status}

-- the status of a session that a fault broke off
abbrev pub broken_status : SessionFault → Status
broken_status (Wire e) = header_status e.kind
broken_status TooManyCalls = LimitPassed Calls
broken_status GatherFull = LimitPassed Gathered
broken_status _ = Refused
