-- The lines that say how a session ended, without their newlines. As JSON they are FaultJson.antt.
use Rattle.std.specs.Prelude.{ℕ, List, ◌++◌, Option, Some, None, codes}
use Rattle.std.specs.Fmt.{decimal}
use Rattle.giop_msg.specs.Fault.{wire_kind_number, wire_fault_text}
use Rattle.giop_calls.specs.Faults.{fault_number, fault_name}
use Rattle.giop_end.specs.declared.session_fault.SessionFault.{SessionFault}
use Rattle.giop_end.specs.declared.session_fault.SessionFault.TheVariants.{Wire, Call, WrongDirection, TooManyCalls, GatherFull, PeerError, Closed, NoMemory, StillOpen, NoId}
use Rattle.giop_lines.specs.Lines.{cdr_fault_text}
use Rattle.giop_forms.specs.declared.line_form.LineForm.{LineForm}
use Rattle.giop_commands.specs.Session.Faults.Json.{session_fault_json}
use Rattle.giop_show.specs.Rest.{rest_in}
use Rattle.giop_show.specs.Forms.{line_in}

-- why an end failed: fault NUMBER NAME, behind which the fault of a header, of a call or
-- of a request id stands with its own number and name
abbrev pub session_fault_line : SessionFault → List ℕ
session_fault_line (Wire e) =
    codes "fault 1 Wire " ++ (decimal (wire_kind_number e.kind) ++ (codes " " ++ wire_fault_text e))
session_fault_line (Call id e) =
    codes "fault 2 Call " ++ (decimal id ++ (codes " " ++ (decimal (fault_number e) ++
    (codes " " ++ fault_name e))))
session_fault_line WrongDirection = codes "fault 3 WrongDirection"
session_fault_line TooManyCalls = codes "fault 4 TooManyCalls"
session_fault_line GatherFull = codes "fault 5 GatherFull"
session_fault_line PeerError = codes "fault 6 PeerError"
session_fault_line Closed = codes "fault 7 Closed"
session_fault_line NoMemory = codes "fault 8 NoMemory"
session_fault_line StillOpen = codes "fault 9 StillOpen"
session_fault_line (NoId e) = codes "fault 10 NoId " ++ cdr_fault_text e

-- the same in a form
abbrev pub session_fault_in : LineForm → SessionFault → List ℕ
session_fault_in form why = line_in form (session_fault_line why) (session_fault_json why)

-- the last line, in a form: why the session ended, or how many octets are unread
abbrev pub last_in : LineForm → Option SessionFault → ℕ → List ℕ
last_in form (Some why) unread = session_fault_in form why
last_in form None unread = rest_in form unread
