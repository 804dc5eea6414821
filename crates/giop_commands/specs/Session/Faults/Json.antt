-- The JSON line that says how a session ended, without its newline.
use Rattle.std.specs.Prelude.{ℕ, List, ◌++◌, codes}
use Rattle.std.specs.Fmt.{decimal}
use Rattle.giop_calls.specs.declared.fault.CallFault.{CallFault}
use Rattle.giop_calls.specs.Faults.{fault_number, fault_name}
use Rattle.giop_end.specs.declared.session_fault.SessionFault.{SessionFault}
use Rattle.giop_end.specs.declared.session_fault.SessionFault.TheVariants.{Wire, Call, WrongDirection, TooManyCalls, GatherFull, PeerError, Closed, NoMemory, StillOpen, NoId}
use Rattle.giop_lines.specs.JsonLines.{cdr_fault_json, wire_fault_json}

-- why what happens to a call is refused
unfoldable pub call_fault_json : CallFault → List ℕ
call_fault_json e =
    codes "{\"number\":" ++ (decimal (fault_number e) ++ (codes ",\"name\":\"" ++ (fault_name e ++
    codes "\"}")))

-- the number of a fault, and the members behind it: the fault of a header, of a call or of a
-- request id stands in one of its own
abbrev pub why_json : SessionFault → List ℕ
why_json (Wire e) = codes "1,\"name\":\"Wire\",\"fault\":" ++ wire_fault_json e
why_json (Call id e) =
    codes "2,\"name\":\"Call\",\"id\":" ++ (decimal id ++ (codes ",\"fault\":" ++ call_fault_json e))
why_json WrongDirection = codes "3,\"name\":\"WrongDirection\""
why_json TooManyCalls = codes "4,\"name\":\"TooManyCalls\""
why_json GatherFull = codes "5,\"name\":\"GatherFull\""
why_json PeerError = codes "6,\"name\":\"PeerError\""
why_json Closed = codes "7,\"name\":\"Closed\""
why_json NoMemory = codes "8,\"name\":\"NoMemory\""
why_json StillOpen = codes "9,\"name\":\"StillOpen\""
why_json (NoId e) = codes "10,\"name\":\"NoId\",\"fault\":" ++ cdr_fault_json e

-- why an end failed
unfoldable pub session_fault_json : SessionFault → List ℕ
session_fault_json e = codes "{\"fault\":{\"number\":" ++ (why_json e ++ codes "}}")
