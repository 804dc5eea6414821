-- The faults of an end: their numbers, and how the faults of its parts are reported.
use Rattle.std.specs.Prelude.{ℕ, List, [], ◌∷◌, ◌++◌, Option, Some, None, codes}
use Rattle.giop_msg.specs.declared.fault.WireFault.{WireFault}
use Rattle.giop_msg.specs.declared.fault.WireKind.{WireKind}
use Rattle.giop_msg.specs.declared.fault.WireKind.TheVariants as wire
use Rattle.giop_end.specs.declared.session_fault.SessionFault.{SessionFault}
use Rattle.giop_end.specs.declared.session_fault.SessionFault.TheVariants.{Wire, Call, WrongDirection, TooManyCalls, GatherFull, PeerError, Closed, NoMemory, StillOpen, NoId}
use Rattle.giop_table.specs.declared.table_fault.TableFault.{TableFault}
use Rattle.giop_table.specs.declared.table_fault.TableFault.TheVariants as table

-- the number of a fault
abbrev pub session_fault_number : SessionFault → ℕ
session_fault_number (Wire fault) = 1
session_fault_number (Call id fault) = 2
session_fault_number WrongDirection = 3
session_fault_number TooManyCalls = 4
session_fault_number GatherFull = 5
session_fault_number PeerError = 6
session_fault_number Closed = 7
session_fault_number NoMemory = 8
session_fault_number StillOpen = 9
session_fault_number (NoId fault) = 10

-- a framer's refusal
abbrev pub of_wire_kind : WireFault → WireKind → SessionFault
of_wire_kind fault wire.NoMemory = NoMemory
of_wire_kind fault kind = Wire fault

abbrev pub of_wire : WireFault → SessionFault
of_wire fault = of_wire_kind fault fault.kind

-- the table's refusal of an act on the call of an id, where the rule's own fault is reported so
abbrev pub of_table : {F : Type 0} → (F → SessionFault) → TableFault F → SessionFault
of_table of_rule (table.Rule fault) = of_rule fault
of_table of_rule table.TooManyCalls = TooManyCalls
of_table of_rule table.GatherFull = GatherFull
of_table of_rule table.StillOpen = StillOpen
of_table of_rule table.NoMemory = NoMemory

-- the MessageError (9.4.8) that a peer is sent after a fault of its own: a header of 1.2 without
-- octets behind it
abbrev pub message_error : List ℕ
message_error = codes "GIOP" ++ 1 ∷ 2 ∷ 0 ∷ 6 ∷ 0 ∷ 0 ∷ 0 ∷ 0 ∷ []

abbrev pub error_message_of : Option SessionFault → Option (List ℕ)
error_message_of (Some (Wire fault)) = Some message_error
error_message_of (Some (Call id fault)) = Some message_error
error_message_of (Some WrongDirection) = Some message_error
error_message_of (Some (NoId fault)) = Some message_error
error_message_of _ = None
