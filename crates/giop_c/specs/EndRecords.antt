-- The records of an end that cross to C: limits, forms and faults.
use Rattle.std.specs.Prelude.{ℕ, ◌==◌, if◌then◌else◌}
use Rattle.giop_cdr.specs.declared.order.Order.{Order}
use Rattle.giop_cdr.specs.declared.order.Order.TheVariants.{Big, Little}
use Rattle.giop_cdr.specs.Faults.{cdr_kind_number}
use Rattle.giop_msg.specs.Fault.{wire_kind_number}
use Rattle.giop_msg.specs.declared.messages.reply.Reply.{Reply}
use Rattle.giop_calls.specs.declared.outcome.Outcome.{Outcome}
use Rattle.giop_calls.specs.declared.outcome.Outcome.TheVariants as ended
use Rattle.giop_calls.specs.Faults.{fault_number}
use Rattle.giop_end.specs.declared.session_fault.SessionFault.{SessionFault}
use Rattle.giop_end.specs.declared.session_fault.SessionFault.TheVariants as session
use Rattle.giop_end.specs.Ends.SessionFaults.{session_fault_number}
use Rattle.giop_c.specs.declared.end_records.EndFault.{EndFault}
use Rattle.giop_c.specs.Calls.{no_memory, fault}

-- the byte order of a number: 0 is big endian
abbrev pub c_order_of : ℕ → Order
c_order_of n = if n == 0 then Big else Little

-- the status of what an end refuses
abbrev pub end_status : SessionFault → ℕ
end_status session.NoMemory = no_memory
end_status _ = fault

-- the place of a fault, where it has one
abbrev pub end_place : SessionFault → ℕ
end_place (session.Wire e) = e.at
end_place (session.NoId e) = e.at
end_place _ = 0

-- the number of what is wrong in the part that a fault is of
abbrev pub end_part : SessionFault → ℕ
end_part (session.Wire e) = wire_kind_number e.kind
end_part (session.Call id e) = fault_number e
end_part (session.NoId e) = cdr_kind_number e.kind
end_part _ = 0

-- the id of the call that a fault is of, where it is of one
abbrev pub end_id : SessionFault → ℕ
end_id (session.Call id e) = id
end_id _ = 0

-- a fault of an end
abbrev pub c_end_fault : SessionFault → EndFault
c_end_fault why = record {
  at = end_place why;
  number = session_fault_number why;
  part = end_part why;
  id = end_id why;
}

-- the number of an outcome
abbrev pub outcome_number : Outcome Reply → ℕ
outcome_number ended.Pending = 0
outcome_number ended.Cancelled = 1
outcome_number ended.OneWay = 2
outcome_number (ended.Replied reply) = 3
outcome_number (ended.Located status) = 4
outcome_number ended.Undecoded = 5
