-- A message's header with its request id, and a fault, as C sees them.
use Rattle.std.specs.Prelude.{ℕ, if◌then◌else◌, length, Option, Some, Result, Ok}
use Rattle.giop_cdr.specs.declared.fault.CdrFault.{CdrFault}
use Rattle.giop_msg.specs.declared.fault.WireFault.{WireFault}
use Rattle.giop_msg.specs.declared.msg.Msg.{Msg}
use Rattle.giop_msg.specs.Fault.{wire_kind_number}
use Rattle.giop_msg.specs.Header.{order_bit}
use Rattle.giop_msg.specs.Kind.{kind_number}
use Rattle.giop_msg.specs.RequestId.{request_id_of}
use Rattle.giop_msg.specs.Version.{minor_of}
use Rattle.giop_c.specs.declared.records.Fault.{Fault}
use Rattle.giop_c.specs.declared.records.Message.{Message}

-- the request id that was read, and whether one was
abbrev pub id_told : Option (Result ℕ CdrFault) → ℕ
id_told (Some (Ok id)) = id
id_told _ = 0

abbrev pub has_id : Option (Result ℕ CdrFault) → ℕ
has_id (Some (Ok id)) = 1
has_id _ = 0

-- the header of a message, and its request id
abbrev pub c_message : Msg → Message
c_message m = record {
  minor = minor_of m.version;
  little_endian = order_bit m.order;
  more = if m.more then 1 else 0;
  kind = kind_number m.kind;
  size = length m.payload;
  id = id_told (request_id_of m);
  has_id = has_id (request_id_of m);
}

-- a fault of the framer: its place and its number
abbrev pub c_fault : WireFault → Fault
c_fault e = record { at = e.at; number = wire_kind_number e.kind }
