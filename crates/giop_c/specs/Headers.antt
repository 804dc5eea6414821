-- A header out of the caller's octets (CORBA 3.3 Part 2, 9.4.1), as C sees it, and the request id
-- behind it.
use Rattle.std.specs.Prelude.{◌≡◌, ◌⊎◌, ℕ, ◌<◌, ◌≤◌, if◌then◌else◌, List, Option, Some, None, Result, drop, length, take}
use Rattle.giop_cdr.specs.declared.fault.CdrFault.{CdrFault}
use Rattle.giop_msg.specs.declared.fault.WireFault.{WireFault}
use Rattle.giop_msg.specs.declared.header.Header.{Header}
use Rattle.giop_msg.specs.Header.{header_fault, header_of, order_bit}
use Rattle.giop_msg.specs.Kind.{kind_number}
use Rattle.giop_msg.specs.RequestId.{request_id_of}
use Rattle.giop_msg.specs.Version.{minor_of}
use Rattle.giop_c.specs.declared.records.Fault.{Fault}
use Rattle.giop_c.specs.declared.records.Message.{Message}
use Rattle.giop_c.specs.Calls.{fault, ok, waits}
use Rattle.giop_c.specs.Records.{c_fault, has_id, id_told}

-- the request id of the message of a header and of these octets behind it
abbrev pub id_behind : Header → List ℕ → Option (Result ℕ CdrFault)
id_behind h payload = request_id_of (record {
  version = h.version;
  order = h.order;
  more = h.more;
  kind = h.kind;
  payload = payload;
})

-- a header, and the request id of its message, of which as many octets are read as are there
abbrev pub c_header : Header → List ℕ → Message
c_header h behind = record {
  minor = minor_of h.version;
  little_endian = order_bit h.order;
  more = if h.more then 1 else 0;
  kind = kind_number h.kind;
  size = h.size;
  id = id_told (id_behind h (take h.size behind));
  has_id = has_id (id_behind h (take h.size behind));
}

-- what the header or its fault leads to
abbrev pub JudgesHeader : Option WireFault → List ℕ → Message → Message → Fault → Fault → ℕ → Type 0
JudgesHeader None octets m m' f f' status =
    (status ≡ ok) × (m' ≡ c_header (header_of (take 12 octets)) (drop 12 octets)) × (f' ≡ f)
JudgesHeader (Some e) octets m m' f f' status = (status ≡ fault) × (m' ≡ m) × (f' ≡ c_fault e)

-- so where twelve octets are there, and else nothing is written
abbrev pub ReadsHeader : ℕ → List ℕ → Message → Message → Fault → Fault → ℕ → Type 0
ReadsHeader limit octets m m' f f' status =
    ((length octets < 12) × (status ≡ waits) × (m' ≡ m) × (f' ≡ f))
    ⊎ ((12 ≤ length octets)
    × JudgesHeader (header_fault limit (take 12 octets)) octets m m' f f' status)
