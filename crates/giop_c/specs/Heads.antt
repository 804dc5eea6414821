-- The heads of a Request and of a Reply, as C sees them, and what the calls write that read them.
use Rattle.std.specs.Prelude.{◌≡◌, ℕ, ◌<◌, ◌≤◌, ◌==◌, ◌⊎◌, List, [], ◌++◌, Result, Ok, Err, drop, length, if◌then◌else◌}
use Rattle.giop_cdr.specs.declared.fault.CdrFault.{CdrFault}
use Rattle.giop_cdr.specs.declared.order.Order.{Order}
use Rattle.giop_cdr.specs.declared.order.Order.TheVariants.{Big, Little}
use Rattle.giop_cdr.specs.Faults.{cdr_kind_number}
use Rattle.giop_msg.specs.declared.target.Target.TheVariants.{Key, Profile, Reference}
use Rattle.giop_msg.specs.declared.version.Version.{Version}
use Rattle.giop_msg.specs.ReplyHead.{AnyReplyHead}
use Rattle.giop_msg.specs.RequestHead.{Head}
use Rattle.giop_msg.specs.Target.{AnyTarget, key_of}
use Rattle.giop_msg.specs.Version.{version_of}
use Rattle.giop_c.specs.declared.records.Fault.{Fault}
use Rattle.giop_c.specs.declared.records.Message.{Message}
use Rattle.giop_c.specs.declared.records.Reply.{Reply}
use Rattle.giop_c.specs.declared.records.Request.{Request}
use Rattle.giop_c.specs.Calls.{ok, fault, small}

-- the version and the byte order of a header that C has
abbrev pub c_version : Message → Version
c_version m = version_of m.minor

abbrev pub c_order : Message → Order
c_order m = if m.little_endian == 0 then Big else Little

-- the addressing disposition (9.4.2.1); before 1.2 a target is a key
abbrev pub disposition_number : AnyTarget → ℕ
disposition_number (Key _) = 0
disposition_number (Profile _) = 1
disposition_number (Reference _ _) = 2

-- a head whose body stands at this offset
abbrev pub c_request : Head → ℕ → Request
c_request head body = record {
  body = body;
  operation = length head.operation;
  key = length (key_of head.target);
  id = head.id;
  flags = head.flags;
  target = disposition_number head.target;
}

-- a fault of a head: its place and its number
abbrev pub c_cdr_fault : CdrFault → Fault
c_cdr_fault e = record { at = e.at; number = cdr_kind_number e.kind }

-- two lists of octets are copied to the fronts of two buffers that have room for them, or neither
abbrev pub Copied : List ℕ → List ℕ → List ℕ → List ℕ → List ℕ → List ℕ → ℕ → Type 0
Copied name id operation operation' key key' status =
    ((status ≡ ok) × ((length name ≤ length operation) × (length id ≤ length key))
    × ((operation' ≡ name ++ drop (length name) operation) × (key' ≡ id ++ drop (length id) key)))
    ⊎ ((status ≡ small) × ((length operation < length name) ⊎ (length key < length id))
    × ((operation' ≡ operation) × (key' ≡ key)))

-- what the head or its first fault leads to
abbrev pub Reads : Result (Head × ℕ) CdrFault → Request → Request → List ℕ → List ℕ
    → List ℕ → List ℕ → Fault → Fault → ℕ → Type 0
Reads (Ok head) r r' operation operation' key key' f f' status =
    (r' ≡ c_request head.0 head.1) × (f' ≡ f)
    × Copied head.0.operation (key_of head.0.target) operation operation' key key' status
Reads (Err e) r r' operation operation' key key' f f' status =
    (status ≡ fault) × (r' ≡ r) × (f' ≡ c_cdr_fault e) × (operation' ≡ operation) × (key' ≡ key)

-- a Reply's head whose body stands at this offset
abbrev pub c_reply : AnyReplyHead → ℕ → Reply
c_reply head body = record {
  body = body;
  contexts = length head.contexts;
  id = head.id;
  status = head.status;
}

-- what a Reply's head or its first fault leads to
abbrev pub ReadsReply : Result (AnyReplyHead × ℕ) CdrFault → Reply → Reply → Fault → Fault → ℕ
    → Type 0
ReadsReply (Ok head) r r' f f' status =
    (status ≡ ok) × (r' ≡ c_reply head.0 head.1) × (f' ≡ f)
ReadsReply (Err e) r r' f f' status = (status ≡ fault) × (r' ≡ r) × (f' ≡ c_cdr_fault e)
