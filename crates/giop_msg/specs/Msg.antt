-- A GIOP message: its header, and the octets from offset 12 on (CORBA 3.3 Part 2, 9.4).
use Rattle.std.specs.Prelude.{◌≡◌, ℕ, ◌<◌, ◌^◌, List, ◌++◌, None, length}
use Rattle.giop_msg.specs.declared.header.Header.{Header}
use Rattle.giop_msg.specs.declared.msg.Msg.{Msg}
use Rattle.giop_msg.specs.Header.{header_octets, header_fault}

-- the header of a message
abbrev pub head_of : Msg → Header
head_of m = record {
  version = m.version;
  order = m.order;
  more = m.more;
  kind = m.kind;
  size = length m.payload;
}

-- the octets of a message
abbrev pub message_octets : Msg → List ℕ
message_octets m = header_octets (head_of m) ++ m.payload

-- the message's size is an unsigned long, and nothing is wrong with its header's octets: its fields
-- alone would not show that 1.0 has no flag for more fragments, nor that only 1.2 has Fragments
pub record IsMessage (limit : ℕ) (m : Msg) : Type 0 where
  pub sized : length m.payload < 2 ^ 32
  pub sound : header_fault limit (header_octets (head_of m)) ≡ None
