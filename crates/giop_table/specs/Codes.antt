-- Codes of what is stored in the table of an end, by which a map of it can be seen by contracts.
use Rattle.std.specs.Prelude.{◌≡◌, ℕ, ◌==◌, Bool, if◌then◌else◌, List, refl}
use Rattle.std.specs.Coded.{Coded, code_by, coded×, coded_ℕ, coded_bool, coded_list}
use Rattle.giop_msg.specs.declared.kind.Kind.{Kind}
use Rattle.giop_msg.specs.declared.kind.Kind.TheVariants.{Request, Reply, CancelRequest, LocateRequest, LocateReply, CloseConnection, MessageError, Fragment}
use Rattle.giop_msg.specs.declared.msg.Msg.{Msg}
use Rattle.giop_msg.specs.declared.version.Version.{Version}
use Rattle.giop_msg.specs.declared.version.Version.TheVariants.{V10, V11, V12}
use Rattle.giop_msg.specs.Kind.{kind_number}
use Rattle.giop_msg.specs.Version.{minor_of, version_of}
use Rattle.giop_frag.specs.Gathered.{is_little, order_of, order_of-is_little}
use Rattle.giop_table.specs.declared.slot.Slot.{Slot}

-- the kind of a message type
abbrev pub kind_of : ℕ → Kind
kind_of n =
    if n == 0 then Request else if n == 1 then Reply else if n == 2 then CancelRequest
    else if n == 3 then LocateRequest else if n == 4 then LocateReply
    else if n == 5 then CloseConnection else if n == 6 then MessageError else Fragment

-- numbers give kinds and versions back
pub kind_of-kind_number : (kind : Kind) → kind_of (kind_number kind) ≡ kind
kind_of-kind_number Request = refl
kind_of-kind_number Reply = refl
kind_of-kind_number CancelRequest = refl
kind_of-kind_number LocateRequest = refl
kind_of-kind_number LocateReply = refl
kind_of-kind_number CloseConnection = refl
kind_of-kind_number MessageError = refl
kind_of-kind_number Fragment = refl

pub version_of-minor_of : (version : Version) → version_of (minor_of version) ≡ version
version_of-minor_of V10 = refl
version_of-minor_of V11 = refl
version_of-minor_of V12 = refl

-- a message is stored as the tuple of its fields
abbrev pub msg_code : Coded Msg
msg_code =
    code_by (ℕ × (Bool × (Bool × (ℕ × List ℕ))))
    (coded× coded_ℕ (coded× coded_bool (coded× coded_bool (coded× coded_ℕ (coded_list coded_ℕ)))))
    (λ m. (minor_of m.version, (is_little m.order, (m.more, (kind_number m.kind, m.payload)))))
    (λ p. record {
      version = version_of p.0;
      order = order_of p.1.0;
      more = p.1.1.0;
      kind = kind_of p.1.1.1.0;
      payload = p.1.1.1.1;
    })
    (λ m i. record {
      version = version_of-minor_of m.version i;
      order = order_of-is_little m.order i;
      more = m.more;
      kind = kind_of-kind_number m.kind i;
      payload = m.payload;
    })

-- a slot is stored as the pair of its fields
abbrev pub slot_code : {E : Type 0} → Coded E → Coded (Slot E)
slot_code {E} entry =
    code_by (E × List Msg) (coded× entry (coded_list msg_code)) (λ s. (s.entry, s.unsent))
    (λ p. record { entry = p.0; unsent = p.1 }) (λ _. refl)
