-- The lines that `dump` writes, without their newlines.
use Rattle.std.specs.Prelude.{ℕ, Bool, true, false, List, [], ◌++◌, Option, Some, None, Result, Ok, Err, codes, length}
use Rattle.std.specs.Fmt.{decimal}
use Rattle.giop_cdr.specs.declared.fault.CdrFault.{CdrFault}
use Rattle.giop_cdr.specs.declared.order.Order.{Order}
use Rattle.giop_cdr.specs.declared.order.Order.TheVariants.{Big, Little}
use Rattle.giop_msg.specs.declared.fault.WireFault.{WireFault}
use Rattle.giop_msg.specs.declared.msg.Msg.{Msg}
use Rattle.giop_msg.specs.declared.version.Version.{Version}
use Rattle.giop_msg.specs.declared.version.Version.TheVariants.{V10, V11, V12}
use Rattle.giop_msg.specs.declared.locate_reply_head.LocateReplyHead.{LocateReplyHead}
use Rattle.giop_msg.specs.declared.target.Target.TheVariants.{Key, Profile, Reference}
use Rattle.giop_cdr.specs.Faults.{cdr_kind_number, cdr_kind_name}
use Rattle.giop_msg.specs.Fault.{wire_kind_number, wire_fault_text}
use Rattle.giop_msg.specs.Kind.{kind_name}
use Rattle.giop_msg.specs.Locate.{AnyLocateRequest}
use Rattle.giop_msg.specs.ReplyHead.{AnyReplyHead}
use Rattle.giop_msg.specs.RequestHead.{Head}
use Rattle.giop_msg.specs.Target.{AnyTarget}
use Rattle.giop_lines.specs.Octets.{hex_text, escaped_text}

-- a byte order, in two letters
abbrev pub order_text : Order → List ℕ
order_text Big = codes "BE"
order_text Little = codes "LE"

-- that more fragments follow
abbrev pub more_text : Bool → List ℕ
more_text true = codes " more"
more_text false = []

-- a fault of octets, at its offset: NUMBER NAME at PLACE
abbrev pub cdr_fault_text : CdrFault → List ℕ
cdr_fault_text e =
    decimal (cdr_kind_number e.kind) ++ (codes " " ++ (cdr_kind_name e.kind ++
    (codes " at " ++ decimal e.at)))

-- a version, where it is not 1.2
abbrev pub version_text : Version → List ℕ
version_text V10 = codes " 1.0"
version_text V11 = codes " 1.1"
version_text V12 = []

-- a request id, where there is one and it is read
abbrev pub id_text : Option (Result ℕ CdrFault) → List ℕ
id_text (Some (Ok id)) = codes " id " ++ decimal id
id_text (Some (Err e)) = []
id_text None = []

-- a message of this request id that begins at an offset of the file:
--   OFFSET KIND[ VERSION] BE|LE[ more] size SIZE[ id ID]
abbrev pub message_line : ℕ → Msg → Option (Result ℕ CdrFault) → List ℕ
message_line at m id =
    decimal at ++ (codes " " ++ (kind_name m.kind ++ (version_text m.version ++ (codes " " ++
    (order_text m.order ++ (more_text m.more ++ (codes " size " ++
    (decimal (length m.payload) ++ id_text id))))))))

-- the target of a Request or a LocateRequest
abbrev pub target_text : AnyTarget → List ℕ
target_text (Key key) = codes "key " ++ hex_text key
target_text (Profile profile) = codes "profile " ++ decimal profile.tag
target_text (Reference index ior) = codes "reference " ++ decimal index

-- the head of a Request and how many octets its body has, behind two spaces:
--   flags FLAGS TARGET operation OPERATION contexts CONTEXTS body BODY
abbrev pub request_line : Head → ℕ → List ℕ
request_line head body =
    codes "  flags " ++ (decimal head.flags ++ (codes " " ++ (target_text head.target ++
    (codes " operation " ++ (escaped_text head.operation ++ (codes " contexts " ++
    (decimal (length head.contexts) ++ (codes " body " ++ decimal body))))))))

-- the head of a Reply and how many octets its body has:
--   status STATUS contexts CONTEXTS body BODY
abbrev pub reply_line : AnyReplyHead → ℕ → List ℕ
reply_line head body =
    codes "  status " ++ (decimal head.status ++ (codes " contexts " ++
    (decimal (length head.contexts) ++ (codes " body " ++ decimal body))))

-- a LocateRequest: its target
abbrev pub locate_request_line : AnyLocateRequest → List ℕ
locate_request_line request = codes "  " ++ target_text request.target

-- a LocateReply and how many octets stand behind its status: status STATUS body BODY
abbrev pub locate_reply_line : LocateReplyHead → ℕ → List ℕ
locate_reply_line head body =
    codes "  status " ++ (decimal head.status ++ (codes " body " ++ decimal body))

-- why the head of a message isn't read, at an offset of the message: fault NUMBER NAME at PLACE
abbrev pub head_fault_line : CdrFault → List ℕ
head_fault_line e =
    codes "  fault " ++ (decimal (cdr_kind_number e.kind) ++ (codes " " ++ (cdr_kind_name e.kind ++
    (codes " at " ++ decimal e.at))))

-- a fault in the header that begins at an offset of the file, at an offset of the header:
--   OFFSET fault NUMBER NAME at PLACE
abbrev pub fault_line : ℕ → WireFault → List ℕ
fault_line at e =
    decimal at ++ (codes " fault " ++ (decimal (wire_kind_number e.kind) ++ (codes " " ++
    wire_fault_text e)))

-- the octets after the last whole message: rest N
abbrev pub rest_line : ℕ → List ℕ
rest_line n = codes "rest " ++ decimal n
