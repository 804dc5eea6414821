-- The JSON lines of `dump`, without their newlines. The line of a message is an object that is
-- written in parts: how it begins, and then members behind others.
use Rattle.std.specs.Prelude.{ℕ, Bool, true, false, List, ◌++◌, Option, Some, None, Result, Ok, Err, codes, length}
use Rattle.std.specs.Fmt.{decimal}
use Rattle.giop_cdr.specs.declared.fault.CdrFault.{CdrFault}
use Rattle.giop_cdr.specs.declared.order.Order.{Order}
use Rattle.giop_cdr.specs.declared.order.Order.TheVariants.{Big, Little}
use Rattle.giop_frag.specs.declared.fault.GatherFault.{GatherFault}
use Rattle.giop_frag.specs.Faults.{gather_fault_name, gather_fault_number}
use Rattle.giop_msg.specs.declared.fault.WireFault.{WireFault}
use Rattle.giop_msg.specs.declared.kind.Kind.{Kind}
use Rattle.giop_msg.specs.declared.messages.request_fault.RequestFault.{RequestFault}
use Rattle.giop_msg.specs.declared.msg.Msg.{Msg}
use Rattle.giop_msg.specs.declared.version.Version.{Version}
use Rattle.giop_msg.specs.declared.version.Version.TheVariants.{V10, V11, V12}
use Rattle.giop_msg.specs.declared.locate_reply_head.LocateReplyHead.{LocateReplyHead}
use Rattle.giop_msg.specs.Kind.{kind_name}
use Rattle.giop_msg.specs.Locate.{AnyLocateRequest}
use Rattle.giop_msg.specs.ReplyHead.{AnyReplyHead}
use Rattle.giop_msg.specs.RequestHead.{Head}
use Rattle.giop_lines.specs.JsonLines.{cdr_fault_json, request_fault_json, target_json, text_json, wire_fault_json}

-- ---- how the line of a message begins

-- a version of GIOP
abbrev pub version_json : Version → List ℕ
version_json V10 = codes "\"version\":\"1.0\""
version_json V11 = codes "\"version\":\"1.1\""
version_json V12 = codes "\"version\":\"1.2\""

-- a byte order
abbrev pub order_json : Order → List ℕ
order_json Big = codes "\"order\":\"big\""
order_json Little = codes "\"order\":\"little\""

-- whether more fragments follow
abbrev pub more_json : Bool → List ℕ
more_json true = codes "\"more\":true"
more_json false = codes "\"more\":false"

-- a request id, null where there is none or it isn't read
abbrev pub message_id_json : Option (Result ℕ CdrFault) → List ℕ
message_id_json (Some (Ok id)) = decimal id
message_id_json (Some (Err e)) = codes "null"
message_id_json None = codes "null"

-- what the header of a message says, but for its size
unfoldable pub header_json : Msg → List ℕ
header_json m =
    codes "\"message\":\"" ++ (kind_name m.kind ++ (codes "\"," ++ (version_json m.version ++
    (codes "," ++ (order_json m.order ++ (codes "," ++ more_json m.more))))))

-- a message of this request id that begins at an offset of the file
unfoldable pub message_json : ℕ → Msg → Option (Result ℕ CdrFault) → List ℕ
message_json at m id =
    codes "{\"at\":" ++ (decimal at ++ (codes "," ++ (header_json m ++ (codes ",\"size\":" ++
    (decimal (length m.payload) ++ (codes ",\"id\":" ++ message_id_json id))))))

-- ---- what its head says

-- how many service contexts there are, and how many octets the body has
unfoldable pub counts_json : ℕ → ℕ → List ℕ
counts_json contexts body =
    codes "\"contexts\":" ++ (decimal contexts ++ (codes ",\"body\":" ++ decimal body))

-- the head of a Request and how many octets its body has
unfoldable pub request_json : Head → ℕ → List ℕ
request_json head body =
    codes ",\"head\":{\"flags\":" ++ (decimal head.flags ++ (codes "," ++
    (target_json head.target ++ (codes ",\"operation\":" ++ (text_json head.operation ++
    (codes "," ++ (counts_json (length head.contexts) body ++ codes "}")))))))

-- the head of a Reply, likewise
unfoldable pub reply_json : AnyReplyHead → ℕ → List ℕ
reply_json head body =
    codes ",\"head\":{\"status\":" ++ (decimal head.status ++ (codes "," ++
    (counts_json (length head.contexts) body ++ codes "}")))

-- a LocateRequest: its target
unfoldable pub locate_request_json : AnyLocateRequest → List ℕ
locate_request_json request = codes ",\"head\":{" ++ (target_json request.target ++ codes "}")

-- a LocateReply and how many octets stand behind its status
unfoldable pub locate_reply_json : LocateReplyHead → ℕ → List ℕ
locate_reply_json head body =
    codes ",\"head\":{\"status\":" ++ (decimal head.status ++ (codes ",\"body\":" ++
    (decimal body ++ codes "}")))

-- why the head of a message isn't read, at an offset of the message
unfoldable pub head_fault_json : CdrFault → List ℕ
head_fault_json e = codes ",\"head\":{\"fault\":" ++ (cdr_fault_json e ++ codes "}")

-- ---- what its body says

-- the ins of a Request, which are a JSON list
unfoldable pub ins_json : List ℕ → List ℕ
ins_json ins = codes ",\"ins\":" ++ ins

-- why a Request can't be decoded
unfoldable pub undecoded_json : RequestFault → List ℕ
undecoded_json e = codes ",\"undecoded\":{" ++ (request_fault_json e ++ codes "}")

-- a message that was joined of its pieces, and how many octets it has; the object is left open
unfoldable pub joined_json : Kind → ℕ → List ℕ
joined_json kind size =
    codes ",\"joined\":{\"message\":\"" ++ (kind_name kind ++ (codes "\",\"size\":" ++ decimal size))

-- why a piece isn't joined
unfoldable pub unjoined_json : GatherFault → List ℕ
unjoined_json e =
    codes ",\"unjoined\":{\"number\":" ++ (decimal (gather_fault_number e) ++
    (codes ",\"name\":\"" ++ (gather_fault_name e ++ codes "\"}")))

-- ---- the last line

-- the octets after the last whole message
unfoldable pub rest_json : ℕ → List ℕ
rest_json n = codes "{\"rest\":" ++ (decimal n ++ codes "}")

-- a fault in the header that begins at an offset of the file, at an offset of the header
unfoldable pub file_fault_json : ℕ → WireFault → List ℕ
file_fault_json at e =
    codes "{\"at\":" ++ (decimal at ++ (codes ",\"fault\":" ++ (wire_fault_json e ++ codes "}")))
