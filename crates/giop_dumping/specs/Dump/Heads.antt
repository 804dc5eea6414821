-- What `dump` tells of messages by their heads alone (CORBA 3.3 Part 2, 9.4.1 to 9.4.9), in a form.
use Rattle.std.specs.Prelude.{ℕ, ◌+◌, ◌-◌, List, [], ◌++◌, length, if◌then◌else◌, Result, Ok, Err}
use Rattle.giop_cdr.specs.declared.fault.CdrFault.{CdrFault}
use Rattle.giop_msg.specs.declared.fault.WireFault.{WireFault}
use Rattle.giop_msg.specs.declared.kind.Kind.{Kind}
use Rattle.giop_msg.specs.declared.kind.Kind.TheVariants.{Request, Reply, LocateRequest, LocateReply}
use Rattle.giop_msg.specs.declared.msg.Msg.{Msg}
use Rattle.giop_msg.specs.declared.locate_reply_head.LocateReplyHead.{LocateReplyHead}
use Rattle.giop_msg.specs.Joined.{body_place, head_of_joined, right_behind, whole_of_joined}
use Rattle.giop_msg.specs.Locate.{AnyLocateRequest, locate_reply_head, locate_request}
use Rattle.giop_msg.specs.ReplyHead.{AnyReplyHead, reply_head}
use Rattle.giop_msg.specs.RequestHead.{Head, request_head}
use Rattle.giop_msg.specs.RequestId.{request_id_of}
use Rattle.giop_lines.specs.DumpJson as json
use Rattle.giop_lines.specs.Lines.{message_line, request_line, reply_line, locate_request_line, locate_reply_line, head_fault_line, fault_line}
use Rattle.giop_forms.specs.declared.line_form.LineForm.{LineForm}
use Rattle.giop_dumping.specs.Dump.Text.{Telling}
use Rattle.giop_show.specs.Forms.{ended_in, line_in, part_in}
use Rattle.giop_show.specs.Rest.{rest_in}

-- the offset behind a message's last octet
abbrev pub end_of : Msg → ℕ
end_of m = 12 + length m.payload

-- why a head isn't read
abbrev pub head_fault_in : LineForm → CdrFault → List ℕ
head_fault_in form e = part_in form (head_fault_line e) (json.head_fault_json e)

-- a Request's head and how many octets its body has
abbrev pub request_in : LineForm → Head → ℕ → List ℕ
request_in form head body = part_in form (request_line head body) (json.request_json head body)

-- a Reply's head and how many octets its body has
abbrev pub reply_in : LineForm → AnyReplyHead → ℕ → List ℕ
reply_in form head body = part_in form (reply_line head body) (json.reply_json head body)

-- a LocateReply and how many octets stand behind its status
abbrev pub locate_reply_in : LineForm → LocateReplyHead → ℕ → List ℕ
locate_reply_in form head body =
    part_in form (locate_reply_line head body) (json.locate_reply_json head body)

-- a LocateRequest
abbrev pub locate_request_in : LineForm → AnyLocateRequest → List ℕ
locate_request_in form request =
    part_in form (locate_request_line request) (json.locate_request_json request)

-- a Request's head and the body that ends at an offset, or the head's fault
abbrev pub request_text : LineForm → ℕ → Result (Head × ℕ) CdrFault → List ℕ
request_text form end (Ok head) = request_in form head.0 (end - head.1)
request_text form end (Err e) = head_fault_in form e

-- a Reply's head and the body that ends at an offset, or the head's fault
abbrev pub reply_text : LineForm → ℕ → Result (AnyReplyHead × ℕ) CdrFault → List ℕ
reply_text form end (Ok head) = reply_in form head.0 (end - head.1)
reply_text form end (Err e) = head_fault_in form e

-- a LocateRequest, or its fault
abbrev pub locate_request_text : LineForm → Result AnyLocateRequest CdrFault → List ℕ
locate_request_text form (Ok request) = locate_request_in form request
locate_request_text form (Err e) = head_fault_in form e

-- a LocateReply and the octets behind its status, or its fault
abbrev pub locate_reply_text : LineForm → ℕ → Result (LocateReplyHead × ℕ) CdrFault → List ℕ
locate_reply_text form end (Ok head) = locate_reply_in form head.0 (end - head.1)
locate_reply_text form end (Err e) = head_fault_in form e

-- what a message begins with behind its header: the head of its kind and where its body is, or the
-- first fault
abbrev pub request_head_of : Msg → Result (Head × ℕ) CdrFault
request_head_of m =
    head_of_joined (request_head m.version) (body_place m.version) m.order m.payload

abbrev pub reply_head_of : Msg → Result (AnyReplyHead × ℕ) CdrFault
reply_head_of m = head_of_joined (reply_head m.version) (body_place m.version) m.order m.payload

abbrev pub locate_request_of : Msg → Result AnyLocateRequest CdrFault
locate_request_of m = whole_of_joined (locate_request m.version) m.order m.payload

abbrev pub locate_reply_head_of : Msg → Result (LocateReplyHead × ℕ) CdrFault
locate_reply_head_of m =
    head_of_joined (locate_reply_head m.version) right_behind m.order m.payload

-- what the head of a message of a kind says, where it has one
unfoldable pub second_text : LineForm → Kind → Msg → List ℕ
second_text form Request m = request_text form (end_of m) (request_head_of m)
second_text form Reply m = reply_text form (end_of m) (reply_head_of m)
second_text form LocateRequest m = locate_request_text form (locate_request_of m)
second_text form LocateReply m = locate_reply_text form (end_of m) (locate_reply_head_of m)
second_text form _ m = []

-- a message that begins at an offset of the file, but for its body and the end of its JSON line; of
-- a first fragment no head is told
abbrev pub message_text : LineForm → ℕ → Msg → List ℕ
message_text form at m =
    part_in form (message_line at m (request_id_of m)) (json.message_json at m (request_id_of m))
    ++ (if m.more then [] else second_text form m.kind m)

-- the last line where the header at an offset has a fault
abbrev pub fault_in : LineForm → ℕ → WireFault → List ℕ
fault_in form at e = line_in form (fault_line at e) (json.file_fault_json at e)

-- by heads alone: nothing is gathered
abbrev pub heads_alone : LineForm → Telling
heads_alone form = record {
  lines = λ lists at m. message_text form at m ++ ended_in form;
  after = λ lists m. lists;
  rest = rest_in form;
  fault = fault_in form;
}
