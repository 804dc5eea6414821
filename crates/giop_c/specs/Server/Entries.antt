-- What is stored for the id of a call at a server, as C sees it.
use Rattle.std.specs.Prelude.{ℕ, if◌then◌else◌, Option, Some, None, List, length}
use Rattle.giop_cdr.specs.declared.fault.CdrFault.{CdrFault}
use Rattle.giop_cdr.specs.Faults.{cdr_kind_number}
use Rattle.giop_ior.specs.declared.references.service_context.ServiceContext.{ServiceContext}
use Rattle.giop_msg.specs.declared.messages.request.Request.{Request}
use Rattle.giop_msg.specs.declared.messages.request_fault.RequestFault.{RequestFault}
use Rattle.giop_msg.specs.declared.messages.request_fault.RequestFault.TheVariants as wrong
use Rattle.giop_msg.specs.declared.version.Version.{Version}
use Rattle.giop_msg.specs.declared.version.Version.TheVariants.{V12}
use Rattle.giop_msg.specs.Messages.Reply.{status_of}
use Rattle.giop_msg.specs.Target.{AnyTarget, key_of}
use Rattle.giop_calls.specs.declared.kind.CallKind.{CallKind}
use Rattle.giop_calls.specs.declared.kind.CallKind.TheVariants as kind
use Rattle.giop_calls.specs.declared.server.entry.ServerEntry.{ServerEntry}
use Rattle.giop_calls.specs.declared.server.entry.ServerEntry.TheVariants.{Gathering, Asked, Undecoded, LocateAsked, Answered, LocateAnswered, Delivered, Cancelled}
use Rattle.giop_calls.specs.declared.server.question.Question.{Question}
use Rattle.giop_calls.specs.declared.server.question.Question.TheVariants as question
use Rattle.giop_calls.specs.ServerTable.{is_closed, left_of, outcome}
use Rattle.giop_c.specs.declared.server.entries.ServerRow.{ServerRow}
use Rattle.giop_c.specs.Contexts.{count_in}
use Rattle.giop_c.specs.EndRecords.{outcome_number}

-- the Request that an answered call was, where it could be decoded
abbrev pub request_asked : Question → Option Request
request_asked (question.Request q) = Some q
request_asked (question.Undecoded e) = None

-- the Request of an entry, where it has one that could be decoded
abbrev pub request_in : ServerEntry → Option Request
request_in (Asked q) = Some q
request_in (Delivered q) = Some q
request_in (Answered asked reply left) = request_asked asked
request_in _ = None

-- the Request under an id
abbrev pub request_of : Option ServerEntry → Option Request
request_of None = None
request_of (Some entry) = request_in entry

-- its operation and its service contexts
abbrev pub operation_in : Option Request → Option (List ℕ)
operation_in None = None
operation_in (Some q) = Some q.head.operation

abbrev pub contexts_in : Option Request → Option (List ServiceContext)
contexts_in None = None
contexts_in (Some q) = Some q.head.contexts

-- the target of an answered call, where it could be decoded
abbrev pub target_asked : Question → Option AnyTarget
target_asked (question.Request q) = Some q.head.target
target_asked (question.Undecoded e) = None

-- the target of the Request or the LocateRequest of an entry, where it could be decoded
abbrev pub target_in : ServerEntry → Option AnyTarget
target_in (Asked q) = Some q.head.target
target_in (Delivered q) = Some q.head.target
target_in (Answered asked reply left) = target_asked asked
target_in (LocateAsked q) = Some q.target
target_in (LocateAnswered target here) = target
target_in _ = None

-- the target under an id
abbrev pub target_of : Option ServerEntry → Option AnyTarget
target_of None = None
target_of (Some entry) = target_in entry

-- the key of its object, which is empty where the target is no key
abbrev pub key_in : Option AnyTarget → Option (List ℕ)
key_in None = None
key_in (Some target) = Some (key_of target)

-- the response flags of a Request, and how long its operation and the key are; 0 where there is none
abbrev pub flags_in : Option Request → ℕ
flags_in None = 0
flags_in (Some q) = q.head.flags

abbrev pub operation_size : Option Request → ℕ
operation_size None = 0
operation_size (Some q) = length q.head.operation

abbrev pub key_size : Option AnyTarget → ℕ
key_size None = 0
key_size (Some target) = length (key_of target)

-- why an answered call couldn't be decoded, where it couldn't
abbrev pub fault_asked : Question → Option RequestFault
fault_asked (question.Request q) = None
fault_asked (question.Undecoded e) = Some e

-- why the call of an entry couldn't be decoded, where it couldn't
abbrev pub fault_in : ServerEntry → Option RequestFault
fault_in (Undecoded call) = Some call.fault
fault_in (Answered asked reply left) = fault_asked asked
fault_in _ = None

-- why the call under an id couldn't be decoded
abbrev pub fault_of : Option ServerEntry → Option RequestFault
fault_of None = None
fault_of (Some entry) = fault_in entry

-- in which part the fault is: 1 the head, 2 the operation, which the interface hasn't, 3 the body
abbrev pub part_told : Option RequestFault → ℕ
part_told None = 0
part_told (Some (wrong.Header e)) = 1
part_told (Some wrong.Operation) = 2
part_told (Some (wrong.Body e)) = 3

-- what is wrong in the head or in the body, and where; else 0
abbrev pub number_told : Option RequestFault → ℕ
number_told (Some (wrong.Header e)) = cdr_kind_number e.kind
number_told (Some (wrong.Body e)) = cdr_kind_number e.kind
number_told _ = 0

abbrev pub place_told : Option RequestFault → ℕ
place_told (Some (wrong.Header e)) = e.at
place_told (Some (wrong.Body e)) = e.at
place_told _ = 0

-- what is stored: 0 for nothing
abbrev pub kind_of : Option ServerEntry → ℕ
kind_of None = 0
kind_of (Some (Gathering k)) = 1
kind_of (Some (Asked q)) = 2
kind_of (Some (Undecoded call)) = 3
kind_of (Some (LocateAsked q)) = 4
kind_of (Some (Answered asked reply left)) = 5
kind_of (Some (LocateAnswered target here)) = 6
kind_of (Some (Delivered q)) = 7
kind_of (Some (Cancelled answered left)) = 8

-- what a call that couldn't be decoded waits for
abbrev pub awaits_undecoded : Option CallKind → ℕ
awaits_undecoded None = 0
awaits_undecoded (Some kind.Request) = 1
awaits_undecoded (Some kind.Locate) = 2

-- what a call waits for: 1 a Reply, 2 a LocateReply, 0 nothing
abbrev pub awaits : Option ServerEntry → ℕ
awaits (Some (Asked q)) = 1
awaits (Some (LocateAsked q)) = 2
awaits (Some (Undecoded call)) = awaits_undecoded call.expects
awaits _ = 0

-- whether the call is over, so that it may be taken out
abbrev pub over : Option ServerEntry → ℕ
over None = 0
over (Some entry) = if is_closed entry then 1 else 0

-- how many pieces of the reply aren't sent yet
abbrev pub left : Option ServerEntry → ℕ
left None = 0
left (Some entry) = left_of entry

-- what a call came to, by its number
abbrev pub came_to : Option ServerEntry → ℕ
came_to None = 0
came_to (Some entry) = outcome_number (outcome entry)

-- the reply status of an answered call
abbrev pub reply_status : Option ServerEntry → ℕ
reply_status (Some (Answered asked reply left)) = status_of reply.body
reply_status (Some (LocateAnswered target here)) = if here then 1 else 0
reply_status _ = 0

-- what is stored for an id
abbrev pub c_server_row : Option ServerEntry → ServerRow
c_server_row entry = record {
  operation = operation_size (request_of entry);
  key = key_size (target_of entry);
  contexts = count_in (contexts_in (request_of entry));
  at = place_told (fault_of entry);
  number = number_told (fault_of entry);
  left = left entry;
  status = reply_status entry;
  part = part_told (fault_of entry);
  kind = kind_of entry;
  awaits = awaits entry;
  over = over entry;
  outcome = came_to entry;
  flags = flags_in (request_of entry);
}

-- ---- what an entry says but for its kind, in a row that has zeros else

-- what a Request says
abbrev pub row_of_request : Request → ServerRow
row_of_request q = record (c_server_row None) {
  operation = length q.head.operation;
  key = length (key_of q.head.target);
  contexts = length q.head.contexts;
  flags = q.head.flags;
}

-- what is wrong in a part of a call
abbrev pub row_of_part : ℕ → CdrFault → ServerRow
row_of_part part e = record (c_server_row None) {
  part = part;
  number = cdr_kind_number e.kind;
  at = e.at;
}

-- what is wrong with a call that can't be decoded
abbrev pub row_of_fault : RequestFault → ServerRow
row_of_fault (wrong.Header e) = row_of_part 1 e
row_of_fault wrong.Operation = record (c_server_row None) { part = 2 }
row_of_fault (wrong.Body e) = row_of_part 3 e

-- what an answered call was
abbrev pub row_of_question : Question → ServerRow
row_of_question (question.Request q) = row_of_request q
row_of_question (question.Undecoded e) = row_of_fault e

-- ---- what an answer needs

-- the version in which a call is answered; 1.2 where none waits for a Reply
abbrev pub version_in : ServerEntry → Version
version_in (Asked q) = q.head.version
version_in (Undecoded call) = call.version
version_in _ = V12

abbrev pub version_asked : Option ServerEntry → Version
version_asked None = V12
version_asked (Some entry) = version_in entry
