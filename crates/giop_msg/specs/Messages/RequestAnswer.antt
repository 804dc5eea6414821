-- What reading a Request returns, and in which part of it a fault is (CORBA 3.3 Part 2, 9.4.2).
use Rattle.std.specs.Prelude.{◌≡◌, ◌⊎◌, ℕ, List, Option, Some, None, Result, Ok, Err, IsOk}
use Rattle.giop_cdr.specs.declared.order.Order.{Order}
use Rattle.giop_cdr.specs.declared.fault.CdrFault.{CdrFault}
use Rattle.giop_cdr.specs.declared.fault.CdrKind.TheVariants.{NoMemory}
use Rattle.giop_cdr.specs.Reading.Cursor.{Cursor}
use Rattle.giop_cdr.specs.Reading.Exactness.{Took}
use Rattle.giop_cdr.specs.Reading.Values.{Reading}
use Rattle.giop_types.specs.declared.interfaces.interface.Interface.{Interface}
use Rattle.giop_types.specs.declared.interfaces.interface.Operation.{Operation}
use Rattle.giop_msg.specs.declared.messages.request.Request.{Request}
use Rattle.giop_msg.specs.declared.messages.request_fault.RequestFault.{RequestFault}
use Rattle.giop_msg.specs.declared.messages.request_fault.RequestFault.TheVariants.{Header, Operation as NoOperation, Body}
use Rattle.giop_msg.specs.declared.version.Version.{Version}
use Rattle.giop_msg.specs.Joined.{joined_from, no_memory}
use Rattle.giop_msg.specs.Messages.Request.{operation_asked, request_body}
use Rattle.giop_msg.specs.RequestHead.{Head, request_head}

-- why joined octets are no Request: a field of the head is refused; or a head is there whose
-- operation the interface hasn't; or it has it, and a field of its ins is refused, or what is left
abbrev pub RefusedRequest : Interface → Version → Cursor → RequestFault → Type 0
RefusedRequest interface version c (Header e) = (request_head version).refused c e
RefusedRequest interface version c NoOperation =
    (head : Head) × (after : Cursor) × Took (request_head version).spells c head after
    × (operation_asked interface head ≡ None)
RefusedRequest interface version c (Body e) =
    (head : Head) × (after : Cursor) × Took (request_head version).spells c head after
    × (operation : Operation) × (operation_asked interface head ≡ Some operation)
    × (request_body version head (Some operation)).refused after e

-- what reading the body returns
abbrev pub body_answer : Result Request CdrFault → Result Request RequestFault
body_answer (Ok request) = Ok request
body_answer (Err e) = Err (Body e)

-- what reading returns behind a head, by its operation
abbrev pub operation_answer : Version → Head → Cursor → Option Operation
    → Result Request RequestFault
operation_answer version head after None = Err NoOperation
operation_answer version head after (Some operation) =
    body_answer ((request_body version head (Some operation)).read after)

-- what reading returns, by what reading the head gives
abbrev pub head_answer : Interface → Version → Reading Head → Result Request RequestFault
head_answer interface version (Err e) = Err (Header e)
head_answer interface version (Ok x) =
    operation_answer version x.0 x.1 (operation_asked interface x.0)

-- the Request that joined octets are, with nothing behind it; or the first fault
unfoldable pub request_of_joined : Interface → Version → Order → List ℕ
    → Result Request RequestFault
request_of_joined interface version order joined =
    head_answer interface version ((request_head version).read (joined_from order joined))

-- reading is out of memory for a part of a Request
abbrev pub IsWant : RequestFault → Type 0
IsWant (Header e) = e.kind ≡ NoMemory
IsWant NoOperation = ⊥
IsWant (Body e) = e.kind ≡ NoMemory

-- out of memory for the head or for the body, as it is reported
abbrev pub IsWholeWant : RequestFault → Type 0
IsWholeWant (Header e) = e ≡ no_memory
IsWholeWant NoOperation = ⊥
IsWholeWant (Body e) = e ≡ no_memory

-- this Request is returned, or the call is out of memory
abbrev pub IsRequestTold : Result Request RequestFault → Request → Type 0
IsRequestTold (Ok told) request = told ≡ request
IsRequestTold (Err e) request = IsWholeWant e

-- a call returns what reading gives; or it is out of memory, where reading gives a Request
abbrev pub DecodesRequest : Result Request RequestFault → Result Request RequestFault → Type 0
DecodesRequest (Ok request) reading = reading ≡ Ok request
DecodesRequest (Err e) reading = (reading ≡ Err e) ⊎ (IsWholeWant e × IsOk reading)

-- a step of such a call: where it is out of memory nothing else is known
abbrev pub FollowsRequest : Result Request RequestFault → Result Request RequestFault → Type 0
FollowsRequest (Ok request) reading = reading ≡ Ok request
FollowsRequest (Err e) reading = (reading ≡ Err e) ⊎ IsWant e
