-- What a message of a client comes to, by its joined octets (CORBA 3.3 Part 2, 9.4.2 and 9.4.5).
use Rattle.std.specs.Prelude.{ℕ, ◌==◌, if◌then◌else◌, List, Option, Some, None, Result, Ok, Err}
use Rattle.giop_cdr.specs.declared.order.Order.{Order}
use Rattle.giop_cdr.specs.declared.fault.CdrFault.{CdrFault}
use Rattle.giop_types.specs.declared.interfaces.interface.Interface.{Interface}
use Rattle.giop_msg.specs.declared.messages.request.Request.{Request}
use Rattle.giop_msg.specs.declared.messages.request_fault.RequestFault.{RequestFault}
use Rattle.giop_msg.specs.declared.messages.request_fault.RequestFault.TheVariants.{Header}
use Rattle.giop_msg.specs.declared.version.Version.{Version}
use Rattle.giop_msg.specs.Joined.{body_place, head_of_joined, whole_of_joined}
use Rattle.giop_msg.specs.Locate.{AnyLocateRequest, locate_request}
use Rattle.giop_msg.specs.RequestHead.{Head, request_head}
use Rattle.giop_msg.specs.Messages.RequestAnswer.{request_of_joined}
use Rattle.giop_calls.specs.declared.kind.CallKind.{CallKind}
use Rattle.giop_calls.specs.declared.kind.CallKind.TheVariants as kind
use Rattle.giop_calls.specs.declared.server.heard.HeardCall.{HeardCall}
use Rattle.giop_calls.specs.declared.server.heard.HeardCall.TheVariants as heard

-- one that can't be decoded
abbrev pub undecoded : Version → Option CallKind → RequestFault → HeardCall
undecoded version expects fault =
    heard.Undecoded (record { version = version; expects = expects; fault = fault })

-- whether a Request is answered, by its head: it isn't where it has one whose flags are 0
abbrev pub expected_by : Result (Head × ℕ) CdrFault → Option CallKind
expected_by (Ok x) = if x.0.flags == 0 then None else Some kind.Request
expected_by (Err e) = Some kind.Request

abbrev pub expected : Version → Order → List ℕ → Option CallKind
expected version order joined =
    expected_by (head_of_joined (request_head version) (body_place version) order joined)

-- a Request, by what reading it gives
abbrev pub heard_request_by : Version → Option CallKind → Result Request RequestFault → HeardCall
heard_request_by version expects (Ok request) = heard.Request request
heard_request_by version expects (Err fault) = undecoded version expects fault

-- a LocateRequest, by what reading it gives
abbrev pub heard_locate_by : Version → Result AnyLocateRequest CdrFault → HeardCall
heard_locate_by version (Ok request) = heard.Locate request
heard_locate_by version (Err e) = undecoded version (Some kind.Locate) (Header e)

-- what joined octets come to
abbrev pub heard_call : Interface → CallKind → Version → Order → List ℕ → HeardCall
heard_call interface kind.Request version order joined =
    heard_request_by version (expected version order joined)
    (request_of_joined interface version order joined)
heard_call interface kind.Locate version order joined =
    heard_locate_by version (whole_of_joined (locate_request version) order joined)
