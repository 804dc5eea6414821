-- What `dump` tells of the bodies of Requests, by an interface (CORBA 3.3 Part 2, 9.4.2).
use Rattle.std.specs.Prelude.{◌≡◌, ◌⊎◌, ℕ, List, [], ◌++◌, Option, Some, None, Result, Ok, Err, if◌then◌else◌, length}
use Rattle.giop_frag.specs.Gathered.{Lists}
use Rattle.giop_msg.specs.declared.kind.Kind.{Kind}
use Rattle.giop_msg.specs.declared.kind.Kind.TheVariants.{Request as request_kind}
use Rattle.giop_msg.specs.declared.messages.request.Request.{Request}
use Rattle.giop_msg.specs.declared.messages.request_fault.RequestFault.{RequestFault}
use Rattle.giop_msg.specs.declared.messages.request_fault.RequestFault.TheVariants.{Header, Operation, Body}
use Rattle.giop_msg.specs.declared.msg.Msg.{Msg}
use Rattle.giop_msg.specs.Messages.RequestAnswer.{request_of_joined}
use Rattle.giop_types.specs.declared.json.form_fault.FormFault.{FormFault}
use Rattle.giop_types.specs.declared.json.interface.Interface.{Interface}
use Rattle.giop_types.specs.JsonForms.DescFromJson.{json_in}
use Rattle.giop_types.specs.JsonForms.InterfaceFromJson.{interface_told, interface_view}
use Rattle.giop_lines.specs.Lines.{fault_line, rest_line}
use Rattle.giop_lines.specs.BodyLines.{ins_line, joined_line, undecoded_line, unjoined_line}
use Rattle.giop_lines.specs.declared.refusal.RefusalLine.TheVariants.{Form}
use Rattle.giop_commands.specs.declared.dump.joining.Piece.{Piece}
use Rattle.giop_commands.specs.declared.dump.joining.Piece.TheVariants.{Joined, Unjoined, Untold}
use Rattle.giop_commands.specs.declared.status.Status.{Status}
use Rattle.giop_commands.specs.declared.status.Status.TheVariants.{Refused}
use Rattle.giop_commands.specs.Bodies.{request_ins}
use Rattle.giop_commands.specs.Convert.{Tells}
use Rattle.giop_commands.specs.Dump.{DumpsKnown, Telling, ended, message_text, second_text}
use Rattle.giop_commands.specs.Joining.{lists_after, told_piece}

-- why the body of a Request isn't read; a fault of its head stands in the line of the head
abbrev pub undecoded_text : RequestFault → List ℕ
undecoded_text (Header e) = []
undecoded_text e = ended (undecoded_line e)

-- the ins of a Request, or why they aren't read
abbrev pub ins_text_of : Interface → Result Request RequestFault → List ℕ
ins_text_of interface (Ok request) = ended (ins_line (request_ins interface request))
ins_text_of interface (Err e) = undecoded_text e

-- the line of the body of a whole Request
unfoldable pub body_text : Interface → Msg → List ℕ
body_text interface m =
    ins_text_of interface (request_of_joined interface m.version m.order m.payload)

-- the line of the body of a message of a kind, where it is a whole Request
abbrev pub own_text : Interface → Kind → Msg → List ℕ
own_text interface request_kind m = if m.more then [] else body_text interface m
own_text interface _ m = []

-- the lines of a Request that was joined
abbrev pub joined_text : Interface → Msg → List ℕ
joined_text interface m =
    ended (joined_line m.kind (length m.payload)) ++ (second_text m.kind m ++ body_text interface m)

-- the lines of a Request whose last piece a message is, or why a piece isn't joined
abbrev pub piece_text : Interface → Piece → List ℕ
piece_text interface Untold = []
piece_text interface (Unjoined e) = ended (unjoined_line e)
piece_text interface (Joined m) = joined_text interface m

-- the lines of a message, and of the body that it has or is the last piece of
abbrev pub bodies_text : Interface → ℕ → Lists → ℕ → Msg → List ℕ
bodies_text interface gathered lists at m =
    message_text at m
    ++ (own_text interface m.kind m ++ piece_text interface (told_piece gathered lists m))

-- the lines of a message, with its body where there is an interface
abbrev pub lines_by : Option Interface → ℕ → Lists → ℕ → Msg → List ℕ
lines_by None gathered lists at m = message_text at m
lines_by (Some interface) gathered lists at m = bodies_text interface gathered lists at m

-- what is gathered behind a message, where there is an interface
abbrev pub after_by : Option Interface → ℕ → Lists → Msg → Lists
after_by None gathered lists m = lists
after_by (Some interface) gathered lists m = lists_after gathered lists m

-- by heads, and by bodies where there is an interface: no more octets of pieces than a limit are
-- gathered
abbrev pub telling_by : Option Interface → ℕ → Telling
telling_by interface gathered = record {
  lines = lines_by interface gathered;
  after = after_by interface gathered;
  rest = rest_line;
  fault = fault_line;
}

-- a dump with bodies by the interface that a JSON text is; where it is none, its fault is reported
-- alone
abbrev pub DumpsText : List ℕ → ℕ → ℕ → Option (List ℕ) → Option (List ℕ) → Option (List ℕ)
    → Status → Type 0
DumpsText text limit gathered octets old new status =
    ((interface : Interface) × (interface_told (json_in text) ≡ Ok (interface_view interface))
    × DumpsKnown (telling_by (Some interface) gathered) limit octets old new status)
    ⊎ ((status ≡ Refused) × ((e : FormFault) × (interface_told (json_in text) ≡ Err e)
    × Tells old new (Form e)))
