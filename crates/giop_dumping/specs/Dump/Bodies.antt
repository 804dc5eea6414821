-- What `dump` tells of the bodies of Requests, by an interface (CORBA 3.3 Part 2, 9.4.2), in a
-- form.
use Rattle.std.specs.Prelude.{◌≡◌, ◌⊎◌, ℕ, List, [], ◌++◌, Option, Some, None, option_copied, Result, Ok, Err, if◌then◌else◌, length}
use Rattle.giop_frag.specs.Gathered.{Lists}
use Rattle.std.specs.Io.KnownBytes.{Appends}
use Rattle.giop_msg.specs.declared.kind.Kind.{Kind}
use Rattle.giop_msg.specs.declared.kind.Kind.TheVariants.{Request as request_kind}
use Rattle.giop_msg.specs.declared.messages.request.Request.{Request}
use Rattle.giop_msg.specs.declared.messages.request_fault.RequestFault.{RequestFault}
use Rattle.giop_msg.specs.declared.messages.request_fault.RequestFault.TheVariants.{Header}
use Rattle.giop_msg.specs.declared.msg.Msg.{Msg}
use Rattle.giop_msg.specs.Messages.RequestAnswer.{request_of_joined}
use Rattle.giop_json.specs.declared.form_fault.FormFault.{FormFault}
use Rattle.giop_types.specs.declared.interfaces.interface.Interface.{Interface}
use Rattle.giop_json.specs.DescFromJson.{json_in}
use Rattle.giop_json.specs.InterfaceFromJson.{interface_told, interface_view}
use Rattle.giop_lines.specs.DumpJson.{ins_json, joined_json, undecoded_json, unjoined_json}
use Rattle.giop_lines.specs.BodyLines.{ins_line, joined_line, undecoded_line, unjoined_line}
use Rattle.giop_lines.specs.declared.refusal.RefusalLine.TheVariants.{Form}
use Rattle.giop_forms.specs.declared.line_form.LineForm.{LineForm}
use Rattle.giop_dumping.specs.declared.dump.joining.Piece.{Piece}
use Rattle.giop_dumping.specs.declared.dump.joining.Piece.TheVariants.{Joined, Unjoined, Untold}
use Rattle.giop_dumping.specs.declared.dump.teller.Teller.{Teller}
use Rattle.giop_show.specs.declared.status.Status.{Status}
use Rattle.giop_show.specs.declared.status.Status.TheVariants.{Refused}
use Rattle.giop_show.specs.Bodies.{request_ins}
use Rattle.giop_dumping.specs.Dump.Text.{DumpsKnown, Telling}
use Rattle.giop_show.specs.Forms.{ended, closed_in, ended_in, part_in, refused_in}
use Rattle.giop_dumping.specs.Dump.Heads.{fault_in, message_text, second_text}
use Rattle.giop_show.specs.Rest.{rest_in}
use Rattle.giop_forms.specs.Forms.{numbers_of}
use Rattle.giop_dumping.specs.Dump.Joining.{lists_after, told_piece}

-- why the body of a Request isn't read; a fault of its head is told with the head
abbrev pub undecoded_text : LineForm → RequestFault → List ℕ
undecoded_text form (Header e) = []
undecoded_text form e = part_in form (undecoded_line e) (undecoded_json e)

-- the ins of a Request, as a JSON list
abbrev pub ins_in : LineForm → List ℕ → List ℕ
ins_in form ins = part_in form (ins_line ins) (ins_json ins)

-- the ins of a Request, or why they aren't read
abbrev pub ins_text_of : Interface → LineForm → Result Request RequestFault → List ℕ
ins_text_of interface form (Ok request) = ins_in form (request_ins (numbers_of form) interface request)
ins_text_of interface form (Err e) = undecoded_text form e

-- the body of a whole Request
unfoldable pub body_text : Interface → LineForm → Msg → List ℕ
body_text interface form m =
    ins_text_of interface form (request_of_joined interface m.version m.order m.payload)

-- the body of a message of a kind, where it is a whole Request
abbrev pub own_text : Interface → LineForm → Kind → Msg → List ℕ
own_text interface form request_kind m = if m.more then [] else body_text interface form m
own_text interface form _ m = []

-- a Request that was joined
abbrev pub joined_text : Interface → LineForm → Msg → List ℕ
joined_text interface form m =
    part_in form (joined_line m.kind (length m.payload)) (joined_json m.kind (length m.payload))
    ++ (second_text form m.kind m ++ (body_text interface form m ++ closed_in form))

-- the Request whose last piece a message is, or why a piece isn't joined
abbrev pub piece_text : Interface → LineForm → Piece → List ℕ
piece_text interface form Untold = []
piece_text interface form (Unjoined e) = part_in form (unjoined_line e) (unjoined_json e)
piece_text interface form (Joined m) = joined_text interface form m

-- the body that a message has, or is the last piece of
abbrev pub bodies_text : Interface → LineForm → ℕ → Lists → Msg → List ℕ
bodies_text interface form gathered lists m =
    own_text interface form m.kind m ++ piece_text interface form (told_piece gathered lists m)

-- the same where there is an interface
abbrev pub body_by : Option Interface → LineForm → ℕ → Lists → Msg → List ℕ
body_by None form gathered lists m = []
body_by (Some interface) form gathered lists m = bodies_text interface form gathered lists m

-- a message, with its body where there is an interface
abbrev pub lines_by : Option Interface → LineForm → ℕ → Lists → ℕ → Msg → List ℕ
lines_by interface form gathered lists at m =
    message_text form at m ++ (body_by interface form gathered lists m ++ ended_in form)

-- what is gathered behind a message, where there is an interface
abbrev pub after_by : Option Interface → ℕ → Lists → Msg → Lists
after_by None gathered lists m = lists
after_by (Some interface) gathered lists m = lists_after gathered lists m

-- by heads, and by bodies where there is an interface: no more octets of pieces than a limit are
-- gathered
abbrev pub telling_by : Option Interface → LineForm → ℕ → Telling
telling_by interface form gathered = record {
  lines = lines_by interface form gathered;
  after = after_by interface gathered;
  rest = rest_in form;
  fault = fault_in form;
}

-- as a teller tells
abbrev pub telling_of : Teller → Telling
telling_of teller =
    telling_by (option_copied teller.interface) teller.form teller.gather.limit

-- a dump with bodies by the interface that a JSON text is; where it is none, its fault is reported
-- alone
abbrev pub DumpsText : List ℕ → ℕ → ℕ → LineForm → Option (List ℕ) → Option (List ℕ)
    → Option (List ℕ) → Status → Type 0
DumpsText text limit gathered form octets old new status =
    ((interface : Interface) × (interface_told (json_in text) ≡ Ok (interface_view interface))
    × (interface.objects.entries ≡ [])
    × DumpsKnown (telling_by (Some interface) form gathered) limit octets old new status)
    ⊎ ((status ≡ Refused) × ((e : FormFault) × (interface_told (json_in text) ≡ Err e)
    × Appends old new (ended (refused_in form (Form e)))))
