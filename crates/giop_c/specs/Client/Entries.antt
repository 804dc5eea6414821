-- What is stored for the id of a call at a client, as C sees it.
use Rattle.std.specs.Prelude.{◌≡◌, ℕ, ℤ, pos, if◌then◌else◌, Option, Some, None, Ok, List, length}
use Rattle.giop_cdr.specs.Faults.{cdr_kind_number}
use Rattle.giop_types.specs.declared.interfaces.interface.Interface.{Interface}
use Rattle.giop_types.specs.declared.interfaces.parameters.Parameter.{Parameter}
use Rattle.giop_ior_text.specs.IorText.{ior_text_of, text_written}
use Rattle.giop_ior.specs.declared.references.service_context.ServiceContext.{ServiceContext}
use Rattle.giop_ior.specs.Ior.{Reference, ior_layout}
use Rattle.giop_msg.specs.declared.messages.reply.Reply.{Reply}
use Rattle.giop_msg.specs.declared.messages.reply_body.ReplyBody.{ReplyBody}
use Rattle.giop_msg.specs.declared.messages.reply_body.ReplyBody.TheVariants.{NoException, UserException, SystemException, Forward, ForwardPerm}
use Rattle.giop_msg.specs.Messages.Reply.{completion_in, completion_number, disposition_in, exception_of, listed, minor_in, outs_for, status_of}
use Rattle.giop_calls.specs.declared.client.entry.ClientEntry.{ClientEntry}
use Rattle.giop_calls.specs.declared.client.entry.ClientEntry.TheVariants.{Sending, Waiting, Gathering, Done, LocateDone, Undecoded, OnewaySent, Cancelled}
use Rattle.giop_calls.specs.ClientTable.{is_closed, left_of, outcome}
use Rattle.giop_c.specs.declared.client.entries.ClientRow.{ClientRow}
use Rattle.giop_c.specs.declared.value_form.ValueForm.{ValueForm}
use Rattle.giop_c.specs.Contexts.{count_in}
use Rattle.giop_c.specs.Copying.{CopiesOctets, CopiesWhere}
use Rattle.giop_c.specs.EndRecords.{outcome_number}
use Rattle.giop_c.specs.Values.{CopiesValues}

-- the Reply to a Request, and what it brought
abbrev pub body_in : ClientEntry → Option ReplyBody
body_in (Done request reply) = Some reply.body
body_in _ = None

abbrev pub body_of : Option ClientEntry → Option ReplyBody
body_of None = None
body_of (Some entry) = body_in entry

-- the service contexts of the Reply to a Request
abbrev pub contexts_in : ClientEntry → Option (List ServiceContext)
contexts_in (Done request reply) = Some reply.contexts
contexts_in _ = None

abbrev pub contexts_of : Option ClientEntry → Option (List ServiceContext)
contexts_of None = None
contexts_of (Some entry) = contexts_in entry

-- the repository id of an exception, the interface's or the broker's
abbrev pub exception_of_body : ReplyBody → Option (List ℕ)
exception_of_body (UserException id members) = Some id
exception_of_body (SystemException id minor completed) = Some id
exception_of_body _ = None

abbrev pub exception_in : Option ReplyBody → Option (List ℕ)
exception_in None = None
exception_in (Some body) = exception_of_body body

-- the reference to which a request is forwarded
abbrev pub forward_of_body : ReplyBody → Option Reference
forward_of_body (Forward ior) = Some ior
forward_of_body (ForwardPerm ior) = Some ior
forward_of_body _ = None

abbrev pub forward_in : Option ReplyBody → Option Reference
forward_in None = None
forward_in (Some body) = forward_of_body body

-- how long an id is, and what else a body says; 0 where it doesn't
abbrev pub size_in : Option (List ℕ) → ℕ
size_in None = 0
size_in (Some octets) = length octets

abbrev pub minor_told : Option ReplyBody → ℕ
minor_told None = 0
minor_told (Some body) = minor_in body

abbrev pub completion_told : Option ReplyBody → ℕ
completion_told None = 0
completion_told (Some body) = completion_number (completion_in body)

abbrev pub addressing_told : Option ReplyBody → ℤ
addressing_told None = pos 0
addressing_told (Some body) = disposition_in body

-- what is wrong with a reply that can't be decoded, and where
abbrev pub place_told : Option ClientEntry → ℕ
place_told (Some (Undecoded call e)) = e.at
place_told _ = 0

abbrev pub number_told : Option ClientEntry → ℕ
number_told (Some (Undecoded call e)) = cdr_kind_number e.kind
number_told _ = 0

-- what is stored: 0 for nothing
abbrev pub kind_of : Option ClientEntry → ℕ
kind_of None = 0
kind_of (Some (Gathering call)) = 1
kind_of (Some (Undecoded call e)) = 3
kind_of (Some (Cancelled late)) = 8
kind_of (Some (Sending call left)) = 9
kind_of (Some (Waiting call)) = 10
kind_of (Some (Done request reply)) = 11
kind_of (Some (LocateDone request reply)) = 12
kind_of (Some (OnewaySent request)) = 13

-- the status of a Reply or of a LocateReply
abbrev pub reply_status : Option ClientEntry → ℕ
reply_status (Some (Done request reply)) = status_of reply.body
reply_status (Some (LocateDone request reply)) = reply.head.status
reply_status _ = 0

-- whether the call is over, so that it may be taken out
abbrev pub over : Option ClientEntry → ℕ
over None = 0
over (Some entry) = if is_closed entry then 1 else 0

-- how many pieces of the call aren't sent yet
abbrev pub left : Option ClientEntry → ℕ
left None = 0
left (Some entry) = left_of entry

-- what a call came to, by its number
abbrev pub came_to : Option ClientEntry → ℕ
came_to None = 0
came_to (Some entry) = outcome_number (outcome entry)

-- what is stored for an id
abbrev pub c_client_row : Option ClientEntry → ClientRow
c_client_row entry = record {
  exception = size_in (exception_in (body_of entry));
  contexts = count_in (contexts_of entry);
  at = place_told entry;
  number = number_told entry;
  left = left entry;
  status = reply_status entry;
  minor = minor_told (body_of entry);
  completion = completion_told (body_of entry);
  addressing = addressing_told (body_of entry);
  kind = kind_of entry;
  over = over entry;
  outcome = came_to entry;
}

-- what a body says, in a row that has zeros else
abbrev pub row_of_body : ReplyBody → ClientRow
row_of_body body = record (c_client_row None) {
  exception = size_in (exception_of_body body);
  minor = minor_in body;
  completion = completion_number (completion_in body);
  addressing = disposition_in body;
}

-- the outs of a body that has no exception are copied
abbrev pub CopiesOutsOf : List Parameter → ReplyBody → ValueForm → List ℕ → List ℕ → ℕ → ℕ → ℕ
    → Type 0
CopiesOutsOf parameters (NoException outs) form = CopiesValues parameters outs form
CopiesOutsOf parameters _ form = CopiesOctets None

-- by the Request that it answers
abbrev pub CopiesOuts : Interface → Option ClientEntry → ValueForm → List ℕ → List ℕ → ℕ → ℕ → ℕ
    → Type 0
CopiesOuts interface (Some (Done request reply)) form =
    CopiesOutsOf (outs_for interface (Some request)) reply.body form
CopiesOuts interface _ form = CopiesOctets None

-- the members of an exception of the interface are copied
abbrev pub CopiesMembers : Interface → Option ReplyBody → ValueForm → List ℕ → List ℕ → ℕ → ℕ → ℕ
    → Type 0
CopiesMembers interface (Some (UserException id members)) form =
    CopiesValues (listed (exception_of interface id)) members form
CopiesMembers interface _ form = CopiesOctets None

-- the text of a reference is copied, where there is one that octets spell, and is read as the
-- reference again; or memory ran out
abbrev pub CopiesReference : Option Reference → List ℕ → List ℕ → ℕ → ℕ → ℕ → Type 0
CopiesReference None = CopiesOctets None
CopiesReference (Some ior) =
    CopiesWhere (ior_layout.fits ior)
    (ior_text_of ior_layout.read (text_written ior_layout.written ior) ≡ Ok ior)
    (text_written ior_layout.written ior)
