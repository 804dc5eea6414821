-- What the bodies of messages hold, as text: values as JSON, each by its description.
use Rattle.std.specs.Prelude.{ℕ, List, [], Option, Some, None, codes, if◌then◌else◌}
use Rattle.giop_types.specs.declared.interfaces.interface.Interface.{Interface}
use Rattle.giop_types.specs.declared.interfaces.interface.Operation.{Operation}
use Rattle.giop_types.specs.declared.interfaces.parameters.Parameter.{Parameter}
use Rattle.giop_json.specs.declared.number_form.NumberForm.{NumberForm}
use Rattle.giop_ior_text.specs.IorText.{text_written}
use Rattle.giop_json.specs.ValuesText.{values_text}
use Rattle.giop_ior.specs.Ior.{Reference, ior_layout}
use Rattle.giop_msg.specs.declared.messages.reply_body.ReplyBody.{ReplyBody}
use Rattle.giop_msg.specs.declared.messages.reply_body.ReplyBody.TheVariants.{NoException, UserException, SystemException, Forward, ForwardPerm, NeedsAddressing}
use Rattle.giop_msg.specs.declared.messages.request.Request.{Request}
use Rattle.giop_msg.specs.Messages.Reply.{exception_in, listed, outs_of}
use Rattle.giop_msg.specs.Messages.Request.{offer_at, operation_asked}

-- the text of a reference, written again
abbrev pub reference_text : Reference → List ℕ
reference_text ior = text_written ior_layout.written ior

-- the text of the reference that a Reply forwards to; - where octets spell none, as a decoded one's
-- do
abbrev pub forward_text : Reference → List ℕ
forward_text ior = if ior_layout.fits ior then reference_text ior else codes "-"

-- the ins of an operation; none, where the interface hasn't it
abbrev pub ins_of : Option Operation → List Parameter
ins_of (Some operation) = operation.ins.list.items
ins_of None = []

-- the ins of a Request, by what its object offers
abbrev pub request_ins : NumberForm → Interface → Request → List ℕ
request_ins numbers interface request =
    values_text numbers (ins_of (operation_asked interface request.head)) request.body

-- what a Reply to a Request brought, by what its object offers: the outs of its operation, the
-- members of an exception, or a reference
abbrev pub brought_by : NumberForm → Interface → Request → ReplyBody → List ℕ
brought_by numbers interface request (NoException outs) =
    values_text numbers (outs_of (operation_asked interface request.head)) outs
brought_by numbers interface request (UserException id members) =
    values_text numbers
    (listed (exception_in (offer_at interface request.head.target) id)) members
brought_by numbers interface request (SystemException id minor completed) = []
brought_by numbers interface request (Forward ior) = forward_text ior
brought_by numbers interface request (ForwardPerm ior) = forward_text ior
brought_by numbers interface request (NeedsAddressing disposition) = []
