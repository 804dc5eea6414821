-- The lines of a table of calls, without their newlines: ID ENTRY, and what the entry says.
use Rattle.std.specs.Prelude.{ℕ, Bool, true, false, List, ◌++◌, codes}
use Rattle.std.specs.Fmt.{decimal, signed_decimal}
use Rattle.giop_msg.specs.declared.messages.completion.Completion.{Completion}
use Rattle.giop_msg.specs.declared.messages.completion.Completion.TheVariants.{Yes, No, Maybe}
use Rattle.giop_msg.specs.declared.messages.reply_body.ReplyBody.{ReplyBody}
use Rattle.giop_msg.specs.declared.messages.reply_body.ReplyBody.TheVariants.{NoException, UserException, SystemException, Forward, ForwardPerm, NeedsAddressing}
use Rattle.giop_msg.specs.declared.messages.request.Request.{Request}
use Rattle.giop_msg.specs.Messages.Reply.{status_of}
use Rattle.giop_calls.specs.declared.server.entry.ServerEntry.{ServerEntry}
use Rattle.giop_calls.specs.declared.server.entry.ServerEntry.TheVariants as server
use Rattle.giop_calls.specs.declared.server.question.Question.{Question}
use Rattle.giop_calls.specs.declared.server.question.Question.TheVariants as question
use Rattle.giop_calls.specs.declared.client.entry.ClientEntry.{ClientEntry}
use Rattle.giop_calls.specs.declared.client.entry.ClientEntry.TheVariants as client
use Rattle.giop_lines.specs.BodyLines.{request_fault_text}
use Rattle.giop_lines.specs.Octets.{escaped_text}
use Rattle.giop_lines.specs.Lines.{cdr_fault_text}

-- a Request and its ins: OPERATION INS
abbrev pub asked_text : Request → List ℕ → List ℕ
asked_text request ins = escaped_text request.head.operation ++ (codes " " ++ ins)

-- whether an object is here: the status of a LocateReply, OBJECT_HERE or UNKNOWN_OBJECT
abbrev pub here_text : Bool → List ℕ
here_text true = codes "1"
here_text false = codes "0"

-- what is stored for an id at a server, with the text of the ins of a Request
abbrev pub server_line : ℕ → ServerEntry → List ℕ → List ℕ
server_line id (server.Gathering kind) ins = decimal id ++ codes " Gathering"
server_line id (server.Asked request) ins =
    decimal id ++ (codes " Asked " ++ asked_text request ins)
server_line id (server.Undecoded call) ins =
    decimal id ++ (codes " Undecoded " ++ request_fault_text call.fault)
server_line id (server.LocateAsked request) ins = decimal id ++ codes " LocateAsked"
server_line id (server.Answered asked reply left) ins =
    decimal id ++ (codes " Answered " ++ decimal (status_of reply.body))
server_line id (server.LocateAnswered target here) ins =
    decimal id ++ (codes " LocateAnswered " ++ here_text here)
server_line id (server.Delivered request) ins =
    decimal id ++ (codes " Delivered " ++ asked_text request ins)
server_line id (server.Cancelled answered left) ins = decimal id ++ codes " Cancelled"

-- a completion, by its number
abbrev pub completion_text : Completion → List ℕ
completion_text Yes = codes "0"
completion_text No = codes "1"
completion_text Maybe = codes "2"

-- what a Reply answers, by its status, with the text of its values or of its reference
abbrev pub reply_text : ReplyBody → List ℕ → List ℕ
reply_text (NoException outs) brought = codes "0 " ++ brought
reply_text (UserException id members) brought =
    codes "1 " ++ (escaped_text id ++ (codes " " ++ brought))
reply_text (SystemException id minor completed) brought =
    codes "2 " ++ (escaped_text id ++ (codes " " ++ (decimal minor ++
    (codes " " ++ completion_text completed))))
reply_text (Forward ior) brought = codes "3 " ++ brought
reply_text (ForwardPerm ior) brought = codes "4 " ++ brought
reply_text (NeedsAddressing disposition) brought = codes "5 " ++ signed_decimal disposition

-- what is stored for an id at a client, with the text of what its Reply brought
abbrev pub client_line : ℕ → ClientEntry → List ℕ → List ℕ
client_line id (client.Sending call left) brought = decimal id ++ codes " Sending"
client_line id (client.Waiting call) brought = decimal id ++ codes " Waiting"
client_line id (client.Gathering call) brought = decimal id ++ codes " Gathering"
client_line id (client.Done request reply) brought =
    decimal id ++ (codes " Done " ++ reply_text reply.body brought)
client_line id (client.LocateDone request reply) brought =
    decimal id ++ (codes " LocateDone " ++ decimal reply.head.status)
client_line id (client.Undecoded call e) brought =
    decimal id ++ (codes " Undecoded reply " ++ cdr_fault_text e)
client_line id (client.OnewaySent request) brought = decimal id ++ codes " OnewaySent"
client_line id (client.Cancelled late) brought = decimal id ++ codes " Cancelled"

-- a call that wasn't made: ID Unsent
abbrev pub unsent_line : ℕ → List ℕ
unsent_line id = decimal id ++ codes " Unsent"

-- what was asked at a server, with the text of the ins of a Request
abbrev pub question_text : Question → List ℕ → List ℕ
question_text (question.Request request) ins = codes "Asked " ++ asked_text request ins
question_text (question.Undecoded e) ins = codes "Undecoded " ++ request_fault_text e

-- a call that a server answered, with the texts of the ins of its Request and of what its Reply
-- brings: ID QUESTION Answered REPLY
abbrev pub answered_line : ℕ → Question → List ℕ → ReplyBody → List ℕ → List ℕ
answered_line id asked ins body brought =
    decimal id ++ (codes " " ++ (question_text asked ins ++ (codes " Answered " ++
    reply_text body brought)))

-- which connection it is, counted from 1: connection NUMBER
abbrev pub connection_line : ℕ → List ℕ
connection_line number = codes "connection " ++ decimal number
