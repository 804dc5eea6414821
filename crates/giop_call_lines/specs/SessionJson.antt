-- The JSON lines of `call` and `serve`, without their newlines.
use Rattle.std.specs.Prelude.{ℕ, List, ◌++◌, codes}
use Rattle.std.specs.Fmt.{decimal, signed_decimal}
use Rattle.std.specs.Int.{to_be_bytes, w32}
use Rattle.giop_msg.specs.declared.messages.reply_body.ReplyBody.{ReplyBody}
use Rattle.giop_msg.specs.declared.messages.reply_body.ReplyBody.TheVariants.{NoException, UserException, SystemException, Forward, ForwardPerm, NeedsAddressing}
use Rattle.giop_msg.specs.Messages.Reply.{status_of}
use Rattle.giop_calls.specs.declared.client.entry.ClientEntry.{ClientEntry}
use Rattle.giop_calls.specs.declared.client.entry.ClientEntry.TheVariants as client
use Rattle.giop_calls.specs.declared.server.question.Question.{Question}
use Rattle.giop_calls.specs.declared.server.question.Question.TheVariants as question
use Rattle.giop_lines.specs.JsonLines.{cdr_fault_json, request_fault_json, text_json}
use Rattle.giop_lines.specs.Octets.{hex_text}
use Rattle.giop_call_lines.specs.TableJson.{asked_json}
use Rattle.giop_call_lines.specs.TableLines.{completion_text}

-- a minor code in eight hexadecimal digits
abbrev pub minor_hex : ℕ → List ℕ
minor_hex minor = codes "0x" ++ hex_text (to_be_bytes w32 minor)

-- a minor code, in both forms, as members
unfoldable pub minor_json : ℕ → List ℕ
minor_json minor =
    codes "\"minor\":" ++ (decimal minor ++ (codes ",\"minor_hex\":\"" ++
    (minor_hex minor ++ codes "\"")))

-- what a Reply answers, with the text of its values or of its reference: what it is, and the
-- members behind that
abbrev pub outcome_json : ReplyBody → List ℕ → List ℕ
outcome_json (NoException outs) brought = codes "\"result\",\"outs\":" ++ brought
outcome_json (UserException id members) brought =
    codes "\"user_exception\",\"exception\":" ++ (text_json id ++ (codes ",\"members\":" ++ brought))
outcome_json (SystemException id minor completed) brought =
    codes "\"system_exception\",\"exception\":" ++ (text_json id ++ (codes "," ++
    (minor_json minor ++ (codes ",\"completion\":" ++ completion_text completed))))
outcome_json (Forward ior) brought =
    codes "\"forward\",\"reference\":\"" ++ (brought ++ codes "\"")
outcome_json (ForwardPerm ior) brought =
    codes "\"forward_perm\",\"reference\":\"" ++ (brought ++ codes "\"")
outcome_json (NeedsAddressing disposition) brought =
    codes "\"needs_addressing\",\"disposition\":" ++ signed_decimal disposition

-- what is stored at a client, with the text of what its Reply brought: what the call came to, and
-- the members behind that
abbrev pub came_json : ClientEntry → List ℕ → List ℕ
came_json (client.Sending call left) brought = codes "\"sending\""
came_json (client.Waiting call) brought = codes "\"waiting\""
came_json (client.Gathering call) brought = codes "\"gathering\""
came_json (client.Done request reply) brought = outcome_json reply.body brought
came_json (client.LocateDone request reply) brought =
    codes "\"located\",\"status\":" ++ decimal reply.head.status
came_json (client.Undecoded call e) brought =
    codes "\"undecoded\",\"fault\":" ++ cdr_fault_json e
came_json (client.OnewaySent request) brought = codes "\"oneway\""
came_json (client.Cancelled late) brought = codes "\"cancelled\""

-- what is stored for an id at a client
unfoldable pub client_json : ℕ → ClientEntry → List ℕ → List ℕ
client_json id entry brought =
    codes "{\"id\":" ++ (decimal id ++ (codes ",\"what\":" ++
    (came_json entry brought ++ codes "}")))

-- a call that wasn't made
unfoldable pub unsent_json : ℕ → List ℕ
unsent_json id = codes "{\"id\":" ++ (decimal id ++ codes ",\"what\":\"unsent\"}")

-- what was asked at a server, with the text of the ins of a Request: what it is, and the members
-- behind that
abbrev pub question_json : Question → List ℕ → List ℕ
question_json (question.Request request) ins = codes "\"request\"," ++ asked_json request ins
question_json (question.Undecoded e) ins = codes "\"undecoded\"," ++ request_fault_json e

-- what was asked, and what it came to, as members
unfoldable pub exchange_json : Question → List ℕ → ReplyBody → List ℕ → List ℕ
exchange_json asked ins body brought =
    codes "\"asked\":{\"what\":" ++ (question_json asked ins ++
    (codes "},\"outcome\":{\"what\":" ++ (outcome_json body brought ++ codes "}")))

-- that a call was answered, and the members behind that
abbrev pub answer_json : Question → List ℕ → ReplyBody → List ℕ → List ℕ
answer_json asked ins body brought =
    codes "\"answered\",\"status\":" ++ (decimal (status_of body) ++
    (codes "," ++ exchange_json asked ins body brought))

-- a call that a server answered, with the texts of the ins of its Request and of what its Reply
-- brings
unfoldable pub answered_json : ℕ → Question → List ℕ → ReplyBody → List ℕ → List ℕ
answered_json id asked ins body brought =
    codes "{\"id\":" ++ (decimal id ++ (codes ",\"what\":" ++
    (answer_json asked ins body brought ++ codes "}")))

-- which connection it is, counted from 1
unfoldable pub connection_json : ℕ → List ℕ
connection_json number = codes "{\"connection\":" ++ (decimal number ++ codes "}")
