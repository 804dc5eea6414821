-- The lines of calls that are told as soon as they are over, without their newlines.
use Rattle.std.specs.Prelude.{ℕ, List, [], ◌++◌, codes}
use Rattle.std.specs.Fmt.{decimal}
use Rattle.giop_msg.specs.declared.messages.reply_body.ReplyBody.{ReplyBody}
use Rattle.giop_msg.specs.declared.messages.request.Request.{Request}
use Rattle.giop_types.specs.declared.json.interface.Interface.{Interface}
use Rattle.giop_calls.specs.declared.server.entry.ServerEntry.{ServerEntry}
use Rattle.giop_calls.specs.declared.server.entry.ServerEntry.TheVariants as server
use Rattle.giop_calls.specs.declared.server.question.Question.{Question}
use Rattle.giop_calls.specs.declared.server.question.Question.TheVariants as question
use Rattle.giop_commands.specs.Bodies.{brought_by, request_ins}
use Rattle.giop_commands.specs.Table.{server_entry_line}
use Rattle.giop_lines.specs.TableLines.{asked_text, reply_text, request_fault_text}

-- a call that a server answered: ID Asked OPERATION INS Answered REPLY, or ID Undecoded FAULT
-- Answered REPLY
abbrev pub answered_line : Interface → ℕ → Question → ReplyBody → List ℕ
answered_line interface id (question.Request request) body =
    decimal id ++ (codes " Asked " ++ (asked_text request (request_ins interface request) ++
    (codes " Answered " ++ reply_text body (brought_by interface request body))))
answered_line interface id (question.Undecoded fault) body =
    decimal id ++ (codes " Undecoded " ++ (request_fault_text fault ++
    (codes " Answered " ++ reply_text body [])))

-- the line of what is stored for an id at a server of an interface: of an answered Request what was
-- asked and what was answered, else as in its table
abbrev pub server_told_line : Interface → ℕ → ServerEntry → List ℕ
server_told_line interface id (server.Answered asked reply left) =
    answered_line interface id asked reply.body
server_told_line interface id entry = server_entry_line interface id entry
