-- The lines of calls that are told as soon as they are over, without their newlines.
use Rattle.std.specs.Prelude.{ℕ, ◌++◌, List, []}
use Rattle.giop_msg.specs.declared.messages.reply_body.ReplyBody.{ReplyBody}
use Rattle.giop_json.specs.declared.number_form.NumberForm.{NumberForm}
use Rattle.giop_types.specs.declared.interfaces.interface.Interface.{Interface}
use Rattle.giop_calls.specs.declared.server.entry.ServerEntry.{ServerEntry}
use Rattle.giop_calls.specs.declared.server.entry.ServerEntry.TheVariants as server
use Rattle.giop_calls.specs.declared.server.question.Question.{Question}
use Rattle.giop_calls.specs.declared.server.question.Question.TheVariants as question
use Rattle.giop_call_lines.specs.TableLines.{answered_line}
use Rattle.giop_forms.specs.declared.line_form.LineForm.{LineForm}
use Rattle.giop_show.specs.Bodies.{brought_by, request_ins}
use Rattle.giop_forms.specs.Forms.{numbers_of}
use Rattle.giop_show.specs.Forms.{line_in}
use Rattle.giop_commands.specs.Session.Tables.Shown.{answered_object, question_shown}
use Rattle.giop_commands.specs.Session.Tables.Table.{server_entry_in}

-- the ins of what was asked, and what a Reply to it brings; none, where it couldn't be decoded
abbrev pub question_ins : NumberForm → Interface → Question → List ℕ
question_ins numbers interface (question.Request request) = request_ins numbers interface request
question_ins numbers interface (question.Undecoded fault) = []

abbrev pub question_brought : NumberForm → Interface → Question → ReplyBody → List ℕ
question_brought numbers interface (question.Request request) body = brought_by numbers interface request body
question_brought numbers interface (question.Undecoded fault) body = []

-- a call that a server answered, with its target where objects are told apart, in a form
abbrev pub answered_in : LineForm → Interface → ℕ → Question → ReplyBody → List ℕ
answered_in lines interface id asked body =
    line_in lines
    (answered_line id asked (question_ins (numbers_of lines) interface asked) body
    (question_brought (numbers_of lines) interface asked body)
    ++ question_shown lines interface asked)
    (answered_object id asked (question_ins (numbers_of lines) interface asked) body
    (question_brought (numbers_of lines) interface asked body)
    (question_shown lines interface asked))

-- the line of what is stored for an id at a server of an interface, in a form: of an answered
-- Request what was asked and what was answered, else as in its table
abbrev pub server_told_in : LineForm → Interface → ℕ → ServerEntry → List ℕ
server_told_in lines interface id (server.Answered asked reply left) =
    answered_in lines interface id asked reply.body
server_told_in lines interface id entry = server_entry_in lines interface id entry
