-- Which object is asked stands behind a line of a server where one object at least offers something
-- of its own (CORBA 3.3 Part 2, 9.4.2.1), as far as the target is known.
use Rattle.std.specs.Prelude.{ℕ, ◌++◌, nat_lt, Bool, List, [], Option, Some, None, codes, if◌then◌else◌}
use Rattle.std.specs.BTreeMap.{btree_map_len}
use Rattle.std.specs.Fmt.{decimal}
use Rattle.giop_types.specs.declared.interfaces.interface.Interface.{Interface}
use Rattle.giop_msg.specs.declared.messages.reply_body.ReplyBody.{ReplyBody}
use Rattle.giop_msg.specs.Target.{AnyTarget}
use Rattle.giop_calls.specs.declared.server.entry.ServerEntry.{ServerEntry}
use Rattle.giop_calls.specs.declared.server.entry.ServerEntry.TheVariants as server
use Rattle.giop_calls.specs.declared.server.question.Question.{Question}
use Rattle.giop_calls.specs.declared.server.question.Question.TheVariants as question
use Rattle.giop_lines.specs.JsonLines.{target_json}
use Rattle.giop_lines.specs.Lines.{target_text}
use Rattle.giop_call_lines.specs.SessionJson.{answer_json}
use Rattle.giop_call_lines.specs.TableJson.{entry_json}
use Rattle.giop_forms.specs.declared.line_form.LineForm.{LineForm}
use Rattle.giop_show.specs.Forms.{line_in}

-- whether an object offers something of its own, so that objects are told apart
abbrev pub are_told_apart : Interface → Bool
are_told_apart interface = nat_lt 0 (btree_map_len interface.objects)

-- a target behind a line of text, or behind the members of an object of JSON
abbrev pub target_shown : LineForm → Interface → AnyTarget → List ℕ
target_shown lines interface target =
    if are_told_apart interface
    then line_in lines (codes " " ++ target_text target) (codes "," ++ target_json target)
    else []

-- the target of a LocateRequest that is answered, where it could be decoded
abbrev pub located_shown : LineForm → Interface → Option AnyTarget → List ℕ
located_shown lines interface (Some target) = target_shown lines interface target
located_shown lines interface None = []

-- the target of what was asked
abbrev pub question_shown : LineForm → Interface → Question → List ℕ
question_shown lines interface (question.Request request) =
    target_shown lines interface request.head.target
question_shown lines interface (question.Undecoded fault) = []

-- the target of what is stored for an id
abbrev pub entry_shown : LineForm → Interface → ServerEntry → List ℕ
entry_shown lines interface (server.Asked request) =
    target_shown lines interface request.head.target
entry_shown lines interface (server.Delivered request) =
    target_shown lines interface request.head.target
entry_shown lines interface (server.LocateAsked request) =
    target_shown lines interface request.target
entry_shown lines interface (server.Answered asked reply left) =
    question_shown lines interface asked
entry_shown lines interface (server.LocateAnswered target here) =
    located_shown lines interface target
entry_shown lines interface _ = []

-- what is stored for an id as an object of JSON, with these members behind it
unfoldable pub entry_object : ℕ → ServerEntry → List ℕ → List ℕ → List ℕ
entry_object id entry ins shown =
    codes "{\"id\":" ++ (decimal id ++ (codes ",\"what\":" ++
    (entry_json entry ins ++ (shown ++ codes "}"))))

-- the same of a call that was answered
unfoldable pub answered_object : ℕ → Question → List ℕ → ReplyBody → List ℕ → List ℕ → List ℕ
answered_object id asked ins body brought shown =
    codes "{\"id\":" ++ (decimal id ++ (codes ",\"what\":" ++
    (answer_json asked ins body brought ++ (shown ++ codes "}"))))
