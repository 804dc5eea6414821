-- Which answers can go out as answers are sent: those of which the Reply of some version is one
-- that an end sends, in this form and within these limits (CORBA 3.3 Part 2, 9.4.3 and 9.4.9).
use Rattle.std.specs.Prelude.{ℕ, ◌||◌, Bool, List, [], Some}
use Rattle.giop_types.specs.declared.interfaces.interface.Interface.{Interface}
use Rattle.giop_msg.specs.declared.messages.reply.Reply.{Reply}
use Rattle.giop_msg.specs.declared.messages.request.Request.{Request}
use Rattle.giop_msg.specs.declared.target.Target.TheVariants.{Profile}
use Rattle.giop_msg.specs.declared.version.Version.{Version}
use Rattle.giop_msg.specs.declared.version.Version.TheVariants.{V10, V11, V12}
use Rattle.giop_end.specs.Acts.ServerAnswers.{is_reply_sendable}
use Rattle.giop_serving.specs.declared.serve.answers.AnswerGiven.{AnswerGiven}
use Rattle.giop_serving.specs.declared.serve.given.Sending.{Sending}
use Rattle.giop_serving.specs.Serve.Answering.{given_body}

-- a Request of a general operation, which wants its outs: its target names the key of no object
-- that offers something of its own
abbrev pub asking : Version → List ℕ → Request
asking version name = record {
  head = record {
    version = version;
    id = 0;
    flags = 3;
    target = Profile (record { tag = 0; octets = [] });
    operation = name;
    contexts = [];
  };
  body = [];
}

-- a Reply as it is in another version
abbrev pub in_version : Reply → Version → Reply
in_version reply version = record reply { version = version }

-- the Reply of an answer
abbrev pub reply_with : AnswerGiven → Version → Reply
reply_with given version = record {
  version = version;
  id = 0;
  contexts = [];
  body = given_body [] (Some given);
}

-- whether a Reply to such a Request goes out as answers are sent
abbrev pub goes_out : Interface → Sending → List ℕ → Reply → Bool
goes_out interface sending name reply = is_reply_sendable interface sending.limits
    (Some (asking reply.version name)) reply sending.form

-- whether the Reply of some version does, by what it is in each
abbrev pub goes_out_in_some : Interface → Sending → List ℕ → (Version → Reply) → Bool
goes_out_in_some interface sending name reply = goes_out interface sending name (reply V12)
    || (goes_out interface sending name (reply V11)
    || goes_out interface sending name (reply V10))

-- whether that of an answer does in some version
abbrev pub is_let_out : Interface → Sending → List ℕ → AnswerGiven → Bool
is_let_out interface sending name given =
    goes_out_in_some interface sending name (reply_with given)
