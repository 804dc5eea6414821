-- A client calls under one id in three messages, and cancels while the Reply is on its way; then it
-- calls again.
use Rattle.std.specs.Prelude.{true, false, List, [], ◌∷◌, ◌++◌, Some}
use Rattle.giop_cdr.specs.declared.order.Order.TheVariants.{Big, Little}
use Rattle.giop_msg.specs.declared.kind.Kind.TheVariants as message
use Rattle.giop_msg.specs.declared.msg.Msg.{Msg}
use Rattle.giop_msg.specs.declared.version.Version.TheVariants.{V12}
use Rattle.giop_msg.specs.Cut.{message_of}
use Rattle.giop_calls.specs.declared.client.call.Call.TheVariants as asked
use Rattle.giop_calls.specs.declared.client.entry.ClientEntry.TheVariants as client
use Rattle.giop_calls.specs.declared.client.heard.HeardReply.TheVariants as reply
use Rattle.giop_calls.specs.declared.client.late.Late.TheVariants as late
use Rattle.giop_calls.specs.declared.server.entry.ServerEntry.TheVariants as server
use Rattle.giop_calls.specs.declared.server.heard.HeardCall.TheVariants as call
use Rattle.giop_calls.specs.declared.server.question.Question.TheVariants as question
use Rattle.giop_calls.specs.Lane.{Act, Answers, Calls, Cancels, Codec, Cut, Lane, Sends, SendsReply, ToClient, ToServer}
use Rattle.laws_in_use.specs.Exchange.{ping, pong}

-- both ends know one call and one reply alone, and read these in whatever pieces come
abbrev pub codec : Codec
codec = record {
  read_call = λ pieces. call.Request (ping V12);
  read_reply = λ asked pieces. reply.Reply (pong V12);
}

-- the pieces: those of the Request big-endian, those of the Reply little-endian
abbrev pub begins : Msg
begins = message_of V12 message.Request Big true (0 ∷ 0 ∷ 0 ∷ 7 ∷ 1 ∷ [])

abbrev pub continues : Msg
continues = message_of V12 message.Fragment Big true (0 ∷ 0 ∷ 0 ∷ 7 ∷ 2 ∷ [])

abbrev pub ends : Msg
ends = message_of V12 message.Fragment Big false (0 ∷ 0 ∷ 0 ∷ 7 ∷ 3 ∷ [])

abbrev pub in_three : Cut
in_three = record { first = begins; rest = continues ∷ ends ∷ [] }

abbrev pub reply_begins : Msg
reply_begins = message_of V12 message.Reply Little true (7 ∷ 0 ∷ 0 ∷ 0 ∷ 1 ∷ [])

abbrev pub reply_ends : Msg
reply_ends = message_of V12 message.Fragment Little false (7 ∷ 0 ∷ 0 ∷ 0 ∷ 2 ∷ [])

abbrev pub in_two : Cut
in_two = record { first = reply_begins; rest = reply_ends ∷ [] }

-- and in one message each
abbrev pub whole : Cut
whole = record {
  first = message_of V12 message.Request Big false (0 ∷ 0 ∷ 0 ∷ 7 ∷ []);
  rest = [];
}

abbrev pub reply_whole : Cut
reply_whole = record {
  first = message_of V12 message.Reply Little false (7 ∷ 0 ∷ 0 ∷ 0 ∷ []);
  rest = [];
}

-- the call comes to the server, which answers; the client cancels before the Reply is there
abbrev pub crossing : List Act
crossing =
    Calls (asked.Request (ping V12)) in_three ∷ Sends ∷ ToServer ∷ Sends ∷ ToServer ∷ ToServer
    ∷ Answers (pong V12) in_two ∷ Cancels ∷ SendsReply ∷ ToClient ∷ ToServer ∷ ToClient ∷ []

-- both ends then
abbrev pub crossed : Lane
crossed = record {
  client = record { entry = Some (client.Cancelled late.Seen); pieces = []; uses = 1 };
  unsent = [];
  to_server = [];
  server = record { entry = Some (server.Cancelled true 0); pieces = []; uses = 1 };
  unanswered = [];
  to_client = [];
}

-- it calls again under the same id, and is answered
abbrev pub again : List Act
again =
    crossing ++ Calls (asked.Request (ping V12)) whole ∷ ToServer ∷ Answers (pong V12) reply_whole
    ∷ ToClient ∷ []

abbrev pub answered : Lane
answered = record {
  client = record { entry = Some (client.Done (ping V12) (pong V12)); pieces = []; uses = 2 };
  unsent = [];
  to_server = [];
  server = record {
    entry = Some (server.Answered (question.Request (ping V12)) (pong V12) 0);
    pieces = [];
    uses = 2;
  };
  unanswered = [];
  to_client = [];
}
