-- A server's end that has answered `ping` in two pieces, before and after the second is put out.
use Rattle.std.specs.Prelude.{List, [], ◌∷◌, codes, Some, None}
use Rattle.giop_msg.specs.Msg.{message_octets}
use Rattle.giop_msg.specs.declared.version.Version.TheVariants.{V12}
use Rattle.giop_calls.specs.declared.server.entry.ServerEntry.{ServerEntry}
use Rattle.giop_calls.specs.declared.server.entry.ServerEntry.TheVariants.{Answered}
use Rattle.giop_calls.specs.declared.server.question.Question.TheVariants.{Request}
use Rattle.giop_end.specs.Ends.Begun.{no_calls}
use Rattle.giop_table.specs.CallTable.{Call, put_call}
use Rattle.giop_commands.specs.Session.Acts.{Outbox, outbox}
use Rattle.giop_serving.specs.declared.serve.in_turn.AnswerName.{AnswerName}
use Rattle.giop_serving.specs.Serve.Serving.{ServerCalls}
use Rattle.laws_in_use.specs.Exchange.{ping}
use Rattle.laws_in_use.specs.Framed.{refusing}
use Rattle.laws_in_use.specs.Pinged.{refusal_ends, room}

-- the second piece of the answer is left, or nothing is
abbrev pub one_left : Call ServerEntry
one_left = record {
  slot = Some (record {
    entry = Answered (Request (ping V12)) refusing 1;
    unsent = refusal_ends ∷ [];
  });
  pieces = None;
}

abbrev pub none_left : Call ServerEntry
none_left = record {
  slot = Some (record { entry = Answered (Request (ping V12)) refusing 0; unsent = [] });
  pieces = None;
}

-- at an end of which nothing is outgoing yet
abbrev pub answering : Outbox ServerCalls
answering = outbox (put_call (no_calls (record {}) room) 7 one_left) []

-- and once the piece is outgoing
abbrev pub has_answered : Outbox ServerCalls
has_answered = outbox (put_call answering.calls 7 none_left) (message_octets refusal_ends)

-- an answer of a list that is passed
abbrev pub ping_passed : List AnswerName
ping_passed = record { key = codes "k"; operation = codes "ping" } ∷ []
