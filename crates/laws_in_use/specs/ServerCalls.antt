-- What befalls calls of one id at a server.
use Rattle.std.specs.Prelude.{true, List, [], ◌∷◌, ◌++◌}
use Rattle.giop_msg.specs.declared.version.Version.TheVariants.{V12}
use Rattle.giop_mux.specs.Runs.{Hears, IsTaken}
use Rattle.giop_calls.specs.declared.kind.CallKind.TheVariants as kind
use Rattle.giop_calls.specs.declared.server.event.ServerEvent.TheVariants as event
use Rattle.giop_calls.specs.declared.server.heard.HeardCall.TheVariants as heard
use Rattle.giop_calls.specs.Items.{Does, Got}
use Rattle.giop_calls.specs.ServerItems.{Act, Items}
use Rattle.laws_in_use.specs.Exchange.{ping, pong}

-- it answers in two messages, and sends the second
abbrev pub answering : List Act
answering = Hears (event.Answer (pong V12) 2) ∷ Hears event.Send ∷ []

-- a Request comes in one message, and is answered
abbrev pub in_one : List Act
in_one = Hears (event.Whole (heard.Request (ping V12))) ∷ answering

-- it comes in three
abbrev pub arriving : List Act
arriving = Hears (event.First kind.Request) ∷ Hears (event.More true)
    ∷ Hears (event.Last true (heard.Request (ping V12))) ∷ []

abbrev pub in_three : List Act
in_three = arriving ++ answering

-- what both say
abbrev pub asked_and_answered : List Items
asked_and_answered = Got (heard.Request (ping V12)) ∷ Does (Hears (event.Answer (pong V12) 2))
    ∷ Does (Hears event.Send) ∷ []

-- a Request begins and is cancelled; a Fragment of it comes late, and then the last one; the entry
-- is taken out, and the id is used again
abbrev pub cancelled_and_again : List Act
cancelled_and_again = Hears (event.First kind.Request) ∷ Hears event.Cancel
    ∷ Hears (event.More true) ∷ Hears (event.Last true (heard.Request (ping V12))) ∷ IsTaken
    ∷ in_three
