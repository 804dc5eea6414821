-- What befalls calls of one id at a client.
use Rattle.std.specs.Prelude.{true, false, List, [], ◌∷◌, ◌++◌}
use Rattle.giop_msg.specs.declared.version.Version.TheVariants.{V12}
use Rattle.giop_mux.specs.Runs.{Hears, IsTaken}
use Rattle.giop_calls.specs.declared.client.call.Call.TheVariants as asked
use Rattle.giop_calls.specs.declared.client.event.ClientEvent.TheVariants as event
use Rattle.giop_calls.specs.declared.client.heard.HeardReply.TheVariants as heard
use Rattle.giop_calls.specs.declared.kind.CallKind.TheVariants as kind
use Rattle.giop_calls.specs.ClientItems.{Act, Items}
use Rattle.giop_calls.specs.Items.{Does, Got}
use Rattle.laws_in_use.specs.Exchange.{ping, pong}

-- it calls in two messages, and sends the second
abbrev pub calling : List Act
calling = Hears (event.Call (asked.Request (ping V12)) 2) ∷ Hears event.Send ∷ []

-- the Reply comes in one message
abbrev pub in_one : List Act
in_one = calling ++ Hears (event.Whole kind.Request V12 (heard.Reply (pong V12))) ∷ []

-- or in three
abbrev pub replied : List Act
replied = Hears (event.First kind.Request V12) ∷ Hears (event.More true)
    ∷ Hears (event.Last true (heard.Reply (pong V12))) ∷ []

abbrev pub in_three : List Act
in_three = calling ++ replied

-- what both say
abbrev pub called_and_replied : List Items
called_and_replied = Does (Hears (event.Call (asked.Request (ping V12)) 2))
    ∷ Does (Hears event.Send) ∷ Got (record {
      begun = record { kind = kind.Request; version = V12 };
      reply = heard.Reply (pong V12);
    })
    ∷ []

-- a call is cancelled before all of it is sent; its Reply comes late, in two messages of which the
-- second is in another byte order; the entry is taken out, and the id is used again
abbrev pub cancelled_and_again : List Act
cancelled_and_again = Hears (event.Call (asked.Request (ping V12)) 2) ∷ Hears event.Cancel
    ∷ Hears (event.First kind.Request V12) ∷ Hears (event.Last false heard.Unread) ∷ IsTaken
    ∷ in_three

-- and up to the end of that late Reply
abbrev pub cancelled : List Act
cancelled = Hears (event.Call (asked.Request (ping V12)) 2) ∷ Hears event.Cancel
    ∷ Hears (event.First kind.Request V12) ∷ Hears (event.Last false heard.Unread) ∷ []
