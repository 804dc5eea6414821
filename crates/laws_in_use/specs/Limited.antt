-- What two ends are given within their limits, and one beyond.
use Rattle.std.specs.Prelude.{List, [], ◌∷◌}
use Rattle.giop_calls.specs.declared.client.event.ClientEvent.{ClientEvent}
use Rattle.giop_calls.specs.declared.server.event.ServerEvent.{ServerEvent}
use Rattle.giop_calls.specs.declared.server.entry.ServerEntry.{ServerEntry}
use Rattle.giop_calls.specs.declared.server.rule.ServerRule.{ServerRule}
use Rattle.giop_session.specs.declared.Limits.{Limits}
use Rattle.giop_session.specs.Ends.Begun.{no_calls}
use Rattle.giop_session.specs.Calls.CallTable.{Held}
use Rattle.giop_session.specs.Runs.Events.{Comes, Event, Does as DoesTo}
use Rattle.laws_in_use.specs.Asking.{asking, sending}
use Rattle.laws_in_use.specs.Locating.{cancel_big, door_begins, door_ends, door_whole, here_little, key_little}

-- a new server's end, which holds no calls
abbrev pub new_server : Limits → Held ServerRule ServerEntry
new_server limits = no_calls (record {}) limits

-- a LocateRequest in two messages, and another one between them, which is cancelled
abbrev pub all : List (Event ServerEvent)
all = Comes door_begins ∷ Comes key_little ∷ Comes door_ends ∷ Comes cancel_big ∷ []

-- two LocateRequests, where one call may be open
abbrev pub one_call : Limits
one_call = record { calls = 1; message = 64; gathered = 0 }

abbrev pub two_calls : List (Event ServerEvent)
two_calls = Comes key_little ∷ Comes door_whole ∷ []

-- a client's: it asks in two messages, and is answered
abbrev pub asked : List (Event ClientEvent)
asked = DoesTo 7 asking ∷ DoesTo 7 sending ∷ Comes here_little ∷ []
