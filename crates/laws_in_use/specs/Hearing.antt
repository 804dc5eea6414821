-- What the ends hear of `door`, and calls that gather its pieces.
use Rattle.std.specs.Prelude.{true, [], ◌∷◌, Some, None}
use Rattle.giop_cdr.specs.declared.order.Order.TheVariants.{Big}
use Rattle.giop_msg.specs.Cut.{message_of}
use Rattle.giop_msg.specs.declared.kind.Kind.TheVariants.{Fragment}
use Rattle.giop_msg.specs.declared.msg.Msg.{Msg}
use Rattle.giop_msg.specs.declared.version.Version.TheVariants.{V12}
use Rattle.giop_calls.specs.Lane.{Cut, Standing}
use Rattle.giop_calls.specs.declared.client.call.Call.TheVariants as asked
use Rattle.giop_calls.specs.declared.client.entry.ClientEntry.{ClientEntry}
use Rattle.giop_calls.specs.declared.client.entry.ClientEntry.TheVariants as client
use Rattle.giop_calls.specs.declared.kind.CallKind.TheVariants as kind
use Rattle.giop_calls.specs.declared.server.entry.ServerEntry.{ServerEntry}
use Rattle.giop_calls.specs.declared.server.entry.ServerEntry.TheVariants as server
use Rattle.giop_session.specs.Calls.CallTable.{Call}
use Rattle.giop_session.specs.Worlds.LaneAtEnds.{gathers}
use Rattle.laws_in_use.specs.Asking.{here_begins}
use Rattle.laws_in_use.specs.Locating.{door, door_begins}

-- the first piece of `door` has come
abbrev pub door_begun : Cut
door_begun = record { first = door_begins; rest = [] }

-- and so has that of its answer
abbrev pub here_begun : Cut
here_begun = record { first = here_begins; rest = [] }

-- a server gathers the one
abbrev pub gathers_door : Call ServerEntry
gathers_door = gathers (server.Gathering kind.Locate) [] door_begun

-- and a client the other
abbrev pub gathers_here : Call ClientEntry
gathers_here = gathers (client.Gathering (asked.Locate door)) [] here_begun

-- as its lane has it
abbrev pub here_standing : Standing ClientEntry
here_standing = record {
  entry = Some (client.Gathering (asked.Locate door));
  pieces = here_begins ∷ [];
  uses = 1;
}

-- and before that: it waits for the answer
abbrev pub waits : Call ClientEntry
waits = record {
  slot = Some (record { entry = client.Waiting (asked.Locate door); unsent = [] });
  pieces = None;
}

-- as its lane has it
abbrev pub waiting : Standing ClientEntry
waiting = record { entry = Some (client.Waiting (asked.Locate door)); pieces = []; uses = 1 }

-- a Fragment behind which more are to come
abbrev pub door_goes_on : Msg
door_goes_on = message_of V12 Fragment Big true (0 ∷ 0 ∷ 0 ∷ 7 ∷ 100 ∷ 111 ∷ [])
