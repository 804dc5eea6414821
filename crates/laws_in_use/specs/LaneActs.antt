-- Lanes on which a message of `door` is next to arrive: the first piece of what is asked, and the
-- answer.
use Rattle.std.specs.Prelude.{true, false, List, [], ◌∷◌, Some, None}
use Rattle.giop_msg.specs.declared.version.Version.TheVariants.{V12}
use Rattle.giop_calls.specs.Lane.{Act, Calls, Continues, Lane, Locates, Opens, Sends, ToServer}
use Rattle.giop_calls.specs.declared.client.call.Call.TheVariants as asked
use Rattle.giop_calls.specs.declared.client.entry.ClientEntry.{ClientEntry}
use Rattle.giop_calls.specs.declared.client.entry.ClientEntry.TheVariants as client
use Rattle.giop_calls.specs.declared.client.rule.ClientRule.{ClientRule}
use Rattle.giop_calls.specs.declared.kind.CallKind.TheVariants as kind
use Rattle.giop_calls.specs.declared.server.entry.ServerEntry.TheVariants as server
use Rattle.giop_session.specs.Calls.CallTable.{Held, put_call}
use Rattle.laws_in_use.specs.Hearing.{waits}
use Rattle.laws_in_use.specs.Left.{new_client}
use Rattle.laws_in_use.specs.Locating.{door, door_begins, door_ends, here_big, limits}
use Rattle.laws_in_use.specs.Sent.{door_cut}

-- a client asks where `door` is, in two pieces
abbrev pub asked_acts : List Act
asked_acts = Calls (asked.Locate door) door_cut ∷ []

-- of which the first is on its way then
abbrev pub asked_lane : Lane
asked_lane = record {
  client = record {
    entry = Some (client.Sending (asked.Locate door) 1);
    pieces = [];
    uses = 1;
  };
  unsent = Continues true door_ends ∷ [];
  to_server = Opens kind.Locate V12 false door_begins ∷ [];
  server = record { entry = None; pieces = []; uses = 0 };
  unanswered = [];
  to_client = [];
}

-- both pieces arrive, and the server answers that it is here
abbrev pub answered_acts : List Act
answered_acts =
    Calls (asked.Locate door) door_cut ∷ Sends ∷ ToServer ∷ ToServer ∷ Locates true here_big ∷ []

-- and that is on its way then
abbrev pub answered_lane : Lane
answered_lane = record {
  client = record { entry = Some (client.Waiting (asked.Locate door)); pieces = []; uses = 1 };
  unsent = [];
  to_server = [];
  server = record {
    entry = Some (server.LocateAnswered (Some door.target) true);
    pieces = [];
    uses = 1;
  };
  unanswered = [];
  to_client = Opens kind.Locate V12 true here_big ∷ [];
}

-- a client's end that waits for it, and has no other call
abbrev pub awaiting : Held ClientRule ClientEntry
awaiting = put_call (new_client limits) 7 waits
