-- A client asks where `door` is in two pieces, and cancels while the answer is on its way; then it
-- asks again under the same id. All of it is what the session's own ends plan and read.
use Rattle.std.specs.Prelude.{true, false, List, [], ◌∷◌, ◌++◌, codes, Some}
use Rattle.giop_cdr.specs.declared.order.Order.TheVariants.{Big}
use Rattle.giop_msg.specs.Cut.{message_of}
use Rattle.giop_msg.specs.declared.kind.Kind.TheVariants.{LocateRequest}
use Rattle.giop_msg.specs.declared.msg.Msg.{Msg}
use Rattle.giop_msg.specs.declared.version.Version.TheVariants.{V12}
use Rattle.giop_calls.specs.Lane.{Act, Calls, Cancels, Lane, Locates, Sends, ToClient, ToServer}
use Rattle.giop_calls.specs.declared.client.call.Call.TheVariants as asked
use Rattle.giop_calls.specs.declared.client.entry.ClientEntry.TheVariants as client
use Rattle.giop_calls.specs.declared.client.late.Late.TheVariants as late
use Rattle.giop_calls.specs.declared.server.entry.ServerEntry.TheVariants as server
use Rattle.giop_session.specs.Worlds.OwnLane.{alone}
use Rattle.laws_in_use.specs.Asking.{here}
use Rattle.laws_in_use.specs.Locating.{door, here_big}
use Rattle.laws_in_use.specs.Sent.{door_cut}

-- `door` in one message
abbrev pub door_big : Msg
door_big = message_of V12 LocateRequest Big false
    (0 ∷ 0 ∷ 0 ∷ 7 ∷ 0 ∷ 0 ∷ 0 ∷ 0 ∷ 0 ∷ 0 ∷ 0 ∷ 4 ∷ codes "door")

-- it is asked for, and the cancel crosses the answer
abbrev pub crossing : List Act
crossing =
    Calls (asked.Locate door) door_cut ∷ Sends ∷ ToServer ∷ ToServer ∷ Locates true here_big
    ∷ Cancels ∷ ToClient ∷ ToServer ∷ []

-- both ends then
abbrev pub crossed : Lane
crossed = record {
  client = record { entry = Some (client.Cancelled late.Seen); pieces = []; uses = 1 };
  unsent = [];
  to_server = [];
  server = record { entry = Some (server.Cancelled true 0); pieces = []; uses = 1 };
  unanswered = [];
  to_client = [];
}

-- it is asked for again, and answered
abbrev pub again : List Act
again =
    crossing ++ Calls (asked.Locate door) (alone door_big) ∷ ToServer ∷ Locates true here_big
    ∷ ToClient ∷ []

-- and both ends then
abbrev pub answered : Lane
answered = record {
  client = record { entry = Some (client.LocateDone door here); pieces = []; uses = 2 };
  unsent = [];
  to_server = [];
  server = record {
    entry = Some (server.LocateAnswered (Some door.target) true);
    pieces = [];
    uses = 2;
  };
  unanswered = [];
  to_client = [];
}
