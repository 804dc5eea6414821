-- Both directions of a connection: a LocateRequest in two messages under 7 that is answered in two,
-- and between them what is asked, cancelled and answered under 9.
use Rattle.std.specs.Prelude.{false, List, [], ◌∷◌, ◌++◌, drop, Some}
use Rattle.giop_msg.specs.declared.msg.Msg.{Msg}
use Rattle.giop_trace.specs.Observing.{Brought}
use Rattle.giop_trace.specs.declared.flow.Flow.{Flow}
use Rattle.giop_tracing.specs.Trace.Order.{of_client, of_server}
use Rattle.laws_in_use.specs.Asking.{here_begins, here_ends, unknown_little}
use Rattle.laws_in_use.specs.Locating.{cancel_little, door_begins, door_ends, key_big}

-- as an observer takes them in turn: all but the last message, and then it
abbrev pub before_the_last : List Brought
before_the_last =
    of_client door_begins ∷ of_client key_big ∷ of_client door_ends ∷ of_client cancel_little
    ∷ of_server here_begins ∷ of_server unknown_little ∷ []

abbrev pub whole : List Brought
whole =
    of_client door_begins ∷ of_client key_big ∷ of_client door_ends ∷ of_client cancel_little
    ∷ of_server here_begins ∷ of_server unknown_little ∷ of_server here_ends ∷ []

-- what an observer has of 7 before the last: what was asked, its pieces joined, and a part of the
-- answer
abbrev pub in_part : Flow
in_part = record {
  asked = Some (record door_begins {
    payload = door_begins.payload ++ drop 4 door_ends.payload;
    more = false;
  });
  answer = Some here_begins;
  cancelled = false;
}

-- a file of each direction: `k` is asked for between the pieces of 7, and its answer comes first
abbrev pub asked : List Msg
asked = door_begins ∷ key_big ∷ door_ends ∷ []

abbrev pub answered : List Msg
answered = unknown_little ∷ here_begins ∷ here_ends ∷ []

-- how they are told: the answer to 9 behind what was asked, and the one to 7 behind its last piece
abbrev pub in_turn : List Brought
in_turn =
    of_client door_begins ∷ of_client key_big ∷ of_server unknown_little ∷ of_client door_ends
    ∷ of_server here_begins ∷ of_server here_ends ∷ []
