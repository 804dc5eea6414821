-- A world: a client's end and a server's end, each of which hears what the other puts out, in its
-- order and as much at a time as a schedule says. What is outgoing at an end is on its way to the
-- other.
use Rattle.std.specs.Prelude.{◌≡◌, ℕ, List, [], ◌∷◌, ◌++◌, take, drop, Result, Ok, Err}
use Rattle.giop_types.specs.declared.interfaces.interface.Interface.{Interface}
use Rattle.giop_calls.specs.declared.client.entry.ClientEntry.{ClientEntry}
use Rattle.giop_calls.specs.declared.client.rule.ClientRule.{ClientRule}
use Rattle.giop_calls.specs.declared.server.entry.ServerEntry.{ServerEntry}
use Rattle.giop_calls.specs.declared.server.rule.ServerRule.{ServerRule}
use Rattle.giop_session.specs.declared.laws.inputs.Answered.{Answered}
use Rattle.giop_session.specs.declared.laws.inputs.Answered.TheVariants as answer
use Rattle.giop_session.specs.declared.laws.inputs.ClientInput.{ClientInput}
use Rattle.giop_session.specs.declared.laws.inputs.ClientInput.TheVariants as client
use Rattle.giop_session.specs.declared.laws.inputs.ServerInput.{ServerInput}
use Rattle.giop_session.specs.declared.laws.inputs.ServerInput.TheVariants as server
use Rattle.giop_session.specs.declared.laws.inputs.WorldEvent.{WorldEvent}
use Rattle.giop_session.specs.declared.laws.inputs.WorldEvent.TheVariants as event
use Rattle.giop_session.specs.declared.laws.world.World.{World}
use Rattle.giop_end.specs.declared.limits.Limits.{Limits}
use Rattle.giop_end.specs.declared.session_fault.SessionFault.{SessionFault}
use Rattle.giop_table.specs.CallTable.{Held}
use Rattle.giop_session.specs.Runs.ClientRuns.{client_run}
use Rattle.giop_session.specs.Runs.ServerRuns.{server_run}
use Rattle.giop_session.specs.Runs.SideRuns.{SideIsGiven, SideRuns}
use Rattle.giop_end.specs.Ends.View.{state_of}
use Rattle.giop_session.specs.Runs.Driven.{InTurn}
use Rattle.giop_end.specs.Ends.Begun.{EndState, new_end}
use Rattle.giop_session.specs.Acts.PutOut.{ArePutOut, is_of_client, is_of_server}

-- both ends, as they stand
pub record WorldState : Type 0 where
  pub client : EndState (Held ClientRule ClientEntry)
  pub server : EndState (Held ServerRule ServerEntry)

-- the ends of a world that runs, as such a state
abbrev pub ends_of : World → WorldState
ends_of w = record {
  client = state_of w.client;
  server = state_of w.server;
}

-- its ends go by this interface, and by these limits
pub record GoesBy (interface : Interface) (client_limits server_limits : Limits) (w : World)
    : Type 0 where
  pub client : w.client.interface.now ≡ interface
  pub server : w.server.interface.now ≡ interface
  pub client_within : w.client.limits ≡ client_limits
  pub server_within : w.server.limits ≡ server_limits

-- a world whose ends go by any interface and limits is left so by one that does this there
abbrev pub IsStep : (Interface → (client_limits server_limits : Limits) → (w v : WorldState)
    → Type 0) → (w v : World) → Type 0
IsStep Does w v = (interface : Interface) (client_limits server_limits : Limits)
    → GoesBy interface client_limits server_limits w
    → GoesBy interface client_limits server_limits v
    × Does interface client_limits server_limits (ends_of w) (ends_of v)

-- two new ends, within these limits
abbrev pub new_world : Limits → Limits → WorldState
new_world client_limits server_limits = record {
  client = new_end (record {}) client_limits;
  server = new_end (record {}) server_limits;
}

-- what is returned for an event: that an end did what it was given, or why it refused it
abbrev pub Returned : Type 0
Returned = Result (Unit {0}) SessionFault

abbrev pub returned_for : {E : Type 0} → Answered E → Returned
returned_for answer.Done = Ok tt
returned_for (answer.Taken entry) = Ok tt
returned_for (answer.Refused why) = Err why

-- the octets that a client's end is fed by what it is given
abbrev pub fed_to_client : List ClientInput → List ℕ
fed_to_client [] = []
fed_to_client (client.Feed octets ∷ inputs) = octets ++ fed_to_client inputs
fed_to_client (_ ∷ inputs) = fed_to_client inputs

-- the octets that a server's end is fed by what it is given
abbrev pub fed_to_server : List ServerInput → List ℕ
fed_to_server [] = []
fed_to_server (server.Feed octets ∷ inputs) = octets ++ fed_to_server inputs
fed_to_server (_ ∷ inputs) = fed_to_server inputs

module _ (interface : Interface) (client_limits server_limits : Limits) where
  -- the client's end is given something, and the server's stays as it is
  abbrev pub AtClient : WorldState → ClientInput → Returned → WorldState → Type 0
  AtClient w given returned v = (answered : Answered ClientEntry)
      × SideIsGiven (client_run interface) client_limits w.client given answered v.client
      × (returned ≡ returned_for answered) × (v.server ≡ w.server)

  -- the server's end is given something, and the client's stays as it is
  abbrev pub AtServer : WorldState → ServerInput → Returned → WorldState → Type 0
  AtServer w given returned v = (answered : Answered ServerEntry)
      × SideIsGiven (server_run interface) server_limits w.server given answered v.server
      × (returned ≡ returned_for answered) × (v.client ≡ w.client)

  -- up to so many octets, the first on their way to the server's end, arrive there
  abbrev pub ArriveAtServer : WorldState → ℕ → Returned → WorldState → Type 0
  ArriveAtServer w n returned v = (answered : Answered ServerEntry)
      × SideIsGiven (server_run interface) server_limits w.server
      (server.Feed (take n w.client.outgoing)) answered v.server
      × (returned ≡ returned_for answered)
      × (v.client ≡ record w.client { outgoing = drop n w.client.outgoing })

  -- up to so many octets, the first on their way to the client's end, arrive there
  abbrev pub ArriveAtClient : WorldState → ℕ → Returned → WorldState → Type 0
  ArriveAtClient w n returned v = (answered : Answered ClientEntry)
      × SideIsGiven (client_run interface) client_limits w.client
      (client.Feed (take n w.server.outgoing)) answered v.client
      × (returned ≡ returned_for answered)
      × (v.server ≡ record w.server { outgoing = drop n w.server.outgoing })

  -- what an event does
  abbrev pub Happens : WorldState → WorldEvent → Returned → WorldState → Type 0
  Happens w (event.Call request form) = AtClient w (client.Call request form)
  Happens w (event.Locate request form) = AtClient w (client.Locate request form)
  Happens w (event.Cancel id order) = AtClient w (client.Cancel id order)
  Happens w (event.SendClient id) = AtClient w (client.Send id)
  Happens w (event.Answer reply form) = AtServer w (server.Answer reply form)
  Happens w (event.AnswerLocate id here order) = AtServer w (server.AnswerLocate id here order)
  Happens w (event.SendServer id) = AtServer w (server.Send id)
  Happens w (event.ToServer n) = ArriveAtServer w n
  Happens w (event.ToClient n) = ArriveAtClient w n

  -- a world begins, and these happen in it, one after another
  abbrev pub WorldRuns : List WorldEvent → List Returned → WorldState → Type 0
  WorldRuns schedule returned w =
      InTurn Happens (new_world client_limits server_limits) schedule returned w

  -- each end of a world is what a run by itself makes of some inputs, and what the one put out is
  -- what the other was fed, and behind it what is still on its way: whole messages of its side
  pub record AreJoined (w : WorldState) : Type 0 where
    pub client_inputs : List ClientInput
    pub client_answers : List (Answered ClientEntry)
    pub server_inputs : List ServerInput
    pub server_answers : List (Answered ServerEntry)
    pub client : SideRuns (client_run interface) client_limits client_inputs client_answers
        (record w.client { outgoing = fed_to_server server_inputs ++ w.client.outgoing })
    pub server : SideRuns (server_run interface) server_limits server_inputs server_answers
        (record w.server { outgoing = fed_to_client client_inputs ++ w.server.outgoing })
    pub asked : ArePutOut is_of_client (fed_to_server server_inputs ++ w.client.outgoing)
    pub answered : ArePutOut is_of_server (fed_to_client client_inputs ++ w.server.outgoing)
