-- What a new end answers to a close, and what it leaves.
use Rattle.std.proofs.Common.{◌≡◌, List, [], ◌∷◌, Some, refl, subst}
use Rattle.giop_cdr.specs.declared.order.Order.TheVariants.{Big}
use Rattle.giop_types.specs.declared.interfaces.interface.Interface.{Interface}
use Rattle.giop_msg.specs.Msg.{message_octets}
use Rattle.giop_calls.specs.declared.client.entry.ClientEntry.{ClientEntry}
use Rattle.giop_calls.specs.declared.client.rule.ClientRule.{ClientRule}
use Rattle.giop_calls.specs.declared.server.entry.ServerEntry.{ServerEntry}
use Rattle.giop_calls.specs.declared.server.rule.ServerRule.{ServerRule}
use Rattle.giop_session.specs.declared.laws.inputs.Answered.{Answered}
use Rattle.giop_session.specs.declared.laws.inputs.Answered.TheVariants as answer
use Rattle.giop_session.specs.declared.laws.inputs.ClientInput.{ClientInput}
use Rattle.giop_session.specs.declared.laws.inputs.ClientInput.TheVariants as client
use Rattle.giop_session.specs.declared.laws.inputs.ServerInput.{ServerInput}
use Rattle.giop_session.specs.declared.laws.inputs.ServerInput.TheVariants as server
use Rattle.giop_session.specs.declared.Limits.{Limits}
use Rattle.giop_session.specs.declared.SessionFault.TheVariants.{Closed}
use Rattle.giop_session.specs.Calls.CallTable.{Held}
use Rattle.giop_session.specs.Runs.ClientRuns.{client_run}
use Rattle.giop_session.specs.Runs.ServerRuns.{server_run}
use Rattle.giop_session.specs.Runs.SideRuns.{SideRuns}
use Rattle.giop_session.specs.Ends.Begun.{EndState}
use Rattle.giop_session.specs.Acts.Sent.{close_connection}

-- an end has answered so, and is closed
abbrev pub IsClosed : {H E : Type 0} → List (Answered E) → EndState H → Type 0
IsClosed answers t = (answers ≡ answer.Done ∷ []) × (t.fault ≡ Some Closed) × (t.outgoing ≡ message_octets (close_connection Big))

server_closes : (interface : Interface) (limits : Limits) (answers : List (Answered ServerEntry)) (t : EndState (Held ServerRule ServerEntry))
    → SideRuns (server_run interface) limits (server.Close ∷ []) answers t → IsClosed answers t
server_closes interface limits [] t run = absurd run
server_closes interface limits (answer.Done ∷ []) t (mid, (fine, is), same) = (refl, cc, cc)
server_closes interface limits (answer.Taken entry ∷ []) t (mid, (fine, is), same) = absurd is
server_closes interface limits (answer.Refused why ∷ []) t (mid, (fine, is), same) = absurd is
server_closes interface limits (one ∷ other ∷ answers) t run = absurd run.2

client_closes : (interface : Interface) (limits : Limits) (answers : List (Answered ClientEntry)) (t : EndState (Held ClientRule ClientEntry))
    → SideRuns (client_run interface) limits (client.Close ∷ []) answers t → IsClosed answers t
client_closes interface limits [] t run = absurd run
client_closes interface limits (answer.Done ∷ []) t (mid, (fine, is), same) = (refl, cc, cc)
client_closes interface limits (answer.Taken entry ∷ []) t (mid, (fine, is), same) = absurd is
client_closes interface limits (answer.Refused why ∷ []) t (mid, (fine, is), same) = absurd is
client_closes interface limits (one ∷ other ∷ answers) t run = absurd run.2

-- so where what it was given is that
pub server_closes_by : (interface : Interface) (limits : Limits) (inputs : List ServerInput) (answers : List (Answered ServerEntry))
    (t : EndState (Held ServerRule ServerEntry)) → SideRuns (server_run interface) limits inputs answers t → inputs ≡ server.Close ∷ [] → IsClosed answers t
server_closes_by interface limits inputs answers t run is =
    server_closes interface limits answers t (subst (λ (inputs : List ServerInput). SideRuns (server_run interface) limits inputs answers t) is run)

pub client_closes_by : (interface : Interface) (limits : Limits) (inputs : List ClientInput) (answers : List (Answered ClientEntry))
    (t : EndState (Held ClientRule ClientEntry)) → SideRuns (client_run interface) limits inputs answers t → inputs ≡ client.Close ∷ [] → IsClosed answers t
client_closes_by interface limits inputs answers t run is =
    client_closes interface limits answers t (subst (λ (inputs : List ClientInput). SideRuns (client_run interface) limits inputs answers t) is run)
