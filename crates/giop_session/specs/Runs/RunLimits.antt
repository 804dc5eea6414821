-- What a run gives an end, within the limits of that end, in whatever order it comes.
use Rattle.std.specs.Prelude.{◌≢◌, ◌≤◌, ℕ, ◌==◌, ◌&&◌, Bool, false, List, [], sum_by}
use Rattle.std.specs.List.{AllByRecursion, flat_map}
use Rattle.giop_msg.specs.declared.msg.Msg.{Msg}
use Rattle.giop_msg.specs.Stream.{Msgs}
use Rattle.giop_session.specs.declared.laws.inputs.Answered.{Answered}
use Rattle.giop_session.specs.declared.laws.inputs.Answered.TheVariants.{Refused}
use Rattle.giop_session.specs.declared.laws.inputs.ClientInput.{ClientInput}
use Rattle.giop_session.specs.declared.laws.inputs.ClientInput.TheVariants as client
use Rattle.giop_session.specs.declared.laws.inputs.ServerInput.{ServerInput}
use Rattle.giop_session.specs.declared.laws.inputs.ServerInput.TheVariants as server
use Rattle.giop_end.specs.declared.limits.Limits.{Limits}
use Rattle.giop_end.specs.declared.session_fault.SessionFault.TheVariants.{TooManyCalls, GatherFull}
use Rattle.giop_session.specs.Runs.Alone.{names}
use Rattle.giop_session.specs.Runs.Limits.{OpenAtMost, is_asking, octets_with}

-- the octets that an input feeds
abbrev pub fed_to_server : ServerInput → List ℕ
fed_to_server (server.Feed octets) = octets
fed_to_server given = []

abbrev pub fed_to_client : ClientInput → List ℕ
fed_to_client (client.Feed octets) = octets
fed_to_client given = []

-- whether a message asks a server for a call under an id
abbrev pub asks_under : Msg → ℕ → Bool
asks_under m id = is_asking m.kind && names m id

-- whether a client calls or locates under an id by an input
abbrev pub calls_under : ClientInput → ℕ → Bool
calls_under (client.Call request form) id = id == request.head.id
calls_under (client.Locate request form) id = id == request.id
calls_under given id = false

-- what a server's end is given is within its limits: the ids of the Requests and LocateRequests in
-- the octets that are fed, and the octets that all messages there bring to be gathered
pub record ServerIsGivenWithin (limits : Limits) (inputs : List ServerInput) : Type 0 where
  pub messages : List Msg
  pub rest : List ℕ
  pub stand : Msgs limits.message (flat_map fed_to_server inputs) messages rest
  pub calls : OpenAtMost limits.calls asks_under messages
  pub octets : sum_by octets_with messages ≤ limits.gathered

-- and a client's: the ids that it calls and locates under, and the octets that the messages bring
pub record ClientIsGivenWithin (limits : Limits) (inputs : List ClientInput) : Type 0 where
  pub messages : List Msg
  pub rest : List ℕ
  pub stand : Msgs limits.message (flat_map fed_to_client inputs) messages rest
  pub calls : OpenAtMost limits.calls calls_under inputs
  pub octets : sum_by octets_with messages ≤ limits.gathered

-- an answer refuses for no limit, and none of them does
abbrev pub IsForNoLimit : {E : Type 0} → Answered E → Type 0
IsForNoLimit answered = (answered ≢ Refused TooManyCalls) × (answered ≢ Refused GatherFull)

abbrev pub NoneForALimit : {E : Type 0} → List (Answered E) → Type 0
NoneForALimit answers = AllByRecursion IsForNoLimit answers
