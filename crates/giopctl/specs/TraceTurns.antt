-- The order in which the messages of two directions are read where each is a file of its own: after
-- each message of the client those of the server, up to the first that answers a call whose request
-- didn't come yet; behind the client's last, all that are left.
use Rattle.std.specs.Prelude.{Bool, true, false, ◌&&◌, List, [], ◌∷◌, ◌++◌, if◌then◌else◌}
use Rattle.giop_ids.specs.ById.{ById}
use Rattle.giop_msg.specs.declared.msg.Msg.{Msg}
use Rattle.giop_trace.specs.declared.direction.Direction.TheVariants.{Client, Server}
use Rattle.giop_trace.specs.declared.flow.Flow.{Flow}
use Rattle.giop_trace.specs.declared.heard.Heard.{Heard}
use Rattle.giop_trace.specs.Observing.{heard, is_early, left}

-- what is told, what stands under each id then, and the messages of the server that are left
pub record Told : Type 0 where
  pub told : List Heard
  pub flows : ById Flow
  pub left : List Msg

-- nothing is read
abbrev pub waits_for : ById Flow → List Msg → Told
waits_for flows messages = record { told = []; flows = flows; left = messages }

-- this is told before the rest
abbrev pub first_told : List Heard → Told → Told
first_told told rest = record rest { told = told ++ rest.told }

-- the messages of the server that are read before the client's next, or all of them
abbrev pub server_turn : Bool → ById Flow → List Msg → Told
server_turn may_wait flows [] = waits_for flows []
server_turn may_wait flows (m ∷ rest) = if may_wait && is_early flows m
    then waits_for flows (m ∷ rest)
    else first_told (heard false flows Server m ∷ [])
        (server_turn may_wait (left false flows Server m) rest)

-- a message of the client, and those of the server that are read behind it
abbrev pub client_turn : ById Flow → Msg → List Msg → Told
client_turn flows m server = first_told (heard false flows Client m ∷ [])
    (server_turn true (left false flows Client m) server)

-- both directions: what is told of all, and what stands under each id at the end
abbrev pub in_turn : ById Flow → List Msg → List Msg → Told
in_turn flows [] server = server_turn false flows server
in_turn flows (m ∷ rest) server =
    let turn = client_turn flows m server in
    first_told turn.told (in_turn turn.flows rest turn.left)
