-- In which order `trace` tells the messages of both directions of a connection.
use Rattle.std.specs.Prelude.{◌≡◌, ◌≢◌, true, false, List, [], ◌∷◌, ◌++◌}
use Rattle.std.specs.List.{flat_map}
use Rattle.giop_ids.specs.ById.{ById}
use Rattle.giop_msg.specs.declared.msg.Msg.{Msg}
use Rattle.giop_trace.specs.declared.direction.Direction.{Direction}
use Rattle.giop_trace.specs.declared.direction.Direction.TheVariants.{Client, Server}
use Rattle.giop_trace.specs.declared.flow.Flow.{Flow}
use Rattle.giop_trace.specs.Observing.{Brought, is_early, left_of_all, told_of_all}
use Rattle.giop_types.specs.declared.interfaces.interface.Interface.{Interface}
use Rattle.giop_forms.specs.declared.line_form.LineForm.{LineForm}
use Rattle.giop_tracing.specs.Trace.Text.{Turn, heard_lines}

-- a message of either direction
abbrev pub of_client : Msg → Brought
of_client m = record { direction = Client; message = m }

abbrev pub of_server : Msg → Brought
of_server m = record { direction = Server; message = m }

-- a message, where the direction is the client's, and where it is the server's
abbrev pub if_client : Direction → Msg → List Msg
if_client Client m = m ∷ []
if_client Server m = []

abbrev pub if_server : Direction → Msg → List Msg
if_server Client m = []
if_server Server m = m ∷ []

-- the messages of a direction among those of both
abbrev pub clients : List Brought → List Msg
clients all = flat_map (λ one. if_client one.direction one.message) all

abbrev pub servers : List Brought → List Msg
servers all = flat_map (λ one. if_server one.direction one.message) all

-- the client begins; and as long as it goes on, no message of the server is told that answers a
-- call whose request isn't whole yet
abbrev pub NoneIsEarly : ById Flow → List Brought → Type 0
NoneIsEarly flows all = (before after : List Brought) (m : Msg)
    → all ≡ before ++ of_server m ∷ after → clients after ≢ []
    → (before ≢ []) × (is_early (left_of_all false flows before) m ≡ false)

-- and none waits otherwise: behind the first message, where one of the client is told the next of
-- the server answers such a call
abbrev pub NoneWaits : ById Flow → List Brought → Type 0
NoneWaits flows all = (before after : List Brought) (m next : Msg) (later : List Msg)
    → all ≡ before ++ of_client m ∷ after → before ≢ [] → servers after ≡ next ∷ later
    → is_early (left_of_all false flows before) next ≡ true

-- an order of the messages of both directions: each of them once, those of one direction as they
-- came; none early, and none held back
pub record IsOrder (flows : ById Flow) (client server : List Msg) (all : List Brought)
    : Type 0 where
  pub asked : clients all ≡ client
  pub answered : servers all ≡ server
  pub none_is_early : NoneIsEarly flows all
  pub none_waits : NoneWaits flows all

-- what is told of messages in an order, and the calls that are open then; no message is left
abbrev pub all_told : LineForm → Interface → ById Flow → List Brought → Turn
all_told form interface flows all = record {
  lines = flat_map (heard_lines form interface false) (told_of_all false flows all);
  flows = left_of_all false flows all;
  later = [];
}
