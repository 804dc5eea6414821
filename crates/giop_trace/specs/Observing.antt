-- What an observer of a connection keeps and tells, message by message.
use Rattle.std.specs.Prelude.{ℕ, ◌==◌, ◌&&◌, Bool, false, not, if◌then◌else◌, List, [], ◌∷◌, Option, Some, None, Result, Ok, Err}
use Rattle.std.specs.FinMap as finite
use Rattle.giop_cdr.specs.declared.fault.CdrFault.{CdrFault}
use Rattle.giop_ids.specs.ById.{ById, put}
use Rattle.giop_msg.specs.declared.msg.Msg.{Msg}
use Rattle.giop_msg.specs.RequestId.{request_id_of}
use Rattle.giop_trace.specs.declared.direction.Direction.{Direction}
use Rattle.giop_trace.specs.declared.flow.Flow.{Flow}
use Rattle.giop_trace.specs.declared.heard.Heard.{Heard}
use Rattle.giop_trace.specs.Effects.{Effect, effect, lone}
use Rattle.giop_trace.specs.Flows.{is_answer, is_waiting}

-- a message that a direction brought
pub record Brought : Type 0 where
  pub direction : Direction
  pub message : Msg

-- what a message does to the call of an id among these
abbrev pub effect_at : Bool → ById Flow → Direction → Msg → ℕ → Effect
effect_at alone flows direction m id = effect alone direction (finite.get flows id) m

-- what is told of a message that names this id, and of one that names none
abbrev pub told_at : ℕ → Effect → Heard
told_at id effect = record { id = Some id; earlier = effect.earlier; over = effect.over }

abbrev pub told_apart : Option ℕ → Direction → Msg → Heard
told_apart id direction m = record { id = id; earlier = None; over = Some (lone direction m) }

abbrev pub told_alone : Direction → Msg → Heard
told_alone direction m = told_apart None direction m

-- a table in which what goes on stands under its id, where that has nothing
abbrev pub kept_on : ById Flow → ℕ → Option Flow → ById Flow
kept_on flows id None = flows
kept_on flows id (Some flow) = finite.insert flows id flow

-- what is told, by the id that is read
abbrev pub heard_by : Bool → ById Flow → Direction → Msg → Option (Result ℕ CdrFault) → Heard
heard_by alone flows direction m None = told_alone direction m
heard_by alone flows direction m (Some (Err e)) = told_alone direction m
heard_by alone flows direction m (Some (Ok id)) =
    told_at id (effect_at alone flows direction m id)

-- and what stands under each id then
abbrev pub left_by : Bool → ById Flow → Direction → Msg → Option (Result ℕ CdrFault) → ById Flow
left_by alone flows direction m None = flows
left_by alone flows direction m (Some (Err e)) = flows
left_by alone flows direction m (Some (Ok id)) =
    put flows id (effect_at alone flows direction m id).stays

-- what is told of a message, and what stands under each id then
abbrev pub heard : Bool → ById Flow → Direction → Msg → Heard
heard alone flows direction m = heard_by alone flows direction m (request_id_of m)

abbrev pub left : Bool → ById Flow → Direction → Msg → ById Flow
left alone flows direction m = left_by alone flows direction m (request_id_of m)

-- whether the call of the id that is read waits for no answer
abbrev pub is_early_by : ById Flow → Option (Result ℕ CdrFault) → Bool
is_early_by flows None = false
is_early_by flows (Some (Err e)) = false
is_early_by flows (Some (Ok id)) = not (is_waiting (finite.get flows id))

-- whether a message of the server answers a call whose request didn't come yet
abbrev pub is_early : ById Flow → Msg → Bool
is_early flows m = is_answer m.kind && is_early_by flows (request_id_of m)

-- what stands under each id after messages of both directions, in this order
abbrev pub left_of_all : Bool → ById Flow → List Brought → ById Flow
left_of_all alone flows [] = flows
left_of_all alone flows (one ∷ rest) =
    left_of_all alone (left alone flows one.direction one.message) rest

-- what is told of them
abbrev pub told_of_all : Bool → ById Flow → List Brought → List Heard
told_of_all alone flows [] = []
told_of_all alone flows (one ∷ rest) =
    heard alone flows one.direction one.message
    ∷ told_of_all alone (left alone flows one.direction one.message) rest

-- whether a message names this id
abbrev pub is_id : ℕ → Option (Result ℕ CdrFault) → Bool
is_id id None = false
is_id id (Some (Err e)) = false
is_id id (Some (Ok other)) = id == other

-- the messages that name this id
abbrev pub own : ℕ → List Brought → List Brought
own id [] = []
own id (one ∷ rest) =
    if is_id id (request_id_of one.message) then one ∷ own id rest else own id rest

-- what stands under an id whose messages these are
abbrev pub left_alone : Bool → Option Flow → List Brought → Option Flow
left_alone alone flow [] = flow
left_alone alone flow (one ∷ rest) =
    left_alone alone (effect alone one.direction flow one.message).stays rest
