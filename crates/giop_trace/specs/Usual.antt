-- What most messages are: a Request that asks for a reply, of an id without a call, and the whole Reply
-- to it (CORBA 3.3 Part 2, 9.4.2, 9.4.3).
use Rattle.std.specs.Prelude.{◌≡◌, ℕ, Bool, false, Option, Some, None}
use Rattle.std.specs.FinMap as finite
use Rattle.giop_ids.specs.ById.{ById}
use Rattle.giop_msg.specs.declared.kind.Kind.TheVariants.{Request, Reply}
use Rattle.giop_msg.specs.declared.msg.Msg.{Msg}
use Rattle.giop_trace.specs.declared.direction.Direction.{Direction}
use Rattle.giop_trace.specs.declared.direction.Direction.TheVariants.{Client, Server}
use Rattle.giop_trace.specs.declared.flow.Flow.{Flow}
use Rattle.giop_trace.specs.declared.heard.Heard.{Heard}
use Rattle.giop_trace.specs.Flows.{is_oneway}

-- a Request begins a call that goes on
pub record IsAsked (alone : Bool) (flows : ById Flow) (id : ℕ) (direction : Direction) (m : Msg) : Type 0 where
  pub client : direction ≡ Client
  pub request : m.kind ≡ Request
  pub both : alone ≡ false
  pub awaited : is_oneway Request m ≡ false
  pub free : finite.get flows id ≡ None

-- a call stands there, and nothing of an answer came
abbrev pub HasNoAnswer : Option Flow → Type 0
HasNoAnswer None = ⊥
HasNoAnswer (Some flow) = flow.answer ≡ None

-- a Reply ends a call
pub record IsAnswered (flows : ById Flow) (id : ℕ) (direction : Direction) (m : Msg) : Type 0 where
  pub server : direction ≡ Server
  pub reply : m.kind ≡ Reply
  pub whole : m.more ≡ false
  pub open_call : HasNoAnswer (finite.get flows id)

-- what is told of a Reply that ends the call under its id
abbrev pub with_answer : Option Flow → Msg → Option Flow
with_answer None m = None
with_answer (Some flow) m = Some (record flow { answer = Some m })

abbrev pub told_answered : ℕ → Option Flow → Msg → Heard
told_answered id flow m = record { id = Some id; earlier = None; over = with_answer flow m }
