-- What most messages do: a Request begins a call that goes on, and the Reply to it ends it.
use Rattle.std.proofs.Common.{◌≡◌, ℕ, Bool, false, Option, Some, None, Ok, refl, arith}
use Rattle.std.proofs.lemmas.Grind.{common_steps}
use Rattle.std.specs.FinMap as finite
use Rattle.giop_ids.specs.ById.{ById}
use Rattle.giop_msg.specs.declared.kind.Kind.TheVariants.{Reply}
use Rattle.giop_msg.specs.declared.msg.Msg.{Msg}
use Rattle.giop_msg.specs.RequestId.{request_id_of}
use Rattle.giop_trace.specs.declared.direction.Direction.{Direction}
use Rattle.giop_trace.specs.declared.direction.Direction.TheVariants.{Server}
use Rattle.giop_trace.specs.declared.flow.Flow.{Flow}
use Rattle.giop_trace.specs.Effects.{asked_by, effect, stays}
use Rattle.giop_trace.specs.Observing.{heard, left}
use Rattle.giop_trace.specs.Usual.{HasNoAnswer, IsAnswered, IsAsked, told_answered, with_answer}

asked_effect : (alone : Bool) (flows : ById Flow) (id : ℕ) (direction : Direction) (m : Msg) → IsAsked alone flows id direction m
    → effect alone direction (finite.get flows id) m ≡ stays (Some (asked_by m))
asked_effect alone flows id direction m is = rw (is.client, is.free, is.request, is.both, is.awaited) (grind (arith, common_steps))

answered_effect : (alone : Bool) (direction : Direction) (flow : Option Flow) (m : Msg) → direction ≡ Server → m.kind ≡ Reply → m.more ≡ false
    → HasNoAnswer flow → effect alone direction flow m ≡ record { earlier = None; stays = None; over = with_answer flow m }
answered_effect alone direction None m server reply whole none = absurd none
answered_effect alone direction (Some flow) m server reply whole none = rw (server, reply, none, whole) refl

pub asked_told : (alone : Bool) (flows : ById Flow) (id : ℕ) (direction : Direction) (m : Msg) → IsAsked alone flows id direction m
    → request_id_of m ≡ Some (Ok id) → record { id = Some id; earlier = None; over = None } ≡ heard alone flows direction m
asked_told alone flows id direction m is named = rw (named, asked_effect alone flows id direction m is) refl

pub asked_left : (alone : Bool) (flows : ById Flow) (id : ℕ) (direction : Direction) (m : Msg) → IsAsked alone flows id direction m
    → request_id_of m ≡ Some (Ok id) → finite.insert flows id (asked_by m) ≡ left alone flows direction m
asked_left alone flows id direction m is named = rw (named, asked_effect alone flows id direction m is) refl

pub answered_told : (alone : Bool) (flows : ById Flow) (id : ℕ) (direction : Direction) (m : Msg) → IsAnswered flows id direction m
    → request_id_of m ≡ Some (Ok id) → told_answered id (finite.get flows id) m ≡ heard alone flows direction m
answered_told alone flows id direction m is named =
    rw (named, answered_effect alone direction (finite.get flows id) m is.server is.reply is.whole is.open_call) refl

pub answered_left : (alone : Bool) (flows : ById Flow) (id : ℕ) (direction : Direction) (m : Msg) → IsAnswered flows id direction m
    → request_id_of m ≡ Some (Ok id) → finite.remove flows id ≡ left alone flows direction m
answered_left alone flows id direction m is named =
    rw (named, answered_effect alone direction (finite.get flows id) m is.server is.reply is.whole is.open_call) refl
