-- What a Fragment does that continues an answer.
use Rattle.std.proofs.Common.{◌≡◌, Bool, true, false, if◌then◌else◌, Option, Some, None, Result, IfOk}
use Rattle.std.specs.Option.{option_map}
use Rattle.std.specs.declared.alloc.AllocError.{AllocError}
use Rattle.giop_msg.specs.declared.msg.Msg.{Msg}
use Rattle.giop_trace.specs.declared.direction.Direction.TheVariants.{Server}
use Rattle.giop_trace.specs.declared.flow.Flow.{Flow}
use Rattle.giop_trace.specs.declared.heard.Heard.{Heard}
use Rattle.giop_trace.specs.Effects.{Effect, answers_on, continues_in, effect_left, extended, goes_on}
use Rattle.giop_trace.specs.Flows.{continues}

on_one : (r : Result Bool AllocError) (told : Heard) (b : Bool) (x y : Effect) → b ≡ true
    → IfOk r (λ stays. effect_left stays told ≡ x) → IfOk r (λ stays. effect_left stays told ≡ (if b then x else y))
on_one r told true x y is_true given = given
on_one r told false x y is_true given = absurd cc

-- the answer has the Fragment behind it, and the flow goes on or is over
pub answered_on : (alone : Bool) (old : Option Flow) (m : Msg) (told : Heard) (r : Result Bool AllocError)
    → continues_in Server old m ≡ true
    → ((flow : Flow) → told.over ≡ Some flow → IfOk r (λ stays. effect_left stays told ≡ goes_on alone None flow))
    → told.over ≡ option_map {T = Flow} (λ flow. record flow { answer = extended flow.answer m }) old
    → IfOk r (λ stays. effect_left stays told ≡ answers_on alone old m)
answered_on alone None m told r place stays is = absurd cc
answered_on alone (Some flow) m told r place stays is =
    on_one r told (continues flow.answer m) _ _ place (stays (record flow { answer = extended flow.answer m }) is)
