use Rattle.std.proofs.Common.{◌≡◌, ◌==◌, ◌&&◌, ℕ, nat_lt, Bool, true, false, cond, List, [], ◌∷◌, length, refl, ap, ◌∙◌, sym}
use Rattle.std.specs.FinMap as finite
use Rattle.giop_end.specs.declared.limits.Limits.{Limits}
use Rattle.giop_commands.specs.Session.Acts.{Outbox}
use Rattle.giop_asked_calls.specs.declared.calls.CallLine.{CallLine}
use Rattle.giop_calling.specs.Call.Calling.{ClientCalls, entry_at}
use Rattle.giop_calling.specs.Call.Streaming.{is_vacant, most_outgoing, next_has_room}
use Rattle.giop_calling.proofs.laws.calls_are_made_where_none_is_open.Goals as goal

none_waits : (limits : Limits) (left : List CallLine) (t : Outbox ClientCalls) → length (finite.keys t.calls.table) ≡ 0
    → next_has_room limits left t ≡ false → left ≡ []
none_waits limits [] t none full = refl
none_waits limits (call ∷ calls) t none full =
    let room : next_has_room limits (call ∷ calls) t ≡ true = ap (λ n. cond (n == 0) true
    (nat_lt (length (finite.keys t.calls.table)) limits.calls
    && (is_vacant (entry_at t.calls call.id) && nat_lt (length t.outgoing) most_outgoing))) none in
    absurd (let both : true ≡ false = sym room ∙ full in cc)

pub returns : goal.returns
returns c = λ asked fault calls left s t makes none. none_waits asked.limits left t none makes.full
