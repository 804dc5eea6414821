-- What a message that has no place does, and what one does whose flow goes on or is over.
use Rattle.std.proofs.Common.{◌≡◌, ℕ, Bool, true, false, not, if◌then◌else◌, Option, Some, None, Ok, refl, sym, ap, ◌∙◌}
use Rattle.std.specs.FinMap as finite
use Rattle.giop_ids.specs.ById.{ById}
use Rattle.giop_ids.proofs.Puts.{put_same}
use Rattle.giop_msg.specs.declared.kind.Kind.{Kind}
use Rattle.giop_msg.specs.declared.kind.Kind.TheVariants.{Request, LocateRequest, CancelRequest, Reply, LocateReply, CloseConnection, MessageError, Fragment}
use Rattle.giop_msg.specs.declared.msg.Msg.{Msg}
use Rattle.giop_msg.specs.RequestId.{request_id_of}
use Rattle.giop_trace.specs.declared.direction.Direction.{Direction}
use Rattle.giop_trace.specs.declared.direction.Direction.TheVariants.{Client, Server}
use Rattle.giop_trace.specs.declared.flow.Flow.{Flow}
use Rattle.giop_trace.specs.Effects.{Effect, answers, asks, effect, is_stray, strays}
use Rattle.giop_trace.specs.Observing.{effect_at, left, left_by}

on_other : {A : Type 0} (b : Bool) (x y : A) → not b ≡ true → (if b then x else y) ≡ y
on_other true x y other = absurd cc
on_other false x y other = refl

stray_asks : (alone : Bool) (entry : Option Flow) (kind : Kind) (m : Msg)
    → is_stray Client entry kind m ≡ true → asks alone entry kind m ≡ strays Client entry m
stray_asks alone entry Request m stray = absurd cc
stray_asks alone entry LocateRequest m stray = absurd cc
stray_asks alone entry CancelRequest m stray = absurd cc
stray_asks alone None Fragment m stray = refl
stray_asks alone (Some flow) Fragment m stray = on_other _ _ _ stray
stray_asks alone entry Reply m stray = refl
stray_asks alone entry LocateReply m stray = refl
stray_asks alone entry CloseConnection m stray = refl
stray_asks alone entry MessageError m stray = refl

stray_answers : (alone : Bool) (entry : Option Flow) (kind : Kind) (m : Msg)
    → is_stray Server entry kind m ≡ true → answers alone entry kind m ≡ strays Server entry m
stray_answers alone entry Reply m stray = absurd cc
stray_answers alone entry LocateReply m stray = absurd cc
stray_answers alone None Fragment m stray = refl
stray_answers alone (Some flow) Fragment m stray = on_other _ _ _ stray
stray_answers alone entry Request m stray = refl
stray_answers alone entry LocateRequest m stray = refl
stray_answers alone entry CancelRequest m stray = refl
stray_answers alone entry CloseConnection m stray = refl
stray_answers alone entry MessageError m stray = refl

-- a message that has no place is told by itself
pub stray_effect : (alone : Bool) (direction : Direction) (entry : Option Flow) (m : Msg)
    → is_stray direction entry m.kind m ≡ true → effect alone direction entry m ≡ strays direction entry m
stray_effect alone Client entry m stray = stray_asks alone entry m.kind m stray
stray_effect alone Server entry m stray = stray_answers alone entry m.kind m stray

-- and leaves each call as it is
pub stray_left : (alone : Bool) (flows : ById Flow) (direction : Direction) (m : Msg) (id : ℕ)
    → request_id_of m ≡ Some (Ok id) → is_stray direction (finite.get flows id) m.kind m ≡ true
    → flows ≡ left alone flows direction m
stray_left alone flows direction m id named stray =
    let stays = ap (λ (e : Effect). e.stays) (stray_effect alone direction (finite.get flows id) m stray) in
    sym (ap (λ n. left_by alone flows direction m n) named ∙ put_same flows id (effect_at alone flows direction m id).stays (sym stays))
