use Rattle.std.proofs.Common.{refl, sym, inl, inr, true, ◌∷◌, []}
use Rattle.giop_mux.specs.Runs.{Hears}
use Rattle.giop_msg.specs.declared.version.Version.TheVariants.{V12}
use Rattle.giop_calls.specs.declared.client.event.ClientEvent.TheVariants as event
use Rattle.giop_calls.specs.declared.kind.CallKind.TheVariants as kind
use Rattle.laws_in_use.specs.ClientCalls.{called_and_replied, in_one, in_three, replied}
use Rattle.laws_in_use.proofs.replies.a_reply_in_three_messages.Goals as goal

pub returns-clause-one : goal.returns-clause-one
returns-clause-one c = (
  (_, _, refl, refl, (_, _, refl, refl, (_, _, refl, inl refl, refl))),
  (refl, (refl, (refl, tt))),
)

pub returns-clause-three : goal.returns-clause-three
returns-clause-three c = (
  (
    _,
    _,
    refl,
    refl,
    (
      _,
      _,
      refl,
      refl,
      (
        replied,
        [],
        refl,
        inr (record { kind = kind.Request; version = V12 }, Hears (event.More true) ∷ [], _, refl, ((true, refl), tt), (true, refl), refl),
        refl,
      ),
    ),
  ),
  (refl, (refl, (refl, (refl, (refl, tt))))),
)

pub returns-clause-entry : goal.returns-clause-entry
returns-clause-entry c =
    sym (c.equal_items_equal_at_client.ensures.value called_and_replied in_one in_three (returns-clause-one c) (returns-clause-three c)).0

pub returns-clause-told : goal.returns-clause-told
returns-clause-told c =
    sym (c.equal_items_equal_at_client.ensures.value called_and_replied in_one in_three (returns-clause-one c) (returns-clause-three c)).1
