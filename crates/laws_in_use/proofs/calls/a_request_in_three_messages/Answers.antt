use Rattle.std.proofs.Common.{refl, sym, inl, inr, true, ◌∷◌, []}
use Rattle.giop_mux.specs.Runs.{Hears}
use Rattle.giop_calls.specs.declared.kind.CallKind.TheVariants as kind
use Rattle.giop_calls.specs.declared.server.event.ServerEvent.TheVariants as event
use Rattle.laws_in_use.specs.ServerCalls.{answering, arriving, asked_and_answered, in_one, in_three}
use Rattle.laws_in_use.proofs.calls.a_request_in_three_messages.Goals as goal

pub returns-clause-one : goal.returns-clause-one
returns-clause-one c = ((_, _, refl, inl refl, (_, _, refl, refl, (_, _, refl, refl, refl))), (refl, (refl, (refl, tt))))

pub returns-clause-three : goal.returns-clause-three
returns-clause-three c = (
  (
    arriving,
    answering,
    refl,
    inr (kind.Request, Hears (event.More true) ∷ [], _, tt, ((true, refl), tt), (true, refl), refl),
    (_, _, refl, refl, (_, _, refl, refl, refl)),
  ),
  (refl, (refl, (refl, (refl, (refl, tt))))),
)

pub returns-clause-entry : goal.returns-clause-entry
returns-clause-entry c =
    sym (c.equal_items_equal_at_server.ensures.value asked_and_answered in_one in_three (returns-clause-one c) (returns-clause-three c)).0

pub returns-clause-told : goal.returns-clause-told
returns-clause-told c =
    sym (c.equal_items_equal_at_server.ensures.value asked_and_answered in_one in_three (returns-clause-one c) (returns-clause-three c)).1
