use Rattle.std.proofs.Common.{◌≡◌, ℕ, ◌==◌, Bool, true, false, if◌then◌else◌, [], ◌∷◌, refl, ap, subst, ◌∙◌, arith}
use Rattle.std.proofs.lemmas.Bool.Decides.{nat_tests}
use Rattle.std.specs.List.{AllByRecursion}
use Rattle.giop_cdr.specs.Layout.{number, chosen}
use Rattle.giop_cdr.specs.Reading.Values.{field_at, number_at}
use Rattle.giop_ids.specs.Runs.{alone, is_own, left, own, told_alone}
use Rattle.giop_msg.specs.RequestId.{request_id_layout}
use Rattle.giop_calls.specs.declared.server.event.ServerEvent.{ServerEvent}
use Rattle.giop_calls.specs.ServerTable.{is_closed, is_gathering, server_step}
use Rattle.giop_session.specs.Calls.CallTable.{at, is_of_call, turn}
use Rattle.giop_session.specs.Runs.Events.{Comes, Follows, own_events}
use Rattle.giop_session.specs.Hearing.ServerHears.{server_act}
use Rattle.laws_in_use.specs.Heard.{asks, begins, silence}
use Rattle.laws_in_use.specs.Locating.{door_begins, key_little, limits}
use Rattle.laws_in_use.proofs.LocatingRuns.{asked_act, begun_act, new, none_at, one_1, one_2}
use Rattle.laws_in_use.proofs.heard.two_acts_in_two_orders.Goals as goal

free_by : (seven nine : Bool) → AllByRecursion (λ result. is_own is_of_call result ≡ true)
    (if seven then silence ∷ (if nine then silence ∷ [] else []) else if nine then silence ∷ [] else [])
free_by true true = (refl, (refl, tt))
free_by true false = (refl, tt)
free_by false true = (refl, tt)
free_by false false = tt

pub returns-clause-free : goal.returns-clause-free
returns-clause-free c = λ id. free_by (7 == id) (9 == id)

pub returns-clause-run : goal.returns-clause-run
returns-clause-run c = λ interface. (
  one_2 interface,
  ((one_1 interface, begun_act interface, (one_2 interface, asked_act interface, refl)), returns-clause-free c),
)

pub returns-clause-seven : goal.returns-clause-seven
returns-clause-seven c = λ k run.
    c.each_call_alone.ensures.value (new limits) k (begins ∷ asks ∷ []) (silence ∷ silence ∷ []) 7 run (returns-clause-free c 7)
    ∙ ap (λ call. alone (turn server_step is_closed is_gathering) call (own 7 (begins ∷ asks ∷ []))) (none_at limits 7)

pub returns-clause-told : goal.returns-clause-told
returns-clause-told c = λ k results run free.
    c.each_call_alone.ensures.told (new limits) k (begins ∷ asks ∷ []) results 7 run free
    ∙ ap (λ call. told_alone (turn server_step is_closed is_gathering) call (own 7 (begins ∷ asks ∷ []))) (none_at limits 7)

-- no id is both
apart : (id : ℕ) → (7 == id) ≡ true → (9 == id) ≡ true → ⊥
apart id seven nine = grind (arith, nat_tests)

same_by : (seven nine : Bool) → (seven ≡ true → nine ≡ true → ⊥)
    → (if seven then begins.what ∷ (if nine then asks.what ∷ [] else []) else if nine then asks.what ∷ [] else [])
    ≡ (if nine then asks.what ∷ (if seven then begins.what ∷ [] else []) else if seven then begins.what ∷ [] else [])
same_by true true not_both = absurd (not_both refl refl)
same_by true false not_both = refl
same_by false true not_both = refl
same_by false false not_both = refl

pub returns-clause-same : goal.returns-clause-same
returns-clause-same c = λ id. same_by (7 == id) (9 == id) (apart id)

pub returns-clause-either : goal.returns-clause-either
returns-clause-either c = λ k k' results results' run run'.
    c.any_interleaving.ensures (new limits) k k' (begins ∷ asks ∷ []) (asks ∷ begins ∷ []) results results' run run' (returns-clause-same c)

own_is : own_events {V = ServerEvent} 7 (Comes door_begins ∷ Comes key_little ∷ []) ≡ Comes door_begins ∷ []
unfolding request_id_layout chosen number number_at field_at
own_is = refl

pub returns-clause-met : goal.returns-clause-met
returns-clause-met c = λ interface k met.
    let follows = subst (λ events. Follows (turn server_step is_closed is_gathering) (server_act interface) (at (new limits) 7) events (at k 7)) own_is
    (c.each_call_of_a_run.ensures interface (new limits) k (Comes door_begins ∷ Comes key_little ∷ []) met 7) in
    follows.1 ∙ ap (λ call. left call (turn server_step is_closed is_gathering call (server_act interface door_begins call))) (none_at limits 7)
