use Rattle.std.proofs.Common.{◌≡◌, ◌==◌, ℕ, Bool, true, false, if◌then◌else◌, List, [], ◌∷◌, ◌++◌, take, drop, Ok, refl, sym, ap, ◌∙◌, arith}
use Rattle.std.proofs.lemmas.Bool.Decides.{nat_tests}
use Rattle.giop_cdr.specs.Layout.{number, chosen}
use Rattle.giop_cdr.specs.Reading.Values.{field_at, number_at}
use Rattle.giop_msg.specs.Msg.{message_octets}
use Rattle.giop_msg.specs.RequestId.{request_id_layout}
use Rattle.giop_msg.specs.declared.msg.Msg.{Msg}
use Rattle.giop_calls.specs.ServerTable.{is_closed, is_gathering, server_step}
use Rattle.giop_session.specs.Runs.Alone.{alone_heard, own_messages}
use Rattle.giop_session.specs.Calls.CallTable.{at, turn}
use Rattle.giop_session.specs.Runs.Events.{Comes}
use Rattle.giop_session.specs.Hearing.ServerHears.{server_act}
use Rattle.laws_in_use.specs.Heard.{asked_and_begun, begun_and_asked}
use Rattle.laws_in_use.specs.Locating.{door_begins, door_ends, key_little, limits}
use Rattle.laws_in_use.proofs.LocatingReads as read
use Rattle.laws_in_use.proofs.LocatingRuns.{asked, begun, fed, new, none_at, one_1, one_2}
use Rattle.laws_in_use.proofs.heard.two_messages_are_heard.Goals as goal

-- those of an id, where it is 7, or 9
abbrev if_is : Bool → Msg → List Msg → List Msg
if_is is m messages = if is then m ∷ messages else messages

one_own : (id : ℕ) → own_messages id begun_and_asked ≡ if_is (id == 7) door_begins (if_is (id == 9) key_little [])
unfolding request_id_layout chosen number number_at field_at
one_own id = refl

other_own : (id : ℕ) → own_messages id asked_and_begun ≡ if_is (id == 9) key_little (if_is (id == 7) door_begins [])
unfolding request_id_layout chosen number number_at field_at
other_own id = refl

same_by : (seven nine : Bool) → (seven ≡ true → nine ≡ true → ⊥)
    → if_is seven door_begins (if_is nine key_little []) ≡ if_is nine key_little (if_is seven door_begins [])
same_by true true not_both = absurd (not_both refl refl)
same_by true false not_both = refl
same_by false true not_both = refl
same_by false false not_both = refl

-- no id is both
apart : (id : ℕ) → (id == 7) ≡ true → (id == 9) ≡ true → ⊥
apart id seven nine = grind (arith, nat_tests)

pub returns-clause-heard : goal.returns-clause-heard
returns-clause-heard c = λ interface. (one_2 interface, (one_1 interface, begun interface, (one_2 interface, asked interface, refl)))

pub returns-clause-seven : goal.returns-clause-seven
returns-clause-seven c = λ interface k through.
    c.own_messages_alone.ensures interface (new limits) k begun_and_asked 7 through
    ∙ ap (λ messages. alone_heard (turn server_step is_closed is_gathering) (server_act interface) (at (new limits) 7) messages) (one_own 7)
    ∙ ap (λ call. alone_heard (turn server_step is_closed is_gathering) (server_act interface) call (door_begins ∷ [])) (none_at limits 7)

pub returns-clause-same : goal.returns-clause-same
returns-clause-same c = λ id. one_own id ∙ same_by (id == 7) (id == 9) (apart id) ∙ sym (other_own id)

pub returns-clause-either : goal.returns-clause-either
returns-clause-either c = λ interface k k' one other.
    c.any_interleaving_of_messages.ensures interface (new limits) k k' begun_and_asked asked_and_begun one other
    (returns-clause-same c)

pub returns-clause-in_one : goal.returns-clause-in_one
returns-clause-in_one c = λ interface. (
  one_2 interface,
  c.any_reads.ensures interface (read.wide (take 5 (message_octets door_begins))) (read.wide (take 5 (message_octets door_begins)))
      (read.wide (take 7 (message_octets door_ends))) (new limits) (new limits) (one_2 interface)
      (drop 5 (message_octets door_begins) ++ message_octets key_little ++ take 7 (message_octets door_ends)) (Ok tt)
      (fed read.first refl) (fed read.second (one_1 interface, begun interface, (one_2 interface, asked interface, refl))),
)

pub returns-clause-came : goal.returns-clause-came
returns-clause-came c = λ interface. (one_1 interface, (one_1 interface, begun interface, refl))

pub returns-clause-planned : goal.returns-clause-planned
returns-clause-planned c = tt

pub returns-clause-left : goal.returns-clause-left
returns-clause-left c = λ interface k came.
    c.what_is_left_is_unsent_at_server.ensures.left interface limits (Comes door_begins ∷ []) k came tt
