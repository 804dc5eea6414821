-- A client's act that isn't refused puts its message out.
use Rattle.std.proofs.Common.{◌≡◌, ℕ, ◌++◌, List, Option, Some, None, Ok, refl, sym, subst, inr}
use Rattle.giop_ids.specs.Runs.{Does as DoesAct}
use Rattle.giop_msg.specs.Msg.{message_octets}
use Rattle.giop_msg.specs.declared.msg.Msg.{Msg}
use Rattle.giop_calls.specs.declared.client.event.ClientEvent.{ClientEvent}
use Rattle.giop_calls.specs.declared.fault.CallFault.{CallFault}
use Rattle.giop_calls.specs.ClientTable.{client_step, is_closed, is_gathering}
use Rattle.giop_session.specs.declared.Planned.{Planned}
use Rattle.giop_session.specs.Acts.Putting.{Puts}
use Rattle.giop_session.specs.Calls.CallTable.{Answers, Hears, Nothing, rules_of}
use Rattle.giop_session.specs.Hearing.Heard.{in_call}
use Rattle.laws_in_use.proofs.AskingRuns.{End}

abbrev pub PutsSo : ℕ → Option CallFault → (Planned ClientEvent → Type 0) → End → List ℕ → End → List ℕ → Type 0
PutsSo id refusal Plans h out k out' =
    Puts (rules_of client_step is_closed is_gathering) in_call id refusal Plans h out (Ok tt) k out'

abbrev pub Does_it : ℕ → Planned ClientEvent → Msg → End → End → Type 0
Does_it id planned m h k =
    DoesAct (rules_of client_step is_closed is_gathering) h (record { id = id; what = Hears planned Nothing })
    (Ok (Answers (record { answer = tt; message = Some m }))) k

-- what is planned is put out, where it isn't refused
pub puts_so : (id : ℕ) (refusal : Option CallFault) (Plans : Planned ClientEvent → Type 0) (h k : End) (out : List ℕ) (planned : Planned ClientEvent) (m : Msg)
    → refusal ≡ None → Plans planned → Does_it id planned m h k → PutsSo id refusal Plans h out k (out ++ message_octets m)
puts_so id refusal Plans h k out planned m none_so plans does =
    subst (λ r. PutsSo id r Plans h out k (out ++ message_octets m)) (sym none_so)
    (inr (planned, plans, record { answered = Ok (record { answer = tt; message = Some m }); does = does; returned = refl; puts = refl }))
