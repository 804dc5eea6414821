-- What an event of a message comes to, at an end of either side.
use Rattle.std.proofs.Common.{◌≡◌, ℕ, Bool, List, Option, Result, Ok, Err, refl, ◌∙◌, inr}
use Rattle.std.specs.FinMap as finite
use Rattle.giop_msg.specs.declared.msg.Msg.{Msg}
use Rattle.giop_mux.specs.declared.step.Step.{Step}
use Rattle.giop_calls.specs.declared.fault.CallFault.{CallFault}
use Rattle.giop_table.specs.declared.plan.Plan.{Plan}
use Rattle.giop_table.specs.declared.plan.Planned.{Planned}
use Rattle.giop_table.specs.declared.table_fault.TableFault.{TableFault}
use Rattle.giop_table.specs.CallTable.{Brings, Held, Hears, rules_of}
use Rattle.giop_table.specs.Sending.{sends_of, unsent_of}
use Rattle.giop_table.proofs.TableLemmas.{DoesSo}
use Rattle.giop_end.specs.declared.session_fault.SessionFault.{SessionFault}
use Rattle.giop_end.specs.Hearing.Heard.{ActsOn, IsHeard, in_call, result_of}

-- an end returns the same, whatever message was sent
pub returned_is : {A F : Type 0} (of_rule : F → SessionFault) (plan : Plan) (unsent : List Msg) (answered : Result A (TableFault F))
    → result_of of_rule answered ≡ result_of of_rule (sends_of plan unsent answered)
returned_is of_rule plan unsent (Ok answer) = refl
returned_is of_rule plan unsent (Err why) = refl

module _ {R E V : Type 0} (next : Option E → V → Step E (Unit {0}) CallFault) (closed gathering : E → Bool) where
  -- so a message whose event comes to this is heard
  pub event_heard : (h k : Held R E) (id : ℕ) (planned : Planned V) (brings : Brings) (answered : Result (Unit {0}) (TableFault CallFault))
      (result : Result (Unit {0}) SessionFault) → DoesSo next closed gathering h id planned brings answered k
      → result ≡ result_of (in_call id) answered
      → IsHeard (rules_of next closed gathering) in_call (ActsOn id (Hears planned brings)) h result k
  event_heard h k id planned brings answered result does is =
      let unsent = unsent_of (finite.get h.table id) in
      inr (sends_of planned.plan unsent answered, does, is ∙ returned_is (in_call id) planned.plan unsent answered)
