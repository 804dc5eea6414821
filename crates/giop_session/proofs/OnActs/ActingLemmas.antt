-- What an end's own act leaves of its calls, and what it puts out.
use Rattle.std.proofs.Common.{◌≡◌, ℕ, Bool, List, ◌++◌, Option, Some, None, Result, Ok, Err, IsOk, refl, sym, ap, ◌∙◌, append-nil}
use Rattle.std.specs.FinMap as finite
use Rattle.giop_frag.specs.Gathered.{Pieces}
use Rattle.giop_ids.specs.Runs.{Does, left, told, within}
use Rattle.giop_ids.proofs.Puts.{get-put_other, get-put_same}
use Rattle.giop_msg.specs.declared.msg.Msg.{Msg}
use Rattle.giop_mux.specs.declared.step.Step.{Step}
use Rattle.giop_table.specs.declared.plan.Plan.{Plan}
use Rattle.giop_table.specs.declared.plan.Planned.{Planned}
use Rattle.giop_end.specs.declared.session_fault.SessionFault.{SessionFault}
use Rattle.giop_table.specs.declared.table_fault.TableFault.{TableFault}
use Rattle.giop_session.specs.Acts.Acting.{IsAccepted}
use Rattle.giop_table.specs.CallTable.{Answers, Call, Held, Hears, Nothing, Reply, at, brought, event_reply, limit, rules_of, turn, turned}
use Rattle.giop_end.specs.Hearing.Heard.{result_of}
use Rattle.giop_end.specs.Acts.Putting.{ActsOnCall, octets_of, put_out}
use Rattle.giop_table.specs.Sending.{Sends, entry_of, message_of, sends_of, settled_by, slot_of, unsent_after, unsent_of}

-- the message that is answered, if one is
abbrev message_told : {E A F : Type 0} → Result (Reply E A) (TableFault F) → Option Msg
message_told (Ok (Answers sends)) = sends.message
message_told _ = None

module _ {E V A F : Type 0} (next : Option E → V → Step E A F) (closed gathering : E → Bool) where
  -- a step that is answered was accepted
  by_outcome : (call : Call E) (entry : Option E) (plan : Plan) (unsent : List Msg) (pieces : Option Pieces) (outcome : Result A F)
      (over : Option (TableFault F)) (sends : Sends A)
      → told (within over (turned {E = E} gathering pieces (settled_by entry plan unsent outcome).entry (sends_of plan unsent outcome)))
      ≡ Ok (Answers sends)
      → IsOk outcome
      × ((left call (turned {E = E} gathering pieces (settled_by entry plan unsent outcome).entry (sends_of plan unsent outcome))).slot
      ≡ slot_of entry (unsent_after plan unsent))
      × (sends.message ≡ message_of plan unsent)
  by_outcome call entry plan unsent pieces (Ok answer) None sends is =
      (refl, refl, ap (λ (r : Result (Reply E A) (TableFault F)). message_told r) (sym is))
  by_outcome call entry plan unsent pieces (Ok answer) (Some why) sends is = absurd cc
  by_outcome call entry plan unsent pieces (Err why) None sends is = absurd cc
  by_outcome call entry plan unsent pieces (Err why) (Some over) sends is = absurd cc

  module _ {R : Type 0} (of_rule : ℕ → F → SessionFault) (id : ℕ) (planned : Planned V) (h : Held R E) (out : List ℕ) where
    by_answer : (answered : Result (Sends A) (TableFault F)) (k : Held R E) (out' : List ℕ)
        → Does (rules_of next closed gathering) h (record { id = id; what = Hears planned Nothing }) (event_reply answered) k
        → Ok tt ≡ result_of (of_rule id) answered → out' ≡ out ++ put_out answered → IsAccepted next id planned h out k out'
    by_answer (Err why) k out' does told_so puts = absurd cc
    by_answer (Ok sends) k out' does told_so puts =
        let slot = finite.get h.table id in
        let step = next (entry_of slot) planned.event in
        let found = by_outcome (at h id) step.entry planned.plan (unsent_of slot) (brought Nothing (finite.get h.gathered id)) step.outcome
        (limit next closed gathering h id (Hears planned Nothing)) sends does.answer in
        let leaves = left (at h id) (turn next closed gathering (at h id) (Hears planned Nothing)) in record {
          outcome = found.0;
          slot = ap (λ (one : Held R E). finite.get one.table id) does.leaves ∙ get-put_same h.table id leaves.slot ∙ found.1;
          others = λ other apart.
              ap (λ (one : Held R E). finite.get one.table other) does.leaves ∙ get-put_other h.table id leaves.slot other apart;
          puts = puts ∙ ap (λ m. out ++ octets_of m) found.2;
        }

    pub accepted : (k : Held R E) (out' : List ℕ) → ActsOnCall (rules_of next closed gathering) of_rule id planned h out (Ok tt) k out'
        → IsAccepted next id planned h out k out'
    accepted k out' on_call = by_answer on_call.answered k out' on_call.does on_call.returned on_call.puts

    by_refusal : (answered : Result (Sends A) (TableFault F)) (why : SessionFault) (k : Held R E) (out' : List ℕ)
        → Does (rules_of next closed gathering) h (record { id = id; what = Hears planned Nothing }) (event_reply answered) k
        → Err why ≡ result_of (of_rule id) answered → out' ≡ out ++ put_out answered → (k ≡ h) × (out' ≡ out)
    by_refusal (Ok sends) why k out' does told_so puts = absurd cc
    by_refusal (Err fault) why k out' does told_so puts = (does.leaves, puts ∙ append-nil out)

    pub refused : (why : SessionFault) (k : Held R E) (out' : List ℕ)
        → ActsOnCall (rules_of next closed gathering) of_rule id planned h out (Err why) k out' → (k ≡ h) × (out' ≡ out)
    refused why k out' on_call = by_refusal on_call.answered why k out' on_call.does on_call.returned on_call.puts
