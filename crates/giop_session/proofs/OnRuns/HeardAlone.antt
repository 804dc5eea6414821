-- After messages of which none is refused, each call is what its own messages make of it.
use Rattle.std.proofs.Common.{◌≡◌, ℕ, Bool, true, false, cond, if◌then◌else◌, List, [], ◌∷◌, ◌==◌, Option, Some, None, Result, Ok, Err, refl, sym, ap, subst, ◌∙◌, inl, inr}
use Rattle.std.proofs.Common.{arith}
use Rattle.std.proofs.lemmas.Bool.Decides.{nat_tests}
use Rattle.giop_cdr.specs.declared.fault.CdrFault.{CdrFault}
use Rattle.giop_msg.specs.declared.msg.Msg.{Msg}
use Rattle.giop_msg.specs.RequestId.{request_id_of}
use Rattle.giop_ids.specs.Runs.{left}
use Rattle.giop_end.specs.declared.session_fault.SessionFault.{SessionFault}
use Rattle.giop_session.specs.Runs.Alone.{alone_heard, call_after, names, names_by, own_messages}
use Rattle.giop_table.specs.CallTable.{Call, Held, at}
use Rattle.giop_end.specs.Hearing.Feeding.{Through}
use Rattle.giop_end.specs.Hearing.Heard.{IsHeard, SideOf, heard_by, hears, rules_at, turn_at}
use Rattle.giop_table.proofs.TableLemmas.{table_apart}

module _ {R E V A F : Type 0} (side : SideOf R E V A F) where
  -- what an accepted message leaves: the rule, and of each call what it does to it
  abbrev after : R → Msg → Call E → Call E
  after rule m = call_after (turn_at side rule) side.act_by m

  one : (m : Msg) (h k : Held R E) (broken : Option SessionFault) (name : Option (Result ℕ CdrFault))
      → IsHeard (rules_at side h.rule) side.of_rule (heard_by broken name (λ id. side.act_by m (at h id))) h (Ok tt) k
      → (k.rule ≡ h.rule) × ((q : ℕ) → at k q ≡ (if names_by name q then after h.rule m (at h q) else at h q))
  one m h k broken name (inl both) = absurd cc
  one m h k (Some why) name (inr both) = absurd cc
  one m h k None None (inr both) = absurd cc
  one m h k None (Some (Err fault)) (inr both) = absurd cc
  one m h k None (Some (Ok id)) (inr (Err why, does, is)) = absurd cc
  one m h k None (Some (Ok id)) (inr (Ok reply, does, is)) =
      let moved = does.leaves in
      let call = left (at h id) (turn_at side h.rule (at h id) (side.act_by m (at h id))) in (
        ap (λ s. s.rule) moved,
        λ q. ap (λ s. at s q) moved ∙ table_apart (side.next h.rule) (side.closed h.rule) side.gathering h id call q
            ∙ by_id q (q == id) refl,
      )
    where
      by_id : (q : ℕ) (b : Bool) → (q == id) ≡ b
          → cond b (left (at h id) (turn_at side h.rule (at h id) (side.act_by m (at h id)))) (at h q)
          ≡ cond b (after h.rule m (at h q)) (at h q)
      by_id q true is = let same : q ≡ id = grind (arith, nat_tests) in ap (after h.rule m) (ap (at h) (sym same))
      by_id q false is = refl

  -- after messages of which none is refused, each call is what its own messages make of it
  pub calls_alone : (h k : Held R E) (messages : List Msg) (id : ℕ)
      → Through (hears side) h messages k
      → at k id ≡ alone_heard (turn_at side h.rule) side.act_by (at h id) (own_messages id messages)
  calls_alone h k [] id is = ap (λ s. at s id) is
  calls_alone h k (m ∷ messages) id (mid, heard, rest) =
      let step = one m h mid (side.breaks m) (request_id_of m) heard in
      let behind = calls_alone mid k messages id rest in
      subst (λ rule. at k id ≡ alone_heard (turn_at side rule) side.act_by (at mid id) (own_messages id messages)) step.0 behind
      ∙ by_name (names m id) (at mid id) (step.1 id)
    where
      by_name : (b : Bool) (call : Call E) → call ≡ cond b (after h.rule m (at h id)) (at h id)
          → alone_heard (turn_at side h.rule) side.act_by call (own_messages id messages)
          ≡ alone_heard (turn_at side h.rule) side.act_by (at h id) (cond b (m ∷ own_messages id messages) (own_messages id messages))
      by_name true call same = ap (λ call. alone_heard (turn_at side h.rule) side.act_by call (own_messages id messages)) same
      by_name false call same = ap (λ call. alone_heard (turn_at side h.rule) side.act_by call (own_messages id messages)) same
