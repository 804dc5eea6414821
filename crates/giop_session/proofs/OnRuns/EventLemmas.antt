-- Of a run of events each call follows its own.
use Rattle.std.proofs.Common.{◌≡◌, ℕ, Bool, true, false, cond, List, [], ◌∷◌, ◌==◌, Option, Some, None, Result, Ok, Err, IsOk, refl, sym, ap, subst, ◌∙◌, inl, inr}
use Rattle.std.proofs.Common.{arith}
use Rattle.std.proofs.lemmas.Bool.Decides.{nat_tests}
use Rattle.giop_cdr.specs.declared.fault.CdrFault.{CdrFault}
use Rattle.giop_msg.specs.declared.msg.Msg.{Msg}
use Rattle.giop_msg.specs.RequestId.{request_id_of}
use Rattle.giop_ids.specs.Runs.{Does, left, told}
use Rattle.giop_ids.proofs.RunLemmas.{done_within}
use Rattle.giop_end.specs.declared.session_fault.SessionFault.{SessionFault}
use Rattle.giop_session.specs.Runs.Alone.{names_by}
use Rattle.giop_table.specs.CallTable.{Act, Call, Held, Reply, Turned, at, limit}
use Rattle.giop_session.specs.Runs.Events.{Event, Comes, act_of, is_of, own_events, Accepts, Meets, what, Follows, Does as DoesTo}
use Rattle.giop_end.specs.Hearing.Heard.{IsHeard, heard_by, SideOf, turn_at, rules_at}
use Rattle.giop_table.proofs.TableLemmas.{table_apart}

-- what is told an answer was done
done_is : {E A F : Type 0} (done : Turned E A F) (reply : Reply E A) → told done ≡ Ok reply → IsOk done
done_is (Ok done) reply is = refl
done_is (Err why) reply is = absurd cc

module _ {R E V A F : Type 0} (side : SideOf R E V A F) where
  abbrev turn_by : R → Call E → Act V → Turned E A F
  turn_by rule = turn_at side rule

  -- an act that is accepted: the rule stays, the act is accepted by its call, and that call alone is changed
  pub record Changes (h : Held R E) (id : ℕ) (act : Call E → Act V) (k : Held R E) : Type 0 where
    pub rule_stays : k.rule ≡ h.rule
    pub accepted : IsOk (turn_by h.rule (at h id) (act (at h id)))
    pub calls : (q : ℕ) → at k q ≡ cond (q == id) (left (at h q) (turn_by h.rule (at h q) (act (at h q)))) (at h q)

  pub changes : (h k : Held R E) (id : ℕ) (act : Call E → Act V) (reply : Reply E A)
      → Does (rules_at side h.rule) h (record { id = id; what = act (at h id) }) (Ok reply) k → Changes h id act k
  changes h k id act reply does =
      let call = left (at h id) (turn_by h.rule (at h id) (act (at h id))) in
      record {
        rule_stays = ap (λ s. s.rule) does.leaves;
        accepted = done_is (turn_by h.rule (at h id) (act (at h id))) reply
            (done_within (limit (side.next h.rule) (side.closed h.rule) side.gathering h id (act (at h id)))
            (turn_by h.rule (at h id) (act (at h id))) reply does.answer);
        calls = λ q. ap (λ s. at s q) does.leaves ∙ table_apart (side.next h.rule) (side.closed h.rule) side.gathering h id call q ∙ by_id q (q == id) refl;
      }
    where
      by_id : (q : ℕ) (b : Bool) → (q == id) ≡ b
          → cond b (left (at h id) (turn_by h.rule (at h id) (act (at h id)))) (at h q)
          ≡ cond b (left (at h q) (turn_by h.rule (at h q) (act (at h q)))) (at h q)
      by_id q true is = let same : q ≡ id = grind (arith, nat_tests) in
          ap (λ call. left call (turn_by h.rule call (act call))) (ap (at h) (sym same))
      by_id q false is = refl

  -- a message that is heard names a call, and acts on it
  pub heard : (m : Msg) (h k : Held R E) (broken : Option SessionFault) (name : Option (Result ℕ CdrFault))
      → IsHeard (rules_at side h.rule) side.of_rule (heard_by broken name (λ id. side.act_by m (at h id))) h (Ok tt) k
      → (id : ℕ) × (name ≡ Some (Ok id)) × Changes h id (side.act_by m) k
  heard m h k broken name (inl both) = absurd cc
  heard m h k (Some why) name (inr both) = absurd cc
  heard m h k None None (inr both) = absurd cc
  heard m h k None (Some (Err fault)) (inr both) = absurd cc
  heard m h k None (Some (Ok id)) (inr (Err why, does, is)) = absurd cc
  heard m h k None (Some (Ok id)) (inr (Ok sends, does, is)) = (id, refl, changes h k id (side.act_by m) _ does)

  -- an event that is accepted changes the call that it names
  accepted : (e : Event V) (h k : Held R E) → Accepts side e h k
      → (id : ℕ) × ((q : ℕ) → is_of q e ≡ (q == id)) × Changes h id (what (turn_by h.rule) side.act_by e) k
  accepted (Comes m) h k is =
      let found = heard m h k (side.breaks m) (request_id_of m) is in
      (found.0, λ q. ap (λ name. names_by name q) found.1, found.2)
  accepted (DoesTo id act) h k is = (id, λ q. refl, changes h k id (λ call. act_of act) is.0 is.1)

  -- the rule stays
  pub rule_stays : (h k : Held R E) (events : List (Event V)) → Meets side h events k → k.rule ≡ h.rule
  rule_stays h k [] met = ap (λ s. s.rule) met
  rule_stays h k (e ∷ events) (mid, first, rest) = rule_stays mid k events rest ∙ (accepted e h mid first).2.rule_stays

  -- each call follows its own events
  pub each_follows : (h k : Held R E) (events : List (Event V)) (id : ℕ) → Meets side h events k
      → Follows (turn_by h.rule) side.act_by (at h id) (own_events id events) (at k id)
  each_follows h k [] id is = ap (λ s. at s id) is
  each_follows h k (e ∷ events) id (mid, first, rest) =
      let step = accepted e h mid first in
      let behind = subst (λ rule. Follows (turn_by rule) side.act_by (at mid id) (own_events id events) (at k id)) step.2.rule_stays
      (each_follows mid k events id rest) in
      by_name (id == step.0) refl (is_of id e) (step.1 id) (at mid id) (step.2.calls id) behind
    where
      step_of : Changes h (accepted e h mid first).0 (what (turn_by h.rule) side.act_by e) mid
      step_of = (accepted e h mid first).2

      by_name : (here : Bool) → (id == (accepted e h mid first).0) ≡ here → (own : Bool) → own ≡ (id == (accepted e h mid first).0)
          → (call : Call E)
          → call ≡ cond (id == (accepted e h mid first).0) (left (at h id)
          (turn_by h.rule (at h id) (what (turn_by h.rule) side.act_by e (at h id)))) (at h id)
          → Follows (turn_by h.rule) side.act_by call (own_events id events) (at k id)
          → Follows (turn_by h.rule) side.act_by (at h id) (cond own (e ∷ own_events id events) (own_events id events)) (at k id)
      by_name true is own same call now behind =
          let to : id ≡ (accepted e h mid first).0 = grind (arith, nat_tests) in
          rw (same ∙ is) (
            subst (λ q. IsOk (turn_by h.rule (at h q) (what (turn_by h.rule) side.act_by e (at h q)))) (sym to) step_of.accepted,
            subst (λ c. Follows (turn_by h.rule) side.act_by c (own_events id events) (at k id))
                (now ∙ ap (λ b. cond b (left (at h id) (turn_by h.rule (at h id) (what (turn_by h.rule) side.act_by e (at h id)))) (at h id)) is) behind,
          )
      by_name false is own same call now behind =
          rw (same ∙ is) (subst (λ c. Follows (turn_by h.rule) side.act_by c (own_events id events) (at k id))
          (now ∙ ap (λ b. cond b (left (at h id) (turn_by h.rule (at h id) (what (turn_by h.rule) side.act_by e (at h id)))) (at h id)) is) behind)
