-- A message that is refused changes nothing.
use Rattle.std.proofs.Common.{◌≡◌, ℕ, Ok, Err, sym, subst, inl, inr}
use Rattle.giop_msg.specs.declared.msg.Msg.{Msg}
use Rattle.giop_msg.specs.RequestId.{request_id_of}
use Rattle.giop_ids.specs.Runs.{Rules}
use Rattle.giop_end.specs.declared.session_fault.SessionFault.{SessionFault}
use Rattle.giop_table.specs.declared.table_fault.TableFault.{TableFault}
use Rattle.giop_table.specs.CallTable.{Act, Call, Held, Reply, at}
use Rattle.giop_end.specs.Hearing.Heard.{Heard, Breaks, ActsOn, IsHeard, heard_by, SideOf, rules_at, hears}

module _ {R E V A F : Type 0} (rules : Rules (Held R E) (Call E) (Act V) (Reply E A) (TableFault F)) (of_rule : ℕ → F → SessionFault) where
  -- a refused message changes nothing
  pub refused_keeps : (heard : Heard V) (h k : Held R E) (why : SessionFault) → IsHeard rules of_rule heard h (Err why) k → k ≡ h
  refused_keeps heard h k why (inl both) = both.1
  refused_keeps (Breaks other) h k why (inr both) = both.1
  refused_keeps (ActsOn id act) h k why (inr (Ok reply, does, is)) = absurd cc
  refused_keeps (ActsOn id act) h k why (inr (Err fault, does, is)) = does.leaves

module _ {R E V A F : Type 0} (side : SideOf R E V A F) where
  pub keeps : (m : Msg) (h k : Held R E) (why : SessionFault) → hears side m h (Err why) k → k ≡ h
  keeps m h k why heard =
      refused_keeps (rules_at side h.rule) side.of_rule (heard_by (side.breaks m) (request_id_of m) (λ id. side.act_by m (at h id))) h k why heard

  -- so it is refused where it stopped the end, too
  pub keeps_there : (m : Msg) (h k : Held R E) (why : SessionFault) → hears side m h (Err why) k
      → hears side m k (Err why) k
  keeps_there m h k why heard =
      subst (λ s. hears side m s (Err why) k) (sym (keeps m h k why heard)) heard
