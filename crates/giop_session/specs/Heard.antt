-- What a message does at an end: it ends the session, or something befalls the call of one id.
use Rattle.std.specs.Prelude.{◌≡◌, ◌⊎◌, ℕ, Bool, Option, Result, Ok, Err}
use Rattle.giop_ids.specs.Runs.{Does, Rules}
use Rattle.giop_msg.specs.declared.msg.Msg.{Msg}
use Rattle.giop_mux.specs.declared.step.Step.{Step}
use Rattle.giop_session.specs.declared.session_fault.SessionFault.{SessionFault}
use Rattle.giop_session.specs.declared.session_fault.SessionFault.TheVariants.{NoMemory}
use Rattle.giop_session.specs.declared.table_fault.TableFault.{TableFault}
use Rattle.giop_session.specs.CallTable.{Act, Call, Held, Reply, rules_of}
use Rattle.giop_session.specs.SessionFaults.{of_table}

-- what a message does
pub data Heard (V : Type 0) : Type 0 where
  Breaks : SessionFault → Heard V
  Befalls : ℕ → Act V → Heard V

-- what an end tells of what befell a call
abbrev pub told_of : {E A F : Type 0} → (F → SessionFault)
    → Result (Reply E A) (TableFault F) → Result (Unit {0}) SessionFault
told_of of_rule (Ok reply) = Ok tt
told_of of_rule (Err why) = Err (of_table of_rule why)

module _ {R E V A F : Type 0} (rules : Rules (Held R E) (Call E) (Act V) (Reply E A) (TableFault F))
    (of_rule : ℕ → F → SessionFault) where
  -- a message that does this is heard, and leaves these calls: it breaks the session and changes
  -- none, or its call does what befalls it
  abbrev pub IsHeardAs : Heard V → Held R E → Result (Unit {0}) SessionFault → Held R E → Type 0
  IsHeardAs (Breaks why) h result k = (result ≡ Err why) × (k ≡ h)
  IsHeardAs (Befalls id act) h result k =
      (reply : Result (Reply E A) (TableFault F))
      × Does rules h (record { id = id; what = act }) reply k
      × (result ≡ told_of (of_rule id) reply)

  -- or memory was wanting to find out what it does
  abbrev pub IsHeard : Heard V → Held R E → Result (Unit {0}) SessionFault → Held R E → Type 0
  IsHeard heard h result k =
      ((result ≡ Err NoMemory) × (k ≡ h)) ⊎ IsHeardAs heard h result k

-- the same of a message: what it does is told by the calls that stand
abbrev pub hears_by : {R E V A F : Type 0} → (R → Option E → V → Step E A F) → (R → E → Bool)
    → (E → Bool) → (ℕ → F → SessionFault) → (Held R E → Msg → Heard V)
    → Msg → Held R E → Result (Unit {0}) SessionFault → Held R E → Type 0
hears_by next closed gathering of_rule heard m h =
    IsHeard (rules_of (next h.rule) (closed h.rule) gathering) of_rule (heard h m) h
