-- Ends whose calls are told when they are over.
use Rattle.std.proofs.Common.{◌≡◌, ℕ, Bool, true, List, Option, Some, None, Result, Ok, refl, sym, ap, ◌∙◌}
use Rattle.giop_ids.specs.ById.{ById}
use Rattle.giop_table.specs.declared.slot.Slot.{Slot}
use Rattle.giop_end.specs.declared.end.End.{End}
use Rattle.giop_end.specs.declared.session_fault.SessionFault.{SessionFault}
use Rattle.giop_table.specs.CallTable.{Held}
use Rattle.giop_msg.specs.declared.msg.Msg.{Msg}
use Rattle.giop_end.specs.Pumping.{Between, Feeds, State}
use Rattle.giop_commands.specs.Session.Streaming.{without_ended}
use Rattle.giop_commands.specs.Session.Turns.{GoesOn}

-- ---- an end, of which nothing but the table changes
module _ {R E V A F : Type 0} where
  table_on : (old new : End R E V A F) (table : ById (Slot E)) → new ≡ record old { calls = record old.calls { table = table } } → new.calls.table ≡ table
  table_on old new table same = ap (λ (e : End R E V A F). e.calls.table) same

  pub same_rule : (old new : End R E V A F) → new ≡ record old { calls = record old.calls { table = new.calls.table } } → new.calls.rule ≡ old.calls.rule
  same_rule old new same = ap (λ (e : End R E V A F). e.calls.rule) same

  pub table_stepped : (old mid new : End R E V A F) (closed : R → E → Bool) (id : ℕ)
      → mid ≡ record old { calls = record old.calls { table = mid.calls.table } }
      → new ≡ record mid { calls = record mid.calls { table = without_ended (closed mid.calls.rule) id mid.calls.table } }
      → new.calls.table ≡ without_ended (closed old.calls.rule) id mid.calls.table
  table_stepped old mid new closed id first second =
      table_on mid new (without_ended (closed mid.calls.rule) id mid.calls.table) second
      ∙ ap (λ r. without_ended (closed r) id mid.calls.table) (same_rule old mid first)

  pub unfailed_on : (old new : End R E V A F) → new ≡ record old { calls = record old.calls { table = new.calls.table } } → new.fault ≡ old.fault
  unfailed_on old new same = ap (λ (e : End R E V A F). e.fault) same

  pub tables_on : (old mid new : End R E V A F) (table : ById (Slot E)) → mid ≡ record old { calls = record old.calls { table = mid.calls.table } }
      → new ≡ record mid { calls = record mid.calls { table = table } } → new ≡ record old { calls = record old.calls { table = new.calls.table } }
  tables_on old mid new table first second =
      let is : new ≡ record old { calls = record old.calls { table = table } } =
      second ∙ ap (λ (e : End R E V A F). record e { calls = record e.calls { table = table } }) first in
      is ∙ ap (λ t. record old { calls = record old.calls { table = t } }) (sym (table_on mid new table second))

-- ---- a turn and what it leaves

-- nothing is wrong with an end that was fed well
fed_well : {S : Type 0} (Hears : Msg → S → Result (Unit {0}) SessionFault → S → Type 0) (s t : State S) (octets : List ℕ) (fault : Option SessionFault)
    → s.fault ≡ fault → Feeds Hears s octets (Ok tt) t → t.fault ≡ None
fed_well Hears s t octets None is fed = fed.stands is
fed_well Hears s t octets (Some why) is fed = absurd (cc (fed.failed why is).0)

-- nor with one of which the session continues
pub unfailed : {S : Type 0} (Hears : Msg → S → Result (Unit {0}) SessionFault → S → Type 0) (s t : Between S) → GoesOn Hears s (Ok true) t
    → t.state.fault ≡ None
unfailed Hears s t goes =
    fed_well Hears s.state t.state goes.2.ends.0 s.state.fault refl goes.2.ends.2.fed

-- what is left of it
pub told_on : {R E V A F : Type 0} (old new : End R E V A F) (calls : Held R E) → new ≡ record old { calls = calls }
    → new ≡ record old { outgoing = new.outgoing; framer = new.framer; calls = new.calls; fault = new.fault }
told_on {R} {E} {V} {A} {F} old new calls same =
    same
    ∙ ap (λ (e : End R E V A F). record old { outgoing = e.outgoing; framer = e.framer; calls = e.calls; fault = e.fault }) (sym same)
