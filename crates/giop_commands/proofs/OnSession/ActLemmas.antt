-- What the programs do at their ends.
use Rattle.std.proofs.Common.{◌≡◌, ◌≢◌, ℕ, max, List, [], ◌∷◌, ◌++◌, Option, Some, None, Result, Ok, Err, IfOk, sym, ap, subst, ◌∙◌, arith}
use Rattle.giop_ids.specs.Runs.{Rules}
use Rattle.giop_end.specs.declared.end.End.{End}
use Rattle.giop_table.specs.declared.plan.Planned.{Planned}
use Rattle.giop_end.specs.declared.session_fault.SessionFault.{SessionFault}
use Rattle.giop_end.specs.declared.session_fault.SessionFault.TheVariants.{NoMemory}
use Rattle.giop_table.specs.declared.table_fault.TableFault.{TableFault}
use Rattle.giop_table.specs.CallTable.{Act, Call, Held, Reply}
use Rattle.giop_end.specs.Acts.Putting.{Puts}
use Rattle.giop_show.specs.declared.failure.Failure.{Failure}
use Rattle.giop_commands.specs.Check.{answer_of}
use Rattle.giop_commands.specs.Session.Acts.{Acts, ActsOrTells, Outbox, most}

-- one more count
pub most_more : (lefts : List ℕ) (left : ℕ) → most (lefts ++ left ∷ []) ≡ max (most lefts) left
most_more [] left = grind arith
most_more (one ∷ lefts) left = let more = most_more lefts left in grind arith

-- what two acts leave of an end
pub others_on : {R E V A F : Type 0} (old mid new : End R E V A F) → mid ≡ record old { calls = mid.calls; outgoing = mid.outgoing }
    → new ≡ record mid { calls = new.calls; outgoing = new.outgoing } → new ≡ record old { calls = new.calls; outgoing = new.outgoing }
others_on {R} {E} {V} {A} {F} old mid new first second =
    second ∙ ap (λ (e : End R E V A F). record e { calls = new.calls; outgoing = new.outgoing }) first

pub same_fault : {R E V A F : Type 0} (old mid : End R E V A F) → mid ≡ record old { calls = mid.calls; outgoing = mid.outgoing } → mid.fault ≡ old.fault
same_fault {R} {E} {V} {A} {F} old mid same = ap (λ (e : End R E V A F). e.fault) same

pub same_interface : {R E V A F : Type 0} (old mid : End R E V A F) → mid ≡ record old { calls = mid.calls; outgoing = mid.outgoing }
    → mid.interface.now ≡ old.interface.now
same_interface {R} {E} {V} {A} {F} old mid same = ap (λ (e : End R E V A F). e.interface.now) same

pub same_limits : {R E V A F : Type 0} (old mid : End R E V A F) → mid ≡ record old { calls = mid.calls; outgoing = mid.outgoing } → mid.limits ≡ old.limits
same_limits {R} {E} {V} {A} {F} old mid same = ap (λ (e : End R E V A F). e.limits) same

pub same_unread : {R E V A F : Type 0} (old mid : End R E V A F) → mid ≡ record old { calls = mid.calls; outgoing = mid.outgoing } → mid.framer ≡ old.framer
same_unread {R} {E} {V} {A} {F} old mid same = ap (λ (e : End R E V A F). e.framer) same

-- what turns and acts leave of an end
pub turned_on : {R E V A F : Type 0} (old mid new : End R E V A F)
    → mid ≡ record old { outgoing = mid.outgoing; framer = mid.framer; calls = mid.calls; fault = mid.fault }
    → new ≡ record mid { outgoing = new.outgoing; framer = new.framer; calls = new.calls; fault = new.fault }
    → new ≡ record old { outgoing = new.outgoing; framer = new.framer; calls = new.calls; fault = new.fault }
turned_on {R} {E} {V} {A} {F} old mid new first second =
    second ∙ ap (λ (e : End R E V A F). record e { outgoing = new.outgoing; framer = new.framer; calls = new.calls; fault = new.fault }) first

pub turned_interface : {R E V A F : Type 0} (old mid : End R E V A F)
    → mid ≡ record old { outgoing = mid.outgoing; framer = mid.framer; calls = mid.calls; fault = mid.fault } → mid.interface.now ≡ old.interface.now
turned_interface {R} {E} {V} {A} {F} old mid same = ap (λ (e : End R E V A F). e.interface.now) same

pub turned_limits : {R E V A F : Type 0} (old mid : End R E V A F)
    → mid ≡ record old { outgoing = mid.outgoing; framer = mid.framer; calls = mid.calls; fault = mid.fault } → mid.limits ≡ old.limits
turned_limits {R} {E} {V} {A} {F} old mid same = ap (λ (e : End R E V A F). e.limits) same

-- what acts leave of an end, behind a turn
pub acted_on : {R E V A F : Type 0} (mid new : End R E V A F) → new ≡ record mid { calls = new.calls; outgoing = new.outgoing }
    → new ≡ record mid { outgoing = new.outgoing; framer = new.framer; calls = new.calls; fault = new.fault }
acted_on {R} {E} {V} {A} {F} mid new same =
    same ∙ ap (λ (e : End R E V A F). record mid { outgoing = new.outgoing; framer = e.framer; calls = new.calls; fault = e.fault }) (sym same)

-- what is told of an act
module _ {R E V A F : Type 0} (rules : Rules (Held R E) (Call E) (Act V) (Reply E A) (TableFault F)) (of_rule : ℕ → F → SessionFault) where
  pub acts_told : (fault : Option SessionFault) (id : ℕ) (refusal : Option F) (Plans : Planned V → Type 0) (s t : Outbox (Held R E))
      (acted : Result (Unit {0}) SessionFault) (r : Result (Option SessionFault) Failure)
      → ((why : SessionFault) → fault ≡ Some why → (acted ≡ Err why) × (t ≡ s))
      → (fault ≡ None → Puts rules of_rule id refusal Plans s.calls s.outgoing acted t.calls t.outgoing)
      → IfOk r (λ why. (acted ≡ answer_of why) × (why ≢ Some NoMemory))
      → IfOk r (λ refused. ActsOrTells rules of_rule fault id refusal Plans s refused t)
  acts_told fault id refusal Plans s t acted (Err failure) failed puts told = tt
  acts_told fault id refusal Plans s t acted (Ok why) failed puts told =
      let acts : Acts rules of_rule fault id refusal Plans s acted t = record { failed = failed; puts = puts } in
      (subst (λ r. Acts rules of_rule fault id refusal Plans s r t) told.0 acts, told.1)
