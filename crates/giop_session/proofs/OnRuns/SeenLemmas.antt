-- A run of inputs that code gives an end, as one of what is seen of the end.
use Rattle.std.proofs.Common.{◌≡◌, ◌≢◌, ◌⊎◌, ℕ, List, Option, Some, None, Result, Ok, Err, IfOk, refl, ap, subst, sym, inl, inr, ◌∙◌}
use Rattle.std.proofs.lemmas.Result.{IfOk-weaker}
use Rattle.giop_types.specs.declared.interfaces.interface.Interface.{Interface}
use Rattle.giop_end.specs.declared.end.End.{End}
use Rattle.giop_session.specs.declared.laws.inputs.Answered.{Answered}
use Rattle.giop_session.specs.declared.laws.inputs.Answered.TheVariants as answer
use Rattle.giop_end.specs.declared.limits.Limits.{Limits}
use Rattle.giop_table.specs.declared.plan.Planned.{Planned}
use Rattle.giop_end.specs.declared.session_fault.SessionFault.{SessionFault}
use Rattle.giop_end.specs.declared.session_fault.SessionFault.TheVariants.{NoMemory}
use Rattle.giop_end.specs.Acts.Putting.{Puts}
use Rattle.giop_table.specs.CallTable.{Held}
use Rattle.giop_end.specs.Ends.View.{IsActedOn, IsDriven, state_of}
use Rattle.giop_end.specs.Hearing.Feeding.{Fed, standing, with_octets}
use Rattle.giop_end.specs.Hearing.Heard.{SideOf, hears, rules_at}
use Rattle.giop_session.specs.Runs.Driven.{Deed, EndRuns, Feeds, InTurn, IsDoneBy, IsGiven, IsGivenBy, PutsOut, answer_of}
use Rattle.giop_end.specs.Ends.Begun.{EndState, new_end}
use Rattle.giop_session.proofs.OnRuns.DrivenLemmas.{in_turn_seen, puts_given}

module _ {R E V A F I : Type 0} (side : Interface → SideOf R E V A F) (deed : Interface → Limits → Held R E → I → Deed V F) where
  -- an end is given an input, and all else of it stays
  abbrev IsGivenAt : End R E V A F → I → Answered E → End R E V A F → Type 0
  IsGivenAt e input answered t =
      IsGiven (side e.interface.now) (deed e.interface.now e.limits e.calls input) (state_of e) answered (state_of t) × IsDriven e t

  -- a new end of this interface and these limits keeps both, and runs as its view does
  pub run_seen : (interface : Interface) (limits : Limits) (rule : R) (e t : End R E V A F) (inputs : List I) (answers : List (Answered E))
      → e.interface.now ≡ interface → e.limits ≡ limits → state_of e ≡ new_end rule limits → InTurn IsGivenAt e inputs answers t
      → ((t.interface.now ≡ interface) × (t.limits ≡ limits))
      × EndRuns (side interface) (deed interface limits) (new_end rule limits) inputs answers (state_of t)
  run_seen interface limits rule e t inputs answers same within begun run =
      let seen = in_turn_seen IsGivenAt (λ s input answered t. IsGiven (side interface) (deed interface limits s.calls input) s answered t) state_of
      (λ (e : End R E V A F). (e.interface.now ≡ interface) × (e.limits ≡ limits))
      (λ before after input answered keeps given. (
        (ap (λ (e : End R E V A F). e.interface.now) given.1 ∙ keeps.0, ap (λ (e : End R E V A F). e.limits) given.1 ∙ keeps.1),
        subst (λ interface. IsGiven (side interface) (deed interface limits before.calls input) (state_of before) answered (state_of after)) keeps.0
            (subst (λ limits. IsGiven (side before.interface.now) (deed before.interface.now limits before.calls input) (state_of before) answered
            (state_of after)) keeps.1 given.0),
      ))
      e t inputs answers (same, within) run in (
        seen.0,
        subst (λ begun. EndRuns (side interface) (deed interface limits) begun inputs answers (state_of t)) begun seen.1,
      )

-- an act of an end's own program, by whose answer the input is answered, is that input done
pub acted_given : {R E V A F W : Type 0} (side : SideOf R E V A F) (e t : End R E V A F) (id : ℕ) (refusal : Option F)
    (Plans : Planned V → Type 0) (told : Result (Unit {0}) SessionFault) (result : Result (Answered E) W)
    → ((why : SessionFault) → e.fault ≡ Some why → (told ≡ Err why) × (t ≡ e))
    → (e.fault ≡ None → Puts (rules_at side e.calls.rule) side.of_rule id refusal Plans e.calls e.outgoing told t.calls t.outgoing)
    → IsActedOn e t → IfOk result (λ answered. (answered ≡ answer_of told) × (answered ≢ answer.Refused NoMemory))
    → IfOk result (λ answered. IsGiven side (PutsOut id refusal Plans) (state_of e) answered (state_of t) × IsDriven e t)
acted_given {R} {E} {V} {A} {F} side e t id refusal Plans told result failed puts others is =
    IfOk-weaker result _ _ (λ answered is. (
      puts_given side (state_of e) (state_of t) id refusal Plans told answered
          (λ why stands. let failed_so = failed why stands in (failed_so.0, ap state_of failed_so.1)) puts (ap state_of others) is,
      subst (λ (before : End R E V A F). t ≡ record e { framer = before.framer; calls = t.calls; outgoing = t.outgoing; fault = before.fault })
          (sym others) others,
    )) is

-- octets are fed to an end that continues: it answers so, and is never out of memory
pub record IsFedSo {R E V A F : Type 0} (side : SideOf R E V A F) (s : EndState (Held R E)) (octets : List ℕ) (t : EndState (Held R E))
    : Type 0 where
  pub sound : s.fault ≡ None
  pub result : Result (Unit {0}) SessionFault
  pub wanting : result ≢ Err NoMemory
  pub fed : Fed (hears side) (with_octets s.unread octets) s.calls result t.unread t.calls
  pub rest : t ≡ record s { unread = t.unread; calls = t.calls; fault = standing result }

-- an end that is given octets had failed, and stays, or is fed
pub fed_or_failed : {R E V A F : Type 0} (side : SideOf R E V A F) (s t : EndState (Held R E)) (octets : List ℕ) (answered : Answered E)
    → IsGiven side (Feeds octets) s answered t → ((why : SessionFault) × (s.fault ≡ Some why) × (t ≡ s)) ⊎ IsFedSo side s octets t
fed_or_failed {R} {E} side s t octets answered (memory, is) = by_fault s.fault refl is
  where
    same_fault : (fault : SessionFault) → ◌≡◌ {A = Result (Unit {0}) SessionFault} (Err fault) (Err NoMemory) → fault ≡ NoMemory
    same_fault fault is = cc

    by_answer : s.fault ≡ None → (one : Answered E) → (one ≢ answer.Refused NoMemory) → IsDoneBy side (Feeds octets) s one t → IsFedSo side s octets t
    by_answer sound answer.Done memory (is_fed, rest) =
        record { sound = sound; result = Ok tt; wanting = λ wrong. absurd cc; fed = is_fed; rest = rest }
    by_answer sound (answer.Refused why) memory (is_fed, rest) = record {
      sound = sound;
      result = Err why;
      wanting = λ wrong. memory (ap answer.Refused (same_fault why wrong));
      fed = is_fed;
      rest = rest;
    }
    by_answer sound (answer.Taken entry) memory done = absurd done

    by_fault : (fault : Option SessionFault) → s.fault ≡ fault → IsGivenBy side fault (Feeds octets) s answered t
        → ((why : SessionFault) × (s.fault ≡ Some why) × (t ≡ s)) ⊎ IsFedSo side s octets t
    by_fault (Some why) failed (refused, stays) = inl (why, failed, stays)
    by_fault None sound done = inr (by_answer sound answered memory done)
