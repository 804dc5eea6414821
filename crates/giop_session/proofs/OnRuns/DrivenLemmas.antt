-- Runs of inputs: one more; the same of a part of what is run; and those that refuse nothing as runs of acts.
use Rattle.std.proofs.Common.{◌≡◌, ◌≢◌, ℕ, List, [], ◌∷◌, ◌++◌, Option, Some, None, Result, Ok, Err, refl, sym, ap, subst, inl, inr}
use Rattle.giop_ids.specs.Runs.{Does as DoesAct}
use Rattle.giop_msg.specs.Stream.{Unread}
use Rattle.giop_mux.specs.Runs.{Hears as IsTold, IsTaken as IsTakenOut}
use Rattle.giop_session.specs.declared.laws.inputs.Answered.{Answered}
use Rattle.giop_session.specs.declared.laws.inputs.Answered.TheVariants as answer
use Rattle.giop_table.specs.declared.plan.Planned.{Planned}
use Rattle.giop_table.specs.Sending.{Sends}
use Rattle.giop_end.specs.declared.session_fault.SessionFault.{SessionFault}
use Rattle.giop_end.specs.declared.session_fault.SessionFault.TheVariants.{NoMemory}
use Rattle.giop_table.specs.declared.table_fault.TableFault.{TableFault}
use Rattle.giop_table.specs.CallTable.{Answers, Held, Hears, Nothing, event_reply}
use Rattle.giop_session.specs.Runs.Driven.{Closes, Deed, EndRuns, Feeds, InTurn, IsAct, IsDoneBy, IsGiven, IsGivenBy, NoneRefused, PutsOut, TakesAs, TakesOut, answer_of, taken_answer}
use Rattle.giop_end.specs.Ends.Begun.{EndState}
use Rattle.giop_session.specs.Runs.Events.{Accepts, Does as Happens}
use Rattle.giop_end.specs.Hearing.Heard.{result_of, SideOf, rules_at}
use Rattle.giop_session.specs.Runs.Inputs.{Does, Input, Reads, Takes}
use Rattle.giop_end.specs.Acts.Putting.{Puts}

module _ {S I A : Type 0} (Steps : S → I → A → S → Type 0) where
  -- a run and then one step is a run
  pub in_turn_more : (s mid t : S) (inputs : List I) (input : I) (answers : List A) (answered : A)
      → InTurn Steps s inputs answers mid → Steps mid input answered t
      → InTurn Steps s (inputs ++ input ∷ []) (answers ++ answered ∷ []) t
  in_turn_more s mid t [] input [] answered run step = (t, subst (λ from. Steps from input answered t) run step, refl)
  in_turn_more s mid t [] input (told ∷ answers) answered run step = absurd run
  in_turn_more s mid t (one ∷ inputs) input [] answered run step = absurd run
  in_turn_more s mid t (one ∷ inputs) input (told ∷ answers) answered (after, first, rest) step =
      (after, first, in_turn_more after mid t inputs input answers answered rest step)

-- what is run is seen in part, where each step is seen so while something stays
module _ {S T I A : Type 0} (Steps : S → I → A → S → Type 0) (Seen : T → I → A → T → Type 0) (view : S → T) (Keeps : S → Type 0)
    (seen : (s t : S) (input : I) (answered : A) → Keeps s → Steps s input answered t → Keeps t × Seen (view s) input answered (view t)) where
  pub in_turn_seen : (s t : S) (inputs : List I) (answers : List A) → Keeps s → InTurn Steps s inputs answers t
      → Keeps t × InTurn Seen (view s) inputs answers (view t)
  in_turn_seen s t [] [] keeps run = (subst Keeps (sym run) keeps, ap view run)
  in_turn_seen s t [] (told ∷ answers) keeps run = absurd run
  in_turn_seen s t (input ∷ inputs) [] keeps run = absurd run
  in_turn_seen s t (input ∷ inputs) (answered ∷ answers) keeps (mid, first, rest) =
      let one = seen s mid input answered keeps first in
      let others = in_turn_seen mid t inputs answers one.0 rest in
      (others.0, (view mid, one.1, others.1))

-- the first of answers of which none refuses
first_accepted : {E : Type 0} (answered : Answered E) (answers : List (Answered E)) → NoneRefused (answered ∷ answers) → NoneRefused (answered ∷ [])
first_accepted answer.Done answers none = tt
first_accepted (answer.Taken entry) answers none = tt
first_accepted (answer.Refused why) answers none = absurd none

rest_accepted : {E : Type 0} (answered : Answered E) (answers : List (Answered E)) → NoneRefused (answered ∷ answers) → NoneRefused answers
rest_accepted answer.Done answers none = none
rest_accepted (answer.Taken entry) answers none = none
rest_accepted (answer.Refused why) answers none = absurd none

module _ {R E V A F : Type 0} (side : SideOf R E V A F) where
  abbrev AcceptsOne : Held R E → ℕ → Planned V → Held R E → Type 0
  AcceptsOne h id planned k = Accepts side (Happens id (IsTold planned)) h k

  abbrev TakesAll : Unread → Held R E → List (Input V) → Unread → Held R E → Type 0
  TakesAll = Takes side

  -- what acted on a call is accepted, where the end tells so
  told_accepted : (h k : Held R E) (id : ℕ) (planned : Planned V) (answered : Result (Sends A) (TableFault F))
      → DoesAct (rules_at side h.rule) h (record { id = id; what = Hears planned Nothing }) (event_reply answered) k
      → Ok tt ≡ result_of (side.of_rule id) answered → AcceptsOne h id planned k
  told_accepted h k id planned (Ok sends) does told = (Answers sends, does)
  told_accepted h k id planned (Err why) does told = absurd cc

  puts_accepted : (h k : Held R E) (id : ℕ) (refusal : Option F) (Plans : Planned V → Type 0) (out out' : List ℕ)
      → Puts (rules_at side h.rule) side.of_rule id refusal Plans h out (Ok tt) k out'
      → (planned : Planned V) × Plans planned × AcceptsOne h id planned k
  puts_accepted h k id refusal Plans out out' (inl wanting) = let wrong = wanting.0 in absurd cc
  puts_accepted h k id (Some why) Plans out out' (inr refused) = let wrong = refused.0 in absurd cc
  puts_accepted h k id None Plans out out' (inr (planned, plans, on_call)) =
      (planned, plans, told_accepted h k id planned on_call.answered on_call.does on_call.returned)

  -- an input that is done is taken as an act
  done_taken : (deed : Deed V F) (s t : EndState (Held R E)) (answered : Answered E)
      → IsDoneBy side deed s answered t → NoneRefused (answered ∷ []) → t.fault ≡ None
      → (act : Input V) × IsAct deed act × (answered ≡ taken_answer s.calls act) × TakesAll s.unread s.calls (act ∷ []) t.unread t.calls
  done_taken deed s t (answer.Refused why) done none sound = absurd none
  done_taken (Feeds octets) s t answer.Done (fed, is) none sound = (Reads octets, refl, refl, (t.unread, t.calls, fed, (refl, refl)))
  done_taken (Feeds octets) s t (answer.Taken entry) done none sound = absurd done
  done_taken (PutsOut id refusal Plans) s t answer.Done (puts, is) none sound =
      let put = puts_accepted s.calls t.calls id refusal Plans s.outgoing t.outgoing puts in
      (Does id (IsTold put.0), (put.0, put.1, refl), refl, (t.calls, put.2, (ap (λ e. e.unread) is, refl)))
  done_taken (PutsOut id refusal Plans) s t (answer.Taken entry) done none sound = absurd done
  done_taken (TakesOut id) s t answer.Done done none sound = absurd done
  done_taken (TakesOut id) s t (answer.Taken entry) (gives, does, is) none sound =
      (Does id IsTakenOut, refl, ap answer.Taken gives, (t.calls, (_, does), (ap (λ e. e.unread) is, refl)))
  done_taken Closes s t answer.Done done none sound = let closed_it = ap (λ e. e.fault) done in absurd cc
  done_taken Closes s t (answer.Taken entry) done none sound = absurd done

  -- where it isn't refused no fault stands before it
  was_sound : (fault : Option SessionFault) (deed : Deed V F) (s t : EndState (Held R E)) (answered : Answered E)
      → IsGivenBy side fault deed s answered t → NoneRefused (answered ∷ []) → fault ≡ None
  was_sound None deed s t answered given none = refl
  was_sound (Some why) deed s t (answer.Refused told) given none = absurd none
  was_sound (Some why) deed s t answer.Done given none = let wrong = given.0 in absurd cc
  was_sound (Some why) deed s t (answer.Taken entry) given none = let wrong = given.0 in absurd cc

  -- a call of the end's own program that puts its message out is what its input says
  pub puts_given : (s t : EndState (Held R E)) (id : ℕ) (refusal : Option F) (Plans : Planned V → Type 0) (told : Result (Unit {0}) SessionFault)
      (answered : Answered E) → ((why : SessionFault) → s.fault ≡ Some why → (told ≡ Err why) × (t ≡ s))
      → (s.fault ≡ None → Puts (rules_at side s.calls.rule) side.of_rule id refusal Plans
      s.calls s.outgoing told t.calls t.outgoing)
      → t ≡ record s { calls = t.calls; outgoing = t.outgoing }
      → (answered ≡ answer_of told) × (answered ≢ answer.Refused NoMemory)
      → IsGiven side (PutsOut id refusal Plans) s answered t
  puts_given s t id refusal Plans told answered failed puts others (is, memory) = (
    memory,
    subst (λ a. IsGivenBy side s.fault (PutsOut id refusal Plans) s a t) (sym is) (by_fault s.fault refl),
  )
    where
      by_told : (result : Result (Unit {0}) SessionFault)
          → Puts (rules_at side s.calls.rule) side.of_rule id refusal Plans s.calls s.outgoing result t.calls t.outgoing
          → IsDoneBy side (PutsOut id refusal Plans) s (answer_of result) t
      by_told (Ok done) put = (put, others)
      by_told (Err why) put = (put, others)

      by_fault : (fault : Option SessionFault) → s.fault ≡ fault
          → IsGivenBy side fault (PutsOut id refusal Plans) s (answer_of told) t
      by_fault (Some why) stands = let failed_so = failed why stands in (ap answer_of failed_so.0, failed_so.1)
      by_fault None stands = by_told told (puts stands)

  module _ {I : Type 0} (deed : Held R E → I → Deed V F) where
    abbrev RunsSo : EndState (Held R E) → List I → List (Answered E) → EndState (Held R E) → Type 0
    RunsSo = EndRuns side deed

    stays_sound : (s t : EndState (Held R E)) (inputs : List I) (answers : List (Answered E)) → RunsSo s inputs answers t → NoneRefused answers
        → t.fault ≡ None → s.fault ≡ None
    stays_sound s t [] [] run none sound = subst (λ e. e.fault ≡ None) run sound
    stays_sound s t [] (answered ∷ answers) run none sound = absurd run
    stays_sound s t (input ∷ inputs) [] run none sound = absurd run
    stays_sound s t (input ∷ inputs) (answered ∷ answers) (mid, first, rest) none sound =
        was_sound s.fault (deed s.calls input) s mid answered first.1 (first_accepted answered answers none)

    abbrev TakesSo : Unread → Held R E → List I → List (Answered E) → List (Input V) → Unread → Held R E → Type 0
    TakesSo = TakesAs side deed

    -- a run that refuses nothing, and closes nothing, takes its inputs as acts
    pub run_taken : (s t : EndState (Held R E)) (inputs : List I) (answers : List (Answered E)) → RunsSo s inputs answers t → NoneRefused answers
        → t.fault ≡ None → (acts : List (Input V)) × TakesSo s.unread s.calls inputs answers acts t.unread t.calls
    run_taken s t [] [] run none sound = ([], (refl, ap (λ e. e.unread) run, ap (λ e. e.calls) run))
    run_taken s t [] (answered ∷ answers) run none sound = absurd run
    run_taken s t (input ∷ inputs) [] run none sound = absurd run
    run_taken s t (input ∷ inputs) (answered ∷ answers) (mid, first, rest) none sound =
        let one = first_accepted answered answers none in
        let others = rest_accepted answered answers none in
        let whole = was_sound s.fault (deed s.calls input) s mid answered first.1 one in
        let done = subst (λ fault. IsGivenBy side fault (deed s.calls input) s answered mid) whole first.1 in
        let first_act = done_taken (deed s.calls input) s mid answered done one (stays_sound mid t inputs answers rest others sound) in
        let behind = run_taken mid t inputs answers rest others sound in (
          first_act.0 ∷ behind.0,
          (first_act.0, behind.0, mid.unread, mid.calls, refl, first_act.1, first_act.2, first_act.3, behind.1),
        )

    -- one act, and then those behind it
    takes_behind : (unread mid left : Unread) (h calls k : Held R E) (act : Input V) (acts : List (Input V)) → TakesAll unread h (act ∷ []) mid calls
        → TakesAll mid calls acts left k → TakesAll unread h (act ∷ acts) left k
    takes_behind unread mid left h calls k (Reads octets) acts (mid', calls', fed, (same, alike)) behind =
        (mid', calls', fed, subst (λ c. TakesAll mid' c acts left k) alike (subst (λ u. TakesAll u calls acts left k) same behind))
    takes_behind unread mid left h calls k (Does id act) acts (calls', accepts, (same, alike)) behind =
        (calls', accepts, subst (λ c. TakesAll unread c acts left k) alike (subst (λ u. TakesAll u calls acts left k) same behind))

    -- what inputs are taken as is taken
    pub taken_takes : (unread left : Unread) (h k : Held R E) (inputs : List I) (answers : List (Answered E)) (acts : List (Input V))
        → TakesSo unread h inputs answers acts left k → TakesAll unread h acts left k
    taken_takes unread left h k [] [] acts (none, same, alike) = subst (λ a. TakesAll unread h a left k) (sym none) (same, alike)
    taken_takes unread left h k [] (answered ∷ answers) acts taken = absurd taken
    taken_takes unread left h k (input ∷ inputs) [] acts taken = absurd taken
    taken_takes unread left h k (input ∷ inputs) (answered ∷ answers) acts (act, rest, mid, calls, first, is, told, takes, behind) =
        subst (λ a. TakesAll unread h a left k) (sym first)
        (takes_behind unread mid left h calls k act rest takes (taken_takes mid left calls k inputs answers rest behind))
