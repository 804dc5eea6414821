-- What fits an end is refused nothing by it, and it comes of each call what comes of that call alone.
use Rattle.std.proofs.Common.{◌≡◌, ◌≢◌, ℕ, ◌==◌, All, Bool, true, false, cond, List, [], ◌∷◌, ◌++◌, append_assoc, append-nil, map, Option, Some, None, Result, Ok, Err, refl, sym, ap, subst, ◌∙◌, arith, inl, inr}
use Rattle.std.proofs.lemmas.Bool.Decides.{nat_tests}
use Rattle.std.specs.List.{AllByRecursion, flat_map}
use Rattle.giop_ids.proofs.Puts.{eq_itself}
use Rattle.giop_msg.specs.declared.msg.Msg.{Msg}
use Rattle.giop_msg.specs.Msg.{IsMessage, message_octets}
use Rattle.giop_msg.specs.RequestId.{request_id_of}
use Rattle.giop_msg.specs.Stream.{BeginsWithFault, Msgs, TakesMessages, Unread, Waits}
use Rattle.giop_msg.proofs.StreamLemmas.{each_head, each_one, each_tail, message_or_fault}
use Rattle.giop_session.specs.declared.laws.inputs.Answered.{Answered}
use Rattle.giop_session.specs.declared.laws.inputs.Answered.TheVariants as answer
use Rattle.giop_end.specs.declared.limits.Limits.{Limits}
use Rattle.giop_end.specs.declared.session_fault.SessionFault.{SessionFault}
use Rattle.giop_end.specs.declared.session_fault.SessionFault.TheVariants as session
use Rattle.giop_table.specs.CallTable.{Act, Call, Held, at}
use Rattle.giop_end.specs.Hearing.Feeding.{Fed, Stops, Through, with_octets, nothing_unread}
use Rattle.giop_end.specs.Hearing.Heard.{IsHeard, heard_by, SideOf, rules_at, hears}
use Rattle.giop_session.specs.Runs.Alone.{names_by}
use Rattle.giop_session.specs.Runs.Driven.{Closes, Deed, EndRuns, Feeds, IsDoneBy, IsGivenBy, NoneRefused, PutsOut, TakesOut, id_of, is_named, own_answers}
use Rattle.giop_end.specs.Ends.Begun.{EndState, new_end}
use Rattle.giop_session.specs.Runs.Fits.{only}
use Rattle.giop_session.specs.Runs.Met.{AreMet, Comes, Does, IsMet, IsOfCall, Met, Sorting, given_alone, own_met}
use Rattle.giop_session.specs.Runs.RunLimits.{IsForNoLimit, NoneForALimit}
use Rattle.giop_session.proofs.OnLimits.RunLimitLemmas.{front}
use Rattle.giop_session.proofs.OnRuns.AheadLemmas.{Ahead, IsOwn, IsPlannedOnce, RefusesOwn, all_behind, comes_ahead, does_ahead, never_refused, other_ahead}
use Rattle.giop_session.proofs.OnRuns.EventLemmas.{Changes, heard}
use Rattle.giop_session.proofs.OnRuns.InputLemmas.{same_taken, split}

-- an input is to an end what it is said to be: octets that are fed, or an act on the call of an id, or the close
abbrev pub IsDeedOf : {V F : Type 0} → Option (List ℕ) → Option ℕ → Deed V F → Type 0
IsDeedOf fed named (Feeds octets) = (fed ≡ Some octets) × (named ≡ None)
IsDeedOf fed named (PutsOut id refusal Plans) = (fed ≡ None) × (named ≡ Some id)
IsDeedOf fed named (TakesOut id) = (fed ≡ None) × (named ≡ Some id)
IsDeedOf fed named Closes = (fed ≡ None) × (named ≡ None)

pub deed_named : {V F : Type 0} (fed : Option (List ℕ)) (named : Option ℕ) (d : Deed V F) → IsDeedOf fed named d → id_of d ≡ named
deed_named fed named (Feeds octets) is = sym is.1
deed_named fed named (PutsOut id refusal Plans) is = sym is.1
deed_named fed named (TakesOut id) is = sym is.1
deed_named fed named Closes is = sym is.1

both_accepted : {E : Type 0} (answered : Answered E) (answers : List (Answered E)) → NoneRefused (answered ∷ []) → NoneRefused answers
    → NoneRefused (answered ∷ answers)
both_accepted answer.Done answers one others = others
both_accepted (answer.Taken entry) answers one others = others
both_accepted (answer.Refused why) answers one others = absurd one

-- an answer that refuses does so for a call's own sake, where it is for no limit and not for want of memory
own_only : {E : Type 0} (answered : Answered E) → IsForNoLimit answered → ◌≢◌ {A = Answered E} answered (answer.Refused session.NoMemory) → RefusesOwn answered
own_only answered free memory why is = (
  λ same. free.0 (is ∙ ap answer.Refused same),
  λ same. free.1 (is ∙ ap answer.Refused same),
  λ same. memory (is ∙ ap answer.Refused same),
)

-- what is said of one id alone is said of it
pub only_own : {X : Type 0} (id : ℕ) (said : List X) → only id said id ≡ said
only_own id said = ap (λ b. cond b said []) (eq_itself id)

module _ {R E V A F I : Type 0} (side : SideOf R E V A F)
    (message : ℕ) (deed : Held R E → I → Deed V F) (sorting : Sorting I)
    (deed_feeds : (h : Held R E) (octets : List ℕ) → deed h (sorting.feeds octets) ≡ Feeds octets)
    (same_deed : (h k : Held R E) (i : I) (id : ℕ) → sorting.named i ≡ Some id → at h id ≡ at k id → deed h i ≡ deed k i)
    (is_deed : (h : Held R E) (i : I) → IsDeedOf (sorting.fed i) (sorting.named i) (deed h i))
    (feeds_none : (octets : List ℕ) → sorting.named (sorting.feeds octets) ≡ None)
    (once : (h : Held R E) (i : I) → IsPlannedOnce (deed h i)) where
  pub about : (h : Held R E) (i : I) → id_of (deed h i) ≡ sorting.named i
  about h i = deed_named (sorting.fed i) (sorting.named i) (deed h i) (is_deed h i)

  abbrev IsAhead : Held R E → ℕ → List (Met I) → List (Answered E) → EndState (Held R E) → Type 0
  IsAhead = Ahead side message deed sorting feeds_none deed_feeds same_deed about once

  abbrev HearsSo : Msg → Held R E → Result (Unit {0}) SessionFault → Held R E → Type 0
  HearsSo = hears side

  abbrev ChangesSo : Held R E → ℕ → (Call E → Act V) → Held R E → Type 0
  ChangesSo = Changes side

  abbrev DoneSo : Deed V F → EndState (Held R E) → Answered E → EndState (Held R E) → Type 0
  DoneSo = IsDoneBy side

  abbrev OfCall : Met I → Type 0
  OfCall = IsOfCall sorting

  module _ (ends : ℕ → EndState (Held R E)) where
    -- each call is ahead, with these answers to come
    abbrev EachAhead : Held R E → List (Met I) → (ℕ → List (Answered E)) → Type 0
    EachAhead h met tolds = (q : ℕ) → IsAhead h q (own_met sorting q met) (tolds q) (ends q)

    -- ---- messages

    named_so : (m : Msg) (id q : ℕ) → request_id_of m ≡ Some (Ok id) → names_by (request_id_of m) q ≡ (q == id)
    named_so m id q name = ap (λ n. names_by n q) name

    -- a message that comes is of one call
    one_comes : (h k : Held R E) (m : Msg) (met : List (Met I)) (tolds : ℕ → List (Answered E)) → IsMessage message m → EachAhead h (Comes m ∷ met) tolds
        → HearsSo m h (Ok tt) k → EachAhead k met tolds
    one_comes h k m met tolds is each hears q = by_name (q == step.0) refl
      where
        step : (id : ℕ) × (request_id_of m ≡ Some (Ok id)) × ChangesSo h id (side.act_by m) k
        step = heard side m h k (side.breaks m) (request_id_of m) hears

        by_name : (own : Bool) → (q == step.0) ≡ own → IsAhead k q (own_met sorting q met) (tolds q) (ends q)
        by_name own is_own =
            let ahead = subst (λ b. IsAhead h q (cond b (Comes m ∷ own_met sorting q met) (own_met sorting q met)) (tolds q) (ends q))
            (named_so m step.0 q step.1 ∙ is_own) (each q) in
            by_own own is_own ahead
          where
            by_own : (own : Bool) → (q == step.0) ≡ own
                → IsAhead h q (cond own (Comes m ∷ own_met sorting q met) (own_met sorting q met)) (tolds q) (ends q)
                → IsAhead k q (own_met sorting q met) (tolds q) (ends q)
            by_own true it ahead =
                let to : step.0 ≡ q = grind (arith, nat_tests) in
                (comes_ahead side message deed sorting feeds_none deed_feeds same_deed about once
                h q m (own_met sorting q met) (tolds q) (ends q) is (step.1 ∙ ap (λ n. Some (Ok n)) to) ahead).2 k
                (subst (λ n. ChangesSo h n (side.act_by m) k) to step.2)
            by_own false it ahead =
                other_ahead side message deed sorting feeds_none deed_feeds same_deed about once
                h k step.0 q (side.act_by m) (own_met sorting q met) (tolds q) (ends q) step.2 it ahead

    each_comes : (messages : List Msg) (met : List (Met I)) (h k : Held R E) (tolds : ℕ → List (Answered E)) → All (IsMessage message) messages
        → EachAhead h (map Comes messages ++ met) tolds → Through HearsSo h messages k → EachAhead k met tolds
    each_comes [] met h k tolds are each through = subst (λ s. EachAhead s met tolds) (sym through) each
    each_comes (m ∷ messages) met h k tolds are each (mid, first, rest) =
        each_comes messages met mid k tolds (each_tail message m messages are)
        (one_comes h mid m (map Comes messages ++ met) tolds (each_head message m messages are) each first) rest

    -- one that is of a call is never refused for the call's own sake
    comes_never : (h k : Held R E) (m : Msg) (met : List (Met I)) (tolds : ℕ → List (Answered E)) (why : SessionFault) → IsMessage message m
        → OfCall (Comes m) → EachAhead h (Comes m ∷ met) tolds → IsOwn why → HearsSo m h (Err why) k → ⊥
    comes_never h k m met tolds why is (id, name) each own hears =
        let mine = named_so m id id name ∙ eq_itself id in
        let ahead = subst (λ b. IsAhead h id (cond b (Comes m ∷ own_met sorting id met) (own_met sorting id met)) (tolds id) (ends id)) mine (each id) in
        let ok = comes_ahead side message deed sorting feeds_none deed_feeds same_deed about once
        h id m (own_met sorting id met) (tolds id) (ends id) is name ahead in
        never_refused side m h k id why
        (subst (λ n. IsHeard (rules_at side h.rule) side.of_rule (heard_by None n (λ q. side.act_by m (at h q))) h (Err why) k) name
        (subst (λ b. IsHeard (rules_at side h.rule) side.of_rule (heard_by b (request_id_of m) (λ q. side.act_by m (at h q))) h (Err why) k)
        ok.0 hears)) ok.1 own

    all_of : (one other : List Msg) (met : List (Met I)) → AllByRecursion OfCall (map Comes (one ++ other) ++ met)
        → AllByRecursion OfCall (map Comes other ++ met)
    all_of [] other met all = all
    all_of (m ∷ one) other met all = all_of one other met all.1

    comes-append : (one other : List Msg) (met : List (Met I)) → map Comes (one ++ other) ++ met ≡ map Comes one ++ (map Comes other ++ met)
    comes-append [] other met = refl
    comes-append (m ∷ one) other met = ap (λ l. Comes m ∷ l) (comes-append one other met)

    -- ---- one input

    -- what is left behind one input
    record Goes (i : I) (answered : Answered E) (tolds : ℕ → List (Answered E)) (unread : Unread) (met : List (Met I)) (t : EndState (Held R E)) : Type 0 where
      accepted : NoneRefused (answered ∷ [])
      sound : t.fault ≡ None
      reads : t.unread ≡ unread
      limit : unread.limit ≡ message
      each : (q : ℕ) → (others : List (Answered E)) × (tolds q ≡ cond (is_named q (sorting.named i)) (answered ∷ others) others)
          × IsAhead t.calls q (own_met sorting q met) others (ends q)

    -- octets are fed
    module _ (s t : EndState (Held R E)) (octets : List ℕ) (messages : List Msg) (unread : Unread) (met : List (Met I)) (tolds : ℕ → List (Answered E))
        (of_limit : s.unread.limit ≡ message) (taken : TakesMessages (with_octets s.unread octets) messages unread) (waits : Waits unread)
        (of_calls : AllByRecursion OfCall (map Comes messages ++ met)) (each : EachAhead s.calls (map Comes messages ++ met) tolds) where
      stream : Msgs message (s.unread.octets ++ octets) messages unread.octets
      stream = subst (λ n. Msgs n (s.unread.octets ++ octets) messages unread.octets) of_limit (split (with_octets s.unread octets) unread messages taken waits)

      sized : (one : List Msg) → All (IsMessage s.unread.limit) one → All (IsMessage message) one
      sized one are = subst (λ n. All (IsMessage n) one) of_limit are

      fed_ok : (result_unread : Unread) (k : Held R E) → Fed HearsSo (with_octets s.unread octets) s.calls (Ok tt) result_unread k
          → (result_unread ≡ unread) × EachAhead k met tolds
      fed_ok result_unread k feeding =
          let same = same_taken (with_octets s.unread octets) feeding.rest unread feeding.messages messages feeding.taken feeding.stops.0 taken waits in (
            feeding.stops.1 ∙ same.1,
            each_comes messages met s.calls k tolds (sized messages taken.each) each (subst (λ ms. Through HearsSo s.calls ms k) same.0 feeding.heard),
          )

      -- what was heard stands in front of what was to come
      ahead_there : (k : Held R E) (one others : List Msg) → messages ≡ one ++ others → All (IsMessage message) one → Through HearsSo s.calls one k
          → EachAhead k (map Comes others ++ met) tolds × AllByRecursion OfCall (map Comes others ++ met)
      ahead_there k one others is are through = (
        each_comes one (map Comes others ++ met) s.calls k tolds are
            (subst (λ l. EachAhead s.calls l tolds) (ap (λ ms. map Comes ms ++ met) is ∙ comes-append one others met) each) through,
        all_of one others met (subst (λ ms. AllByRecursion OfCall (map Comes ms ++ met)) is of_calls),
      )

      no_fault : (rest : Unread) (others : List Msg) (e : _) → rest.limit ≡ message → Msgs message rest.octets others unread.octets
          → BeginsWithFault rest.limit rest.octets e → ⊥
      no_fault rest [] e limit stand begins =
          waits.no_fault e (subst (λ n. BeginsWithFault n unread.octets e) (limit ∙ sym (taken.limit ∙ of_limit))
          (subst (λ o. BeginsWithFault rest.limit o e) stand.whole begins))
      no_fault rest (m ∷ others) e limit stand begins =
          message_or_fault message rest.octets e (
            m,
            flat_map message_octets others ++ unread.octets,
            each_head message m others stand.each,
            stand.whole ∙ append_assoc (message_octets m) (flat_map message_octets others) unread.octets,
          )
          (subst (λ n. BeginsWithFault n rest.octets e) limit begins)

      fed_never : (result_unread : Unread) (k : Held R E) (why : SessionFault) → IsOwn why
          → Fed HearsSo (with_octets s.unread octets) s.calls (Err why) result_unread k → ⊥
      fed_never result_unread k why own feeding = by_stop feeding.stops
        where
          parts : (others : List Msg) × (messages ≡ feeding.messages ++ others) × Msgs message feeding.rest.octets others unread.octets
          parts = front message feeding.messages messages (s.unread.octets ++ octets) feeding.rest.octets unread.octets
              (sized feeding.messages feeding.taken.each)
              feeding.taken.octets stream

          limit : feeding.rest.limit ≡ message
          limit = feeding.taken.limit ∙ of_limit

          by_first : (m : Msg) (others : List Msg) → parts.0 ≡ m ∷ others → IsMessage message m → HearsSo m k (Err why) k → ⊥
          by_first m others is is_message hears =
              let there = ahead_there k feeding.messages parts.0 parts.1 (sized feeding.messages feeding.taken.each) feeding.heard in
              let each_so = subst (λ ms. EachAhead k (map Comes ms ++ met) tolds) is there.0 in
              let all_so = subst (λ ms. AllByRecursion OfCall (map Comes ms ++ met)) is there.1 in
              comes_never k k m (map Comes others ++ met) tolds why is_message all_so.0 each_so own hears

          by_stop : Stops HearsSo feeding.rest k (Err why) result_unread → ⊥
          by_stop (inl want) = own.2 want
          by_stop (inr (inl (e, begins, told, left_is))) = no_fault feeding.rest parts.0 e limit parts.2 begins
          by_stop (inr (inr (m, takes, hears))) =
              let is_message = subst (λ n. IsMessage n m) limit takes.is_message in
              let second = front message (m ∷ []) parts.0 feeding.rest.octets result_unread.octets unread.octets (each_one message m is_message)
              (takes.octets ∙ ap (λ o. o ++ result_unread.octets) (sym (append-nil (message_octets m)))) parts.2 in
              by_first m second.0 second.1 is_message hears

    fed_goes : (s t : EndState (Held R E)) (i : I) (octets : List ℕ) (answered : Answered E) (one : List (Met I)) (unread : Unread) (met : List (Met I))
        (tolds : ℕ → List (Answered E)) → sorting.named i ≡ None → s.unread.limit ≡ message → IsMet sorting s.unread i (Some octets) one unread
        → AllByRecursion OfCall (one ++ met) → EachAhead s.calls (one ++ met) tolds → RefusesOwn answered → DoneSo (Feeds octets) s answered t
        → Goes i answered tolds unread met t
    fed_goes s t i octets (answer.Taken entry) one unread met tolds named limit is of_calls each own done = absurd done
    fed_goes s t i octets (answer.Refused why) one unread met tolds named limit (messages, taken, waits, is) of_calls each own (feeding, is_t) =
        absurd (fed_never s t octets messages unread met tolds limit taken waits (subst (λ l. AllByRecursion OfCall (l ++ met)) is of_calls)
        (subst (λ l. EachAhead s.calls (l ++ met) tolds) is each) t.unread t.calls why (own why refl) feeding)
    fed_goes s t i octets answer.Done one unread met tolds named limit (messages, taken, waits, is) of_calls each own (feeding, is_t) =
        let fed_so = fed_ok s t octets messages unread met tolds limit taken waits (subst (λ l. AllByRecursion OfCall (l ++ met)) is of_calls)
        (subst (λ l. EachAhead s.calls (l ++ met) tolds) is each) t.unread t.calls feeding in
        record {
          accepted = tt;
          sound = ap (λ e. e.fault) is_t;
          reads = fed_so.0;
          limit = taken.limit ∙ limit;
          each = λ q. (tolds q, sym (ap (λ n. cond (is_named q n) (answer.Done ∷ tolds q) (tolds q)) named), fed_so.1 q);
        }

    -- the end's own program acts
    act_goes : (s t : EndState (Held R E)) (i : I) (id : ℕ) (answered : Answered E) (met : List (Met I)) (tolds : ℕ → List (Answered E))
        → sorting.named i ≡ Some id → s.fault ≡ None → s.unread.limit ≡ message → EachAhead s.calls (Does i ∷ met) tolds → RefusesOwn answered
        → DoneSo (deed s.calls i) s answered t → Goes i answered tolds s.unread met t
    act_goes s t i id answered met tolds name sound limit each own done = record {
      accepted = (does id name (mine id name (eq_itself id))).2;
      sound = (does id name (mine id name (eq_itself id))).3 ∙ sound;
      reads = (does id name (mine id name (eq_itself id))).4;
      limit = limit;
      each = λ q. by_name q (q == id) refl;
    }
      where
        mine : (q : ℕ) → sorting.named i ≡ Some id → (q == id) ≡ true → IsAhead s.calls q (Does i ∷ own_met sorting q met) (tolds q) (ends q)
        mine q is same =
            subst (λ b. IsAhead s.calls q (cond b (Does i ∷ own_met sorting q met) (own_met sorting q met)) (tolds q) (ends q))
            (ap (is_named q) is ∙ same) (each q)

        does : (q : ℕ) → sorting.named i ≡ Some q → IsAhead s.calls q (Does i ∷ own_met sorting q met) (tolds q) (ends q)
            → (others : List (Answered E)) × (tolds q ≡ answered ∷ others) × NoneRefused (answered ∷ []) × (t.fault ≡ s.fault) × (t.unread ≡ s.unread)
            × (act : Act V) × ChangesSo s.calls q (λ call. act) t.calls × IsAhead t.calls q (own_met sorting q met) others (ends q)
        does q is ahead = does_ahead side message deed sorting feeds_none deed_feeds same_deed about once
            s t q i (own_met sorting q met) (tolds q) (ends q) answered is ahead done own

        of_own : (q : ℕ) → is_named q (sorting.named i) ≡ true
            → (others : List (Answered E)) × (tolds q ≡ answered ∷ others) × NoneRefused (answered ∷ []) × (t.fault ≡ s.fault) × (t.unread ≡ s.unread)
            × (act : Act V) × ChangesSo s.calls q (λ call. act) t.calls × IsAhead t.calls q (own_met sorting q met) others (ends q)
            → (others : List (Answered E)) × (tolds q ≡ cond (is_named q (sorting.named i)) (answered ∷ others) others)
            × IsAhead t.calls q (own_met sorting q met) others (ends q)
        of_own q is (others, told, accepted, fault, unread, act, changed, ahead) =
            (others, told ∙ sym (ap (λ b. cond b (answered ∷ others) others) is), ahead)

        of_other : (q : ℕ) → is_named q (sorting.named i) ≡ false → (q == id) ≡ false
            → (others : List (Answered E)) × (tolds id ≡ answered ∷ others) × NoneRefused (answered ∷ []) × (t.fault ≡ s.fault) × (t.unread ≡ s.unread)
            × (act : Act V) × ChangesSo s.calls id (λ call. act) t.calls × IsAhead t.calls id (own_met sorting id met) others (ends id)
            → (others : List (Answered E)) × (tolds q ≡ cond (is_named q (sorting.named i)) (answered ∷ others) others)
            × IsAhead t.calls q (own_met sorting q met) others (ends q)
        of_other q is other (others, told, accepted, fault, unread, act, changed, behind) = (
          tolds q,
          sym (ap (λ b. cond b (answered ∷ tolds q) (tolds q)) is),
          other_ahead side message deed sorting feeds_none deed_feeds same_deed about once
              s.calls t.calls id q (λ call. act) (own_met sorting q met) (tolds q) (ends q) changed other
              (subst (λ b. IsAhead s.calls q (cond b (Does i ∷ own_met sorting q met) (own_met sorting q met)) (tolds q) (ends q)) is (each q)),
        )

        by_name : (q : ℕ) (own_one : Bool) → (q == id) ≡ own_one
            → (others : List (Answered E)) × (tolds q ≡ cond (is_named q (sorting.named i)) (answered ∷ others) others)
            × IsAhead t.calls q (own_met sorting q met) others (ends q)
        by_name q true is =
            let to : q ≡ id = grind (arith, nat_tests) in
            of_own q (ap (is_named q) name ∙ is) (does q (name ∙ ap Some (sym to)) (mine q name is))
        by_name q false is = of_other q (ap (is_named q) name ∙ is) is (does id name (mine id name (eq_itself id)))

    input_goes : (s t : EndState (Held R E)) (i : I) (answered : Answered E) (one : List (Met I)) (unread : Unread) (met : List (Met I))
        (tolds : ℕ → List (Answered E)) (fed : Option (List ℕ)) (d : Deed V F) → IsDeedOf fed (sorting.named i) d → deed s.calls i ≡ d
        → s.fault ≡ None → s.unread.limit ≡ message → IsMet sorting s.unread i fed one unread → AllByRecursion OfCall (one ++ met)
        → EachAhead s.calls (one ++ met) tolds → RefusesOwn answered → DoneSo d s answered t → Goes i answered tolds unread met t
    input_goes s t i answered one unread met tolds fed (Feeds octets) (is_fed, none) same sound limit is of_calls each own done =
        fed_goes s t i octets answered one unread met tolds none limit (subst (λ f. IsMet sorting s.unread i f one unread) is_fed is) of_calls each own done
    input_goes s t i answered one unread met tolds fed (PutsOut id refusal Plans) (is_fed, name) same sound limit is of_calls each own done =
        let alone = subst (λ f. IsMet sorting s.unread i f one unread) is_fed is in
        subst (λ u. Goes i answered tolds u met t) (sym alone.1)
        (act_goes s t i id answered met tolds name sound limit (subst (λ l. EachAhead s.calls (l ++ met) tolds) alone.0 each) own
        (subst (λ e. DoneSo e s answered t) (sym same) done))
    input_goes s t i answered one unread met tolds fed (TakesOut id) (is_fed, name) same sound limit is of_calls each own done =
        let alone = subst (λ f. IsMet sorting s.unread i f one unread) is_fed is in
        subst (λ u. Goes i answered tolds u met t) (sym alone.1)
        (act_goes s t i id answered met tolds name sound limit (subst (λ l. EachAhead s.calls (l ++ met) tolds) alone.0 each) own
        (subst (λ e. DoneSo e s answered t) (sym same) done))
    input_goes s t i answered one unread met tolds fed Closes (is_fed, none) same sound limit is of_calls each own done =
        let alone = subst (λ f. IsMet sorting s.unread i f one unread) is_fed is in
        let of_one = subst (λ l. AllByRecursion OfCall (l ++ met)) alone.0 of_calls in
        let name = of_one.0.1 in
        absurd cc

    -- ---- runs

    run_alone : (s t : EndState (Held R E)) (inputs : List I) (answers : List (Answered E)) (met : List (Met I)) (rest : Unread)
        (tolds : ℕ → List (Answered E)) → s.fault ≡ None → s.unread.limit ≡ message → AreMet sorting s.unread inputs met rest
        → AllByRecursion OfCall met → EachAhead s.calls met tolds → NoneForALimit answers
        → EndRuns side deed s inputs answers t
        → NoneRefused answers × (t.fault ≡ None)
        × ((q : ℕ) → (at t.calls q ≡ at (ends q).calls q) × (own_answers sorting.named q inputs answers ≡ tolds q))
    run_alone s t [] [] met rest tolds sound limit are of_calls each free run = (
      tt,
      ap (λ e. e.fault) run ∙ sound,
      λ q.
          let behind = all_behind side message deed sorting feeds_none deed_feeds same_deed about once
          s.calls q (tolds q) (ends q) (subst (λ l. IsAhead s.calls q (own_met sorting q l) (tolds q) (ends q)) are.0 (each q)) in
          (ap (λ e. at e.calls q) run ∙ behind.0, sym behind.1),
    )
    run_alone s t [] (answered ∷ answers) met rest tolds sound limit are of_calls each free run = absurd run
    run_alone s t (i ∷ inputs) [] met rest tolds sound limit are of_calls each free run = absurd run
    run_alone s t (i ∷ inputs) (answered ∷ answers) met rest tolds sound limit (one, others, unread, is_met, is_one, are) of_calls each free
        (mid, first, run) =
        let given = subst (λ fault. IsGivenBy side fault (deed s.calls i) s answered mid) sound first.1 in
        let goes = input_goes s mid i answered one unread others tolds (sorting.fed i) (deed s.calls i) (is_deed s.calls i) refl sound limit is_one
        (subst (AllByRecursion OfCall) is_met of_calls) (subst (λ l. EachAhead s.calls l tolds) is_met each)
        (own_only answered free.0 first.0) given in
        let behind = run_alone mid t inputs answers others rest (λ q. (goes.each q).0) goes.sound (ap (λ u. u.limit) goes.reads ∙ goes.limit)
        (subst (λ u. AreMet sorting u inputs others rest) (sym goes.reads) are)
        (behind_of one others (subst (AllByRecursion OfCall) is_met of_calls)) (λ q. (goes.each q).2) free.1 run in (
          both_accepted answered answers goes.accepted behind.0,
          behind.1,
          λ q.
              let told = own_answers sorting.named q inputs answers in (
                (behind.2 q).0,
                ap (λ l. cond (is_named q (sorting.named i)) (answered ∷ l) l) (behind.2 q).1 ∙ sym (goes.each q).1,
              ),
        )
      where
        behind_of : (one others : List (Met I)) → AllByRecursion OfCall (one ++ others) → AllByRecursion OfCall others
        behind_of [] others all = all
        behind_of (m ∷ one) others all = behind_of one others all.1

  -- a new end
  pub new_run_alone : (rule : R) (limits : Limits) (t : EndState (Held R E)) (inputs : List I) (answers : List (Answered E)) (met : List (Met I))
      (rest : Unread) (alone : ℕ → List (Answered E)) (ends : ℕ → EndState (Held R E)) → limits.message ≡ message
      → AreMet sorting (nothing_unread limits.message) inputs met rest → AllByRecursion OfCall met → NoneForALimit answers
      → ((q : ℕ) → EndRuns side deed (new_end rule limits) (given_alone sorting q met) (alone q) (ends q)
      × NoneRefused (alone q))
      → EndRuns side deed (new_end rule limits) inputs answers t
      → NoneRefused answers × (t.fault ≡ None)
      × ((q : ℕ) → (at t.calls q ≡ at (ends q).calls q)
      × (own_answers sorting.named q inputs answers ≡ own_answers sorting.named q (given_alone sorting q met) (alone q)))
  new_run_alone rule limits t inputs answers met rest alone ends limit are of_calls free each run =
      run_alone ends (new_end rule limits) t inputs answers met rest (λ q. own_answers sorting.named q (given_alone sorting q met) (alone q)) refl limit are
      of_calls (λ q. record {
        start = new_end rule limits;
        sound = refl;
        empty = ap nothing_unread limit;
        rule = refl;
        same = refl;
        answers = alone q;
        runs = (each q).0;
        none = (each q).1;
        told_is = refl;
      }) free run
