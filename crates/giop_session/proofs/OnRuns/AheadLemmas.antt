-- An end that is given many calls holds of each what an end holds that is given that call alone: message by message, and act by act.
use Rattle.std.proofs.Common.{◌≡◌, ◌≢◌, ℕ, ◌==◌, false, cond, List, [], ◌∷◌, ◌++◌, append-nil, map, Option, Some, None, Result, Ok, Err, IsOk, refl, sym, ap, subst, ◌∙◌, arith, inl, inr}
use Rattle.giop_cdr.specs.declared.fault.CdrFault.{CdrFault}
use Rattle.giop_ids.specs.Runs.{Does as DoesAct, RefusedAs, left, refusal_of, within}
use Rattle.giop_ids.proofs.Puts.{eq_itself}
use Rattle.giop_msg.specs.declared.msg.Msg.{Msg}
use Rattle.giop_msg.specs.Msg.{IsMessage, message_octets}
use Rattle.giop_msg.specs.RequestId.{request_id_of}
use Rattle.giop_msg.specs.Stream.{TakesMessages}
use Rattle.giop_msg.proofs.FramerLemmas.{waits_for_header}
use Rattle.giop_msg.proofs.StreamLemmas.{each_one}
use Rattle.giop_session.specs.declared.laws.inputs.Answered.{Answered}
use Rattle.giop_session.specs.declared.laws.inputs.Answered.TheVariants as answer
use Rattle.giop_table.specs.declared.plan.Planned.{Planned}
use Rattle.giop_end.specs.declared.session_fault.SessionFault.{SessionFault}
use Rattle.giop_end.specs.declared.session_fault.SessionFault.TheVariants as session
use Rattle.giop_table.specs.declared.table_fault.TableFault.{TableFault}
use Rattle.giop_table.specs.declared.table_fault.TableFault.TheVariants.{Rule, TooManyCalls, GatherFull, StillOpen, NoMemory}
use Rattle.giop_end.specs.Acts.Putting.{Puts}
use Rattle.giop_table.specs.CallTable.{Act, Call, Held, Hears, IsTaken, Nothing, Turned, at, event_reply, is_of_call, limit, taken}
use Rattle.giop_table.specs.Sending.{Sends, entry_of}
use Rattle.giop_end.specs.Ends.SessionFaults.{of_table}
use Rattle.giop_end.specs.Hearing.Feeding.{Fed, Through, with_octets, nothing_unread}
use Rattle.giop_end.specs.Hearing.Heard.{IsHeard, heard_by, result_of, SideOf, turn_at, rules_at, hears}
use Rattle.giop_session.specs.Runs.Driven.{Closes, Deed, EndRuns, Feeds, IsDoneBy, IsGivenBy, NoneRefused, PutsOut, TakesOut, id_of, is_named, own_answers}
use Rattle.giop_end.specs.Ends.Begun.{EndState}
use Rattle.giop_session.specs.Runs.Met.{Comes, Does, Met, Sorting, given_as}
use Rattle.giop_table.proofs.TableLemmas.{told_apart}
use Rattle.giop_session.proofs.OnRuns.EventLemmas.{Changes, changes, heard}
use Rattle.giop_session.proofs.OnRuns.InputLemmas.{same_taken}

-- a refusal that is a call's own: it is for no limit, and not for want of memory
abbrev pub IsOwn : SessionFault → Type 0
IsOwn why = (why ≢ session.TooManyCalls) × (why ≢ session.GatherFull) × (why ≢ session.NoMemory)

-- and an answer, where it refuses
abbrev pub RefusesOwn : {E : Type 0} → Answered E → Type 0
RefusesOwn {E} answered = (why : SessionFault) → ◌≡◌ {A = Answered E} answered (answer.Refused why) → IsOwn why

-- what an act of a program is planned to be is one thing
abbrev pub IsPlannedOnce : {V F : Type 0} → Deed V F → Type 0
IsPlannedOnce {V = V} (PutsOut id refusal Plans) = (one other : Planned V) → Plans one → Plans other → one ≡ other
IsPlannedOnce deed = Unit {0}

-- one message that is fed whole
one_whole : (message : ℕ) (m : Msg) → IsMessage message m
    → TakesMessages (with_octets (nothing_unread message) (message_octets m)) (m ∷ []) (nothing_unread message)
one_whole message m is = record {
  each = each_one message m is;
  octets = sym (append-nil (message_octets m ++ []) ∙ append-nil (message_octets m));
  limit = refl;
}

-- the first of answers of which none refuses, and the others
pub one_accepted : {E : Type 0} (answered : Answered E) (answers : List (Answered E)) → NoneRefused (answered ∷ answers) → NoneRefused (answered ∷ [])
one_accepted answer.Done answers none = tt
one_accepted (answer.Taken entry) answers none = tt
one_accepted (answer.Refused why) answers none = absurd none

pub others_accepted : {E : Type 0} (answered : Answered E) (answers : List (Answered E)) → NoneRefused (answered ∷ answers) → NoneRefused answers
others_accepted answer.Done answers none = none
others_accepted (answer.Taken entry) answers none = none
others_accepted (answer.Refused why) answers none = absurd none

module _ {R E V A F : Type 0} (side : SideOf R E V A F) where
  abbrev turn_by : R → Call E → Act V → Turned E A F
  turn_by rule = turn_at side rule

  abbrev after : R → Call E → (Call E → Act V) → Call E
  after rule call act = left call (turn_by rule call (act call))

  abbrev HearsSo : Msg → Held R E → Result (Unit {0}) SessionFault → Held R E → Type 0
  HearsSo = hears side

  abbrev ChangesSo : Held R E → ℕ → (Call E → Act V) → Held R E → Type 0
  ChangesSo = Changes side

  abbrev DoneSo : Deed V F → EndState (Held R E) → Answered E → EndState (Held R E) → Type 0
  DoneSo = IsDoneBy side

  abbrev DoesSo : Held R E → ℕ → Planned V → Result (Sends A) (TableFault F) → Held R E → Type 0
  DoesSo h id planned answered k =
      DoesAct (rules_at side h.rule) h (record { id = id; what = Hears planned Nothing }) (event_reply answered) k

  -- ---- refusals

  -- what a call's own rule takes is refused for a limit or for want of memory alone
  whole_refuses : (over : Option (TableFault F)) (done : Turned E A F) (fault : TableFault F) → IsOk done
      → ((why : TableFault F) → over ≡ Some why → is_of_call why ≡ false)
      → RefusedAs NoMemory fault (refusal_of (within over done)) → is_of_call fault ≡ false
  whole_refuses None (Ok done) fault ok limits (inl found) = absurd cc
  whole_refuses None (Ok done) fault ok limits (inr both) = ap is_of_call both.0
  whole_refuses (Some why) (Ok done) fault ok limits (inl found) = let same : why ≡ fault = cc in limits fault (ap Some same)
  whole_refuses (Some why) (Ok done) fault ok limits (inr both) = let none = both.1 in absurd cc
  whole_refuses over (Err why) fault ok limits refused = absurd cc

  table_refuses : (h k : Held R E) (id : ℕ) (act : Act V) (fault : TableFault F) → IsOk (turn_by h.rule (at h id) act)
      → DoesAct (rules_at side h.rule) h (record { id = id; what = act }) (Err fault) k → is_of_call fault ≡ false
  table_refuses h k id act fault ok does =
      whole_refuses (limit (side.next h.rule) (side.closed h.rule) side.gathering h id act) (turn_by h.rule (at h id) act) fault ok
      (λ why is. (told_apart (side.next h.rule) (side.closed h.rule) side.gathering).limits h (record { id = id; what = act }) why is) does.refusal

  not_own : (id : ℕ) (fault : TableFault F) → is_of_call fault ≡ false → IsOwn (of_table (side.of_rule id) fault) → ⊥
  not_own id (Rule fault) is own = absurd cc
  not_own id StillOpen is own = absurd cc
  not_own id TooManyCalls is own = own.0 refl
  not_own id GatherFull is own = own.1 refl
  not_own id NoMemory is own = own.2 refl

  -- a message that its call takes is not refused for the call's own sake
  pub never_refused : (m : Msg) (h k : Held R E) (id : ℕ) (why : SessionFault)
      → IsHeard (rules_at side h.rule) side.of_rule (heard_by None (Some (Ok id)) (λ q. side.act_by m (at h q))) h (Err why) k
      → IsOk (turn_by h.rule (at h id) (side.act_by m (at h id))) → IsOwn why → ⊥
  never_refused m h k id why (inl both) ok own = let want = both.0 in let is : why ≡ session.NoMemory = cc in own.2 is
  never_refused m h k id why (inr (Ok sends, does, is)) ok own = absurd cc
  never_refused m h k id why (inr (Err fault, does, is)) ok own =
      let told : why ≡ of_table (side.of_rule id) fault = cc in
      not_own id fault (table_refuses h k id (side.act_by m (at h id)) fault ok does) (subst IsOwn told own)

  -- a message that is heard ends no session
  unbroken : (broken : Option SessionFault) (m : Msg) (name : Option (Result ℕ CdrFault)) (h k : Held R E)
      → IsHeard (rules_at side h.rule) side.of_rule (heard_by broken name (λ q. side.act_by m (at h q))) h (Ok tt) k → broken ≡ None
  unbroken broken m name h k (inl both) = absurd cc
  unbroken None m name h k (inr is) = refl
  unbroken (Some why) m name h k (inr both) = absurd cc

  -- ---- what changes

  pub changed_own : (h k : Held R E) (id : ℕ) (act : Call E → Act V) → ChangesSo h id act k → at k id ≡ after h.rule (at h id) act
  changed_own h k id act there = there.calls id ∙ ap (λ b. cond b (after h.rule (at h id) act) (at h id)) (eq_itself id)

  pub changed_other : (h k : Held R E) (id q : ℕ) (act : Call E → Act V) → ChangesSo h id act k → (q == id) ≡ false → at k q ≡ at h q
  changed_other h k id q act there other = there.calls q ∙ ap (λ b. cond b (after h.rule (at h q) act) (at h q)) other

  -- the same of two ends that held the same
  changed_alike : (h k h' k' : Held R E) (id : ℕ) (act : Call E → Act V) → ChangesSo h id act k → ChangesSo h' id act k'
      → h.rule ≡ h'.rule → at h id ≡ at h' id → at k id ≡ at k' id
  changed_alike h k h' k' id act one other rule same =
      changed_own h k id act one ∙ ap (λ r. after r (at h id) act) rule ∙ ap (λ call. after h'.rule call act) same ∙ sym (changed_own h' k' id act other)

  accepted_alike : (rule rule' : R) (call call' : Call E) (act : Call E → Act V) → rule ≡ rule' → call ≡ call'
      → IsOk (turn_by rule call (act call)) → IsOk (turn_by rule' call' (act call'))
  accepted_alike rule rule' call call' act one other ok =
      subst (λ r. IsOk (turn_by r call' (act call'))) one (subst (λ c. IsOk (turn_by rule c (act c))) other ok)

  -- ---- an act of a program, at two ends that hold the same of its call

  -- it puts out what is planned, where it isn't refused
  put_done : (h k : Held R E) (id : ℕ) (refusal : Option F) (Plans : Planned V → Type 0) (out out' : List ℕ)
      → Puts (rules_at side h.rule) side.of_rule id refusal Plans h out (Ok tt) k out'
      → (refusal ≡ None) × ((planned : Planned V) × Plans planned × ChangesSo h id (λ call. Hears planned Nothing) k)
  put_done h k id refusal Plans out out' (inl wanting) = let wrong = wanting.0 in absurd cc
  put_done h k id (Some why) Plans out out' (inr refused) = let wrong = refused.0 in absurd cc
  put_done h k id None Plans out out' (inr (planned, plans, on_call)) =
      (refl, (planned, plans, by_answer on_call.answered on_call.does on_call.returned))
    where
      by_answer : (answered : Result (Sends A) (TableFault F)) → DoesSo h id planned answered k → Ok tt ≡ result_of (side.of_rule id) answered
          → ChangesSo h id (λ call. Hears planned Nothing) k
      by_answer (Ok sends) does told = changes side h k id (λ call. Hears planned Nothing) _ does
      by_answer (Err why) does told = absurd cc

  -- it is refused for no sake of its own, where its call takes what is planned
  put_refused : (h k : Held R E) (id : ℕ) (refusal : Option F) (Plans : Planned V → Type 0) (out out' : List ℕ) (why : SessionFault) (planned : Planned V)
      → refusal ≡ None → ((one other : Planned V) → Plans one → Plans other → one ≡ other) → Plans planned
      → IsOk (turn_by h.rule (at h id) (Hears planned Nothing)) → IsOwn why
      → Puts (rules_at side h.rule) side.of_rule id refusal Plans h out (Err why) k out' → ⊥
  put_refused h k id refusal Plans out out' why planned none once plans ok own (inl wanting) =
      let want = wanting.0 in let is : why ≡ session.NoMemory = cc in own.2 is
  put_refused h k id (Some fault) Plans out out' why planned none once plans ok own (inr refused) = absurd cc
  put_refused h k id None Plans out out' why planned none once plans ok own (inr (other, planned_so, on_call)) =
      by_answer on_call.answered on_call.does on_call.returned
    where
      ok_there : IsOk (turn_by h.rule (at h id) (Hears other Nothing))
      ok_there = subst (λ p. IsOk (turn_by h.rule (at h id) (Hears p Nothing))) (once planned other plans planned_so) ok

      by_answer : (answered : Result (Sends A) (TableFault F)) → DoesSo h id other answered k → Err why ≡ result_of (side.of_rule id) answered → ⊥
      by_answer (Ok sends) does told = absurd cc
      by_answer (Err fault) does told =
          let is : why ≡ of_table (side.of_rule id) fault = cc in
          not_own id fault (table_refuses h k id (Hears other Nothing) fault ok_there does) (subst IsOwn is own)

  -- what both do then: they answer the same, and change the same
  pub record Alike (id : ℕ) (s t s' t' : EndState (Held R E)) (given answered : Answered E) : Type 0 where
    pub told : given ≡ answered
    pub fault : t.fault ≡ s.fault
    pub unread : t.unread ≡ s.unread
    pub fault' : t'.fault ≡ s'.fault
    pub unread' : t'.unread ≡ s'.unread
    pub act : Act V
    pub changed : ChangesSo s.calls id (λ call. act) t.calls
    pub changed' : ChangesSo s'.calls id (λ call. act) t'.calls

  put_alike : (id : ℕ) (refusal : Option F) (Plans : Planned V → Type 0) (s t s' t' : EndState (Held R E)) (given answered : Answered E)
      → ((one other : Planned V) → Plans one → Plans other → one ≡ other) → s'.calls.rule ≡ s.calls.rule → at s'.calls id ≡ at s.calls id
      → DoneSo (PutsOut id refusal Plans) s' answered t' → NoneRefused (answered ∷ []) → DoneSo (PutsOut id refusal Plans) s given t → RefusesOwn given
      → Alike id s t s' t' given answered
  put_alike id refusal Plans s t s' t' given (answer.Refused why) once rule same alone none done own = absurd none
  put_alike id refusal Plans s t s' t' given (answer.Taken entry) once rule same alone none done own = absurd alone
  put_alike id refusal Plans s t s' t' (answer.Taken entry) answer.Done once rule same alone none done own = absurd done
  put_alike id refusal Plans s t s' t' answer.Done answer.Done once rule same (puts', is') none (puts, is) own =
      let one = put_done s'.calls t'.calls id refusal Plans s'.outgoing t'.outgoing puts' in
      let other = put_done s.calls t.calls id refusal Plans s.outgoing t.outgoing puts in
      let plan = once other.1.0 one.1.0 other.1.1 one.1.1 in
      record {
        told = refl;
        fault = ap (λ e. e.fault) is;
        unread = ap (λ e. e.unread) is;
        fault' = ap (λ e. e.fault) is';
        unread' = ap (λ e. e.unread) is';
        act = Hears one.1.0 Nothing;
        changed = subst (λ p. ChangesSo s.calls id (λ call. Hears p Nothing) t.calls) plan other.1.2;
        changed' = one.1.2;
      }
  put_alike id refusal Plans s t s' t' (answer.Refused why) answer.Done once rule same (puts', is') none (puts, is) own =
      let one = put_done s'.calls t'.calls id refusal Plans s'.outgoing t'.outgoing puts' in
      absurd (put_refused s.calls t.calls id refusal Plans s.outgoing t.outgoing why one.1.0 one.0 once one.1.1
      (accepted_alike s'.calls.rule s.calls.rule (at s'.calls id) (at s.calls id) (λ call. Hears one.1.0 Nothing) rule same one.1.2.accepted)
      (own why refl) puts)

  take_alike : (id : ℕ) (s t s' t' : EndState (Held R E)) (given answered : Answered E) → s'.calls.rule ≡ s.calls.rule
      → at s'.calls id ≡ at s.calls id → DoneSo (TakesOut id) s' answered t' → NoneRefused (answered ∷ []) → DoneSo (TakesOut id) s given t
      → Alike id s t s' t' given answered
  take_alike id s t s' t' given (answer.Refused why) rule same alone none done = absurd none
  take_alike id s t s' t' given answer.Done rule same alone none done = absurd alone
  take_alike id s t s' t' answer.Done (answer.Taken entry) rule same alone none done = absurd done
  take_alike id s t s' t' (answer.Taken entry) (answer.Taken entry') rule same (gives', does', is') none (gives, does, is) = record {
    told = ap answer.Taken (gives ∙ ap (λ call. entry_of call.slot) (sym same) ∙ sym gives');
    fault = ap (λ e. e.fault) is;
    unread = ap (λ e. e.unread) is;
    fault' = ap (λ e. e.fault) is';
    unread' = ap (λ e. e.unread) is';
    act = IsTaken;
    changed = changes side s.calls t.calls id (λ call. IsTaken) _ does;
    changed' = changes side s'.calls t'.calls id (λ call. IsTaken) _ does';
  }
  take_alike id s t s' t' (answer.Refused why) (answer.Taken entry') rule same (gives', does', is') none (wanting, still, is) =
      let taken_there = changes side s'.calls t'.calls id (λ call. IsTaken) _ does' in
      let ok = accepted_alike s'.calls.rule s.calls.rule (at s'.calls id) (at s.calls id) (λ call. IsTaken) rule same taken_there.accepted in
      let wrong = subst (λ over. IsOk (taken {A = A} {F = F} over (at s.calls id))) still ok in
      absurd cc

  done_alike : (d : Deed V F) (id : ℕ) (s t s' t' : EndState (Held R E)) (given answered : Answered E) → id_of d ≡ Some id → IsPlannedOnce d
      → s'.calls.rule ≡ s.calls.rule → at s'.calls id ≡ at s.calls id → DoneSo d s' answered t' → NoneRefused (answered ∷ []) → DoneSo d s given t
      → RefusesOwn given → Alike id s t s' t' given answered
  done_alike (Feeds octets) id s t s' t' given answered about once rule same alone none done own = absurd cc
  done_alike Closes id s t s' t' given answered about once rule same alone none done own = absurd cc
  done_alike (PutsOut named refusal Plans) id s t s' t' given answered about once rule same alone none done own =
      let is : named ≡ id = cc in
      subst (λ q. Alike q s t s' t' given answered) is
      (put_alike named refusal Plans s t s' t' given answered once rule (subst (λ q. at s'.calls q ≡ at s.calls q) (sym is) same) alone none done own)
  done_alike (TakesOut named) id s t s' t' given answered about once rule same alone none done own =
      let is : named ≡ id = cc in
      subst (λ q. Alike q s t s' t' given answered) is
      (take_alike named s t s' t' given answered rule (subst (λ q. at s'.calls q ≡ at s.calls q) (sym is) same) alone none done)

  -- ---- a message that is fed whole, and nothing else

  fed_one : (message : ℕ) (m : Msg) (s t : EndState (Held R E)) → IsMessage message m → s.unread ≡ nothing_unread message
      → Fed HearsSo (with_octets s.unread (message_octets m)) s.calls (Ok tt) t.unread t.calls
      → HearsSo m s.calls (Ok tt) t.calls × (t.unread ≡ nothing_unread message)
  fed_one message m s t is empty feeding =
      let fed_so = subst (λ u. Fed HearsSo (with_octets u (message_octets m)) s.calls (Ok tt) t.unread t.calls) empty feeding in
      let same = same_taken (with_octets (nothing_unread message) (message_octets m)) fed_so.rest (nothing_unread message) fed_so.messages (m ∷ [])
      fed_so.taken fed_so.stops.0 (one_whole message m is) (waits_for_header message [] (omega arith)) in
      by_messages fed_so.messages same.0 fed_so.heard (fed_so.stops.1 ∙ same.1)
    where
      by_messages : (messages : List Msg) → messages ≡ m ∷ [] → Through HearsSo s.calls messages t.calls → t.unread ≡ nothing_unread message
          → HearsSo m s.calls (Ok tt) t.calls × (t.unread ≡ nothing_unread message)
      by_messages messages is_one through unread =
          let one = subst (λ ms. Through HearsSo s.calls ms t.calls) is_one through in
          (subst (λ k. HearsSo m s.calls (Ok tt) k) (sym one.2) one.1, unread)

  module _ {I : Type 0} (message : ℕ) (deed : Held R E → I → Deed V F) (sorting : Sorting I)
      (feeds_none : (octets : List ℕ) → sorting.named (sorting.feeds octets) ≡ None)
      (deed_feeds : (h : Held R E) (octets : List ℕ) → deed h (sorting.feeds octets) ≡ Feeds octets)
      (same_deed : (h k : Held R E) (i : I) (id : ℕ) → sorting.named i ≡ Some id → at h id ≡ at k id → deed h i ≡ deed k i)
      (about : (h : Held R E) (i : I) → id_of (deed h i) ≡ sorting.named i)
      (once : (h : Held R E) (i : I) → IsPlannedOnce (deed h i)) where
    abbrev RunsSo : EndState (Held R E) → List I → List (Answered E) → EndState (Held R E) → Type 0
    RunsSo = EndRuns side deed

    abbrev GivenSo : Option SessionFault → Deed V F → EndState (Held R E) → Answered E → EndState (Held R E) → Type 0
    GivenSo = IsGivenBy side

    -- an end that is given one call alone holds of it the same, and takes what is still to come of it with these answers
    pub record Ahead (h : Held R E) (id : ℕ) (own : List (Met I)) (told : List (Answered E)) (end : EndState (Held R E)) : Type 0 where
      pub start : EndState (Held R E)
      pub sound : start.fault ≡ None
      pub empty : start.unread ≡ nothing_unread message
      pub rule : start.calls.rule ≡ h.rule
      pub same : at start.calls id ≡ at h id
      pub answers : List (Answered E)
      pub runs : RunsSo start (map (given_as sorting) own) answers end
      pub none : NoneRefused answers
      pub told_is : own_answers sorting.named id (map (given_as sorting) own) answers ≡ told

    -- what changes for one id changes nothing for another
    pub other_ahead : (h k : Held R E) (id q : ℕ) (act : Call E → Act V) (own : List (Met I)) (told : List (Answered E)) (end : EndState (Held R E))
        → ChangesSo h id act k → (q == id) ≡ false → Ahead h q own told end → Ahead k q own told end
    other_ahead h k id q act own told end there other ahead = record {
      start = ahead.start;
      sound = ahead.sound;
      empty = ahead.empty;
      rule = ahead.rule ∙ sym there.rule_stays;
      same = ahead.same ∙ sym (changed_other h k id q act there other);
      answers = ahead.answers;
      runs = ahead.runs;
      none = ahead.none;
      told_is = ahead.told_is;
    }

    -- nothing is to come
    pub all_behind : (h : Held R E) (id : ℕ) (told : List (Answered E)) (end : EndState (Held R E)) → Ahead h id [] told end
        → (at h id ≡ at end.calls id) × (told ≡ [])
    all_behind h id told end ahead = by_answers ahead.answers ahead.runs ahead.told_is
      where
        by_answers : (answers : List (Answered E)) → RunsSo ahead.start [] answers end → own_answers sorting.named id [] answers ≡ told
            → (at h id ≡ at end.calls id) × (told ≡ [])
        by_answers [] run is = (sym ahead.same ∙ sym (ap (λ e. at e.calls id) run), sym is)
        by_answers (answered ∷ answers) run is = absurd run

    -- a message is to come: its call takes it, and what that leaves is the same
    pub comes_ahead : (h : Held R E) (id : ℕ) (m : Msg) (own : List (Met I)) (told : List (Answered E)) (end : EndState (Held R E))
        → IsMessage message m → request_id_of m ≡ Some (Ok id) → Ahead h id (Comes m ∷ own) told end
        → (side.breaks m ≡ None) × IsOk (turn_by h.rule (at h id) (side.act_by m (at h id)))
        × ((k : Held R E) → ChangesSo h id (side.act_by m) k → Ahead k id own told end)
    comes_ahead h id m own told end is name ahead = by_answers ahead.answers ahead.runs ahead.none ahead.told_is
      where
        Goal : Type 0
        Goal = (side.breaks m ≡ None) × IsOk (turn_by h.rule (at h id) (side.act_by m (at h id)))
            × ((k : Held R E) → ChangesSo h id (side.act_by m) k → Ahead k id own told end)

        by_given : (answered : Answered E) (answers : List (Answered E)) (mid : EndState (Held R E))
            → DoneSo (Feeds (message_octets m)) ahead.start answered mid → RunsSo mid (map (given_as sorting) own) answers end
            → NoneRefused (answered ∷ answers)
            → own_answers sorting.named id (map (given_as sorting) (Comes m ∷ own)) (answered ∷ answers) ≡ told → Goal
        by_given (answer.Refused why) answers mid done runs none is_told = absurd none
        by_given (answer.Taken entry) answers mid done runs none is_told = absurd done
        by_given answer.Done answers mid (feeding, is_mid) runs none is_told =
            let one = fed_one message m ahead.start mid is ahead.empty feeding in
            let step = heard side m ahead.start.calls mid.calls (side.breaks m) (request_id_of m) one.0 in
            let names_it = sym step.1 ∙ name in
            let same_id : step.0 ≡ id = cc in
            let there = subst (λ q. ChangesSo ahead.start.calls q (side.act_by m) mid.calls) same_id step.2 in (
              unbroken (side.breaks m) m (request_id_of m) ahead.start.calls mid.calls one.0,
              accepted_alike ahead.start.calls.rule h.rule (at ahead.start.calls id) (at h id) (side.act_by m) ahead.rule ahead.same there.accepted,
              λ k here. record {
                start = mid;
                sound = ap (λ e. e.fault) is_mid;
                empty = one.1;
                rule = there.rule_stays ∙ ahead.rule ∙ sym here.rule_stays;
                same = changed_alike ahead.start.calls mid.calls h k id (side.act_by m) there here ahead.rule ahead.same;
                answers = answers;
                runs = runs;
                none = none;
                told_is =
                    let own_told = own_answers sorting.named id (map (given_as sorting) own) answers in
                    sym (ap (λ n. cond (is_named id n) (answer.Done ∷ own_told) own_told) (feeds_none (message_octets m))) ∙ is_told;
              },
            )

        by_answers : (answers : List (Answered E)) → RunsSo ahead.start (map (given_as sorting) (Comes m ∷ own)) answers end → NoneRefused answers
            → own_answers sorting.named id (map (given_as sorting) (Comes m ∷ own)) answers ≡ told → Goal
        by_answers [] run none is_told = absurd run
        by_answers (answered ∷ answers) (mid, given, runs) none is_told =
            by_given answered answers mid
            (subst (λ fault. GivenSo fault (Feeds (message_octets m)) ahead.start answered mid) ahead.sound
            (subst (λ d. GivenSo ahead.start.fault d ahead.start answered mid) (deed_feeds ahead.start.calls (message_octets m)) given.1))
            runs none is_told

    -- an act is to come: both ends do the same, and answer the same
    pub does_ahead : (s t : EndState (Held R E)) (id : ℕ) (i : I) (own : List (Met I)) (told : List (Answered E)) (end : EndState (Held R E))
        (given : Answered E) → sorting.named i ≡ Some id → Ahead s.calls id (Does i ∷ own) told end → DoneSo (deed s.calls i) s given t → RefusesOwn given
        → (others : List (Answered E)) × (told ≡ given ∷ others) × NoneRefused (given ∷ []) × (t.fault ≡ s.fault) × (t.unread ≡ s.unread)
        × (act : Act V) × ChangesSo s.calls id (λ call. act) t.calls × Ahead t.calls id own others end
    does_ahead s t id i own told end given name ahead done refuses = by_answers ahead.answers ahead.runs ahead.none ahead.told_is
      where
        Goal : Type 0
        Goal = (others : List (Answered E)) × (told ≡ given ∷ others) × NoneRefused (given ∷ []) × (t.fault ≡ s.fault) × (t.unread ≡ s.unread)
            × (act : Act V) × ChangesSo s.calls id (λ call. act) t.calls × Ahead t.calls id own others end

        by_given : (answered : Answered E) (answers : List (Answered E)) (mid : EndState (Held R E)) → DoneSo (deed s.calls i) ahead.start answered mid
            → RunsSo mid (map (given_as sorting) own) answers end → NoneRefused (answered ∷ answers)
            → own_answers sorting.named id (map (given_as sorting) (Does i ∷ own)) (answered ∷ answers) ≡ told → Goal
        by_given answered answers mid alone runs none is_told =
            let first = one_accepted answered answers none in
            let same = done_alike (deed s.calls i) id s t ahead.start mid given answered (about s.calls i ∙ name) (once s.calls i) ahead.rule ahead.same
            alone first done refuses in
            let others = own_answers sorting.named id (map (given_as sorting) own) answers in (
              others,
              sym is_told ∙ ap (λ n. cond (is_named id n) (answered ∷ others) others) name ∙ ap (λ b. cond b (answered ∷ others) others) (eq_itself id)
                  ∙ ap (λ a. a ∷ others) (sym same.told),
              subst (λ a. NoneRefused (a ∷ [])) (sym same.told) first,
              same.fault,
              same.unread,
              same.act,
              same.changed,
              record {
                start = mid;
                sound = same.fault' ∙ ahead.sound;
                empty = same.unread' ∙ ahead.empty;
                rule = same.changed'.rule_stays ∙ ahead.rule ∙ sym same.changed.rule_stays;
                same = changed_alike ahead.start.calls mid.calls s.calls t.calls id (λ call. same.act) same.changed' same.changed ahead.rule ahead.same;
                answers = answers;
                runs = runs;
                none = others_accepted answered answers none;
                told_is = refl;
              },
            )

        by_answers : (answers : List (Answered E)) → RunsSo ahead.start (map (given_as sorting) (Does i ∷ own)) answers end → NoneRefused answers
            → own_answers sorting.named id (map (given_as sorting) (Does i ∷ own)) answers ≡ told → Goal
        by_answers [] run none is_told = absurd run
        by_answers (answered ∷ answers) (mid, first, runs) none is_told =
            by_given answered answers mid
            (subst (λ fault. GivenSo fault (deed s.calls i) ahead.start answered mid) ahead.sound
            (subst (λ d. GivenSo ahead.start.fault d ahead.start answered mid) (same_deed ahead.start.calls s.calls i id name ahead.same) first.1))
            runs none is_told
