-- What feeding comes to is determined, unless an end is out of memory.
use Rattle.std.proofs.Common.{◌≡◌, ◌≢◌, ℕ, Bool, List, [], ◌∷◌, ◌++◌, Option, Some, None, Result, Ok, Err, refl, sym, ap, subst, ◌∙◌, append_assoc, inl, inr}
use Rattle.std.specs.List.{flat_map}
use Rattle.giop_ids.specs.Runs.{Does, Done, refusal_of, told}
use Rattle.giop_msg.specs.declared.msg.Msg.{Msg}
use Rattle.giop_msg.specs.Msg.{message_octets}
use Rattle.giop_msg.specs.Stream.{TakesMessage, TakesMessages, Unread, Waits}
use Rattle.giop_msg.proofs.StreamLemmas.{each_head, each_tail, fault_stands, message_or_fault, one_fault, same_message}
use Rattle.giop_mux.specs.declared.step.Step.{Step}
use Rattle.giop_end.specs.declared.session_fault.SessionFault.{SessionFault}
use Rattle.giop_end.specs.declared.session_fault.SessionFault.TheVariants.{NoMemory}
use Rattle.giop_end.specs.declared.session_fault.SessionFault.TheVariants as session
use Rattle.giop_table.specs.Sending.{Sends}
use Rattle.giop_table.specs.declared.table_fault.TableFault.{TableFault}
use Rattle.giop_table.specs.declared.table_fault.TableFault.TheVariants as table
use Rattle.giop_table.specs.CallTable.{Act, Call, Held, event_reply, rules_of}
use Rattle.giop_end.specs.Hearing.Feeding.{Fed, Stops, Through, standing, with_octets}
use Rattle.giop_end.specs.Hearing.Heard.{ActsOn, Breaks, Heard, IsHeard, IsHeardAs, hears_by, heard_of, result_of}
use Rattle.giop_end.specs.Pumping.{Feeds, State}
use Rattle.giop_end.proofs.OnHearing.FeedingLemmas.{fed_in_turn}

-- what is done isn't refused too
done_or_refused : {V Answer Why : Type 0} (d : Result (Done V Answer) Why) (answer : Answer) (why : Why)
    → told d ≡ Ok answer → refusal_of d ≡ Some why → ⊥
done_or_refused (Ok done) answer why is found = cc
done_or_refused (Err fault) answer why is found = cc

module _ {R E V A F : Type 0} (next : R → Option E → V → Step E A F) (closed : R → E → Bool) (gathering : E → Bool)
    (of_rule : ℕ → F → SessionFault) where
  -- an act is answered in one way, and leaves one thing
  acted_same : (rule : R) (h k k' : Held R E) (id : ℕ) (act : Act V) (one other : Result (Sends A) (TableFault F))
      → one ≢ Err table.NoMemory → other ≢ Err table.NoMemory
      → Does (rules_of (next rule) (closed rule) gathering) h (record { id = id; what = act }) (event_reply one) k
      → Does (rules_of (next rule) (closed rule) gathering) h (record { id = id; what = act }) (event_reply other) k'
      → (one ≡ other) × (k ≡ k')
  acted_same rule h k k' id act (Ok sends) (Ok sends') there there' does does' =
      let said = sym does.answer ∙ does'.answer in
      (cc, does.leaves ∙ sym does'.leaves)
  acted_same rule h k k' id act (Ok sends) (Err why) there there' does does' = elim does'.refusal [
    | inl found ↦ absurd (done_or_refused _ _ why does.answer found)
    | inr want ↦ absurd (there' (ap Err want.0))
  ]
  acted_same rule h k k' id act (Err why) (Ok sends) there there' does does' = elim does.refusal [
    | inl found ↦ absurd (done_or_refused _ _ why does'.answer found)
    | inr want ↦ absurd (there (ap Err want.0))
  ]
  acted_same rule h k k' id act (Err why) (Err why') there there' does does' = elim does.refusal [
    | inl found ↦ elim does'.refusal [
      | inl found' ↦ let said = sym found ∙ found' in (cc, does.leaves ∙ sym does'.leaves)
      | inr want ↦ absurd (there' (ap Err want.0))
    ]
    | inr want ↦ absurd (there (ap Err want.0))
  ]

  -- an end that isn't out of memory got an answer that isn't
  told_there : (id : ℕ) (one : Result (Sends A) (TableFault F)) (result : Result (Unit {0}) SessionFault)
      → result ≡ result_of (of_rule id) one → result ≢ Err NoMemory → one ≢ Err table.NoMemory
  told_there id one result is there want = there (is ∙ ap (result_of (of_rule id)) want)

  -- what is heard is answered in one way, and leaves one thing
  heard_as_same : (rule : R) (heard : Heard V) (h k k' : Held R E) (one other : Result (Unit {0}) SessionFault)
      → one ≢ Err NoMemory → other ≢ Err NoMemory
      → IsHeardAs (rules_of (next rule) (closed rule) gathering) of_rule heard h one k
      → IsHeardAs (rules_of (next rule) (closed rule) gathering) of_rule heard h other k'
      → (one ≡ other) × (k ≡ k')
  heard_as_same rule (Breaks why) h k k' one other there there' is is' = (is.0 ∙ sym is'.0, is.1 ∙ sym is'.1)
  heard_as_same rule (ActsOn id act) h k k' one other there there' is is' =
      let same = acted_same rule h k k' id act is.0 is'.0 (told_there id is.0 one is.2 there)
      (told_there id is'.0 other is'.2 there') is.1 is'.1 in
      (is.2 ∙ ap (result_of (of_rule id)) same.0 ∙ sym is'.2, same.1)

  heard_same : (rule : R) (heard : Heard V) (h k k' : Held R E) (one other : Result (Unit {0}) SessionFault)
      → one ≢ Err NoMemory → other ≢ Err NoMemory
      → IsHeard (rules_of (next rule) (closed rule) gathering) of_rule heard h one k
      → IsHeard (rules_of (next rule) (closed rule) gathering) of_rule heard h other k'
      → (one ≡ other) × (k ≡ k')
  heard_same rule heard h k k' one other there there' (inl both) is' = absurd (there both.0)
  heard_same rule heard h k k' one other there there' (inr is) (inl both) = absurd (there' both.0)
  heard_same rule heard h k k' one other there there' (inr is) (inr is') =
      heard_as_same rule heard h k k' one other there there' is is'

  pub hears_same : (breaks : Msg → Option SessionFault) (act_by : Msg → Call E → Act V) (m : Msg) (h k k' : Held R E)
      (one other : Result (Unit {0}) SessionFault) → one ≢ Err NoMemory → other ≢ Err NoMemory
      → hears_by next closed gathering of_rule breaks act_by m h one k
      → hears_by next closed gathering of_rule breaks act_by m h other k' → (one ≡ other) × (k ≡ k')
  hears_same breaks act_by m h k k' one other there there' is is' =
      heard_same h.rule (heard_of breaks act_by h m) h k k' one other there there' is is'

-- one message at most is taken from the front
takes_same : (unread left left' : Unread) (m n : Msg) → TakesMessage unread m left → TakesMessage unread n left' → (m ≡ n) × (left ≡ left')
takes_same unread left left' m n one other =
    let same = same_message unread.limit m n left.octets left'.octets one.is_message other.is_message (sym one.octets ∙ other.octets) in
    let limits = one.limit ∙ sym other.limit in
    (same.0, (λ i. record { limit = limits i; octets = same.1 i }))

-- the first of messages is taken, and then the others
pub record TakesFirst (unread : Unread) (m : Msg) (messages : List Msg) (rest : Unread) : Type 0 where
  pub mid : Unread
  pub first : TakesMessage unread m mid
  pub others : TakesMessages mid messages rest

takes_first : (unread rest : Unread) (m : Msg) (messages : List Msg) → TakesMessages unread (m ∷ messages) rest → TakesFirst unread m messages rest
takes_first unread rest m messages taken = record {
  mid = record { limit = unread.limit; octets = flat_map message_octets messages ++ rest.octets };
  first = record {
    is_message = each_head unread.limit m messages taken.each;
    octets = taken.octets ∙ append_assoc (message_octets m) (flat_map message_octets messages) rest.octets;
    limit = refl;
  };
  others = record { each = each_tail unread.limit m messages taken.each; octets = refl; limit = taken.limit };
}

-- where no message is taken, all is left
none_taken : (unread rest : Unread) → TakesMessages unread [] rest → rest ≡ unread
none_taken unread rest taken = let octets = sym taken.octets in λ i. record { limit = taken.limit i; octets = octets i }

-- a message that is taken stands in front
waits_or_takes : (unread left : Unread) (m : Msg) → Waits unread → TakesMessage unread m left → ⊥
waits_or_takes unread left m waits takes = waits.no_message (m, left.octets, takes.is_message, takes.octets)

module _ {S : Type 0} (Hears : Msg → S → Result (Unit {0}) SessionFault → S → Type 0)
    (one_way : (m : Msg) (h k k' : S) (one other : Result (Unit {0}) SessionFault) → one ≢ Err NoMemory → other ≢ Err NoMemory
    → Hears m h one k → Hears m h other k' → (one ≡ other) × (k ≡ k')) where
  -- an end stops for one reason
  stops_same : (unread left left' : Unread) (k : S) (one other : Result (Unit {0}) SessionFault) → one ≢ Err NoMemory → other ≢ Err NoMemory
      → Stops Hears unread k one left → Stops Hears unread k other left' → (one ≡ other) × (left ≡ left')
  stops_same unread left left' k (Ok done) (Ok done') there there' is is' = (refl, is.1 ∙ sym is'.1)
  stops_same unread left left' k (Ok done) (Err why) there there' is (inl want) = absurd (there' (ap Err want))
  stops_same unread left left' k (Ok done) (Err why) there there' is (inr (inl (e, stands, told, same))) = absurd (is.0.no_fault e stands)
  stops_same unread left left' k (Ok done) (Err why) there there' is (inr (inr (m, takes, hears))) =
      absurd (waits_or_takes unread left' m is.0 takes)
  stops_same unread left left' k (Err why) (Ok done) there there' (inl want) is' = absurd (there (ap Err want))
  stops_same unread left left' k (Err why) (Ok done) there there' (inr (inl (e, stands, told, same))) is' = absurd (is'.0.no_fault e stands)
  stops_same unread left left' k (Err why) (Ok done) there there' (inr (inr (m, takes, hears))) is' =
      absurd (waits_or_takes unread left m is'.0 takes)
  stops_same unread left left' k (Err why) (Err why') there there' (inl want) is' = absurd (there (ap Err want))
  stops_same unread left left' k (Err why) (Err why') there there' (inr is) (inl want) = absurd (there' (ap Err want))
  stops_same unread left left' k (Err why) (Err why') there there' (inr (inl (e, stands, told, same))) (inr (inl (e', stands', told', same'))) =
      let fault = one_fault unread.limit unread.octets e e' stands stands' in
      (ap Err (told ∙ ap session.Wire fault ∙ sym told'), same ∙ sym same')
  stops_same unread left left' k (Err why) (Err why') there there' (inr (inl (e, stands, told, same))) (inr (inr (m, takes, hears))) =
      absurd (message_or_fault unread.limit unread.octets e (m, left'.octets, takes.is_message, takes.octets) stands)
  stops_same unread left left' k (Err why) (Err why') there there' (inr (inr (m, takes, hears))) (inr (inl (e, stands, told, same))) =
      absurd (message_or_fault unread.limit unread.octets e (m, left.octets, takes.is_message, takes.octets) stands)
  stops_same unread left left' k (Err why) (Err why') there there' (inr (inr (m, takes, hears))) (inr (inr (n, takes', hears'))) =
      let same = takes_same unread left left' m n takes takes' in
      let again = subst (λ n. Hears n k (Err why') k) (sym same.0) hears' in
      ((one_way m k k k (Err why) (Err why') there there' hears again).0, same.1)

  -- and where it stops it doesn't hear the message in front
  stops_or_goes : (unread left mid : Unread) (m : Msg) (h k : S) (result : Result (Unit {0}) SessionFault) → result ≢ Err NoMemory
      → Stops Hears unread h result left → TakesMessage unread m mid → Hears m h (Ok tt) k → ⊥
  stops_or_goes unread left mid m h k (Ok done) there is takes hears = waits_or_takes unread mid m is.0 takes
  stops_or_goes unread left mid m h k (Err why) there (inl want) takes hears = there (ap Err want)
  stops_or_goes unread left mid m h k (Err why) there (inr (inl (e, stands, told, same))) takes hears =
      message_or_fault unread.limit unread.octets e (m, mid.octets, takes.is_message, takes.octets) stands
  stops_or_goes unread left mid m h k (Err why) there (inr (inr (n, takes', refused))) takes hears =
      let same = takes_same unread mid left m n takes takes' in
      let again = subst (λ n. Hears n h (Err why) h) (sym same.0) refused in
      let said = (one_way m h k h (Ok tt) (Err why) (λ want. cc) there hears again).0 in
      cc

  stops_there : (unread rest left : Unread) (h k : S) (result : Result (Unit {0}) SessionFault) → TakesMessages unread [] rest → k ≡ h
      → Stops Hears rest k result left → Stops Hears unread h result left
  stops_there unread rest left h k result taken same stops =
      subst (λ u. Stops Hears u h result left) (none_taken unread rest taken) (subst (λ s. Stops Hears rest s result left) same stops)

  run_same : (messages messages' : List Msg) (unread rest rest' left left' : Unread) (h k k' : S) (one other : Result (Unit {0}) SessionFault)
      → one ≢ Err NoMemory → other ≢ Err NoMemory
      → TakesMessages unread messages rest → Through Hears h messages k → Stops Hears rest k one left
      → TakesMessages unread messages' rest' → Through Hears h messages' k' → Stops Hears rest' k' other left'
      → (one ≡ other) × (left ≡ left') × (k ≡ k')
  run_same [] [] unread rest rest' left left' h k k' one other there there' taken through stops taken' through' stops' =
      let same = stops_same unread left left' h one other there there' (stops_there unread rest left h k one taken through stops)
      (stops_there unread rest' left' h k' other taken' through' stops') in
      (same.0, same.1, through ∙ sym through')
  run_same [] (n ∷ messages') unread rest rest' left left' h k k' one other there there' taken through stops taken' through' stops' =
      let first = takes_first unread rest' n messages' taken' in
      absurd (stops_or_goes unread left first.mid n h through'.0 one there (stops_there unread rest left h k one taken through stops)
      first.first through'.1)
  run_same (m ∷ messages) [] unread rest rest' left left' h k k' one other there there' taken through stops taken' through' stops' =
      let first = takes_first unread rest m messages taken in
      absurd (stops_or_goes unread left' first.mid m h through.0 other there' (stops_there unread rest' left' h k' other taken' through' stops')
      first.first through.1)
  run_same (m ∷ messages) (n ∷ messages') unread rest rest' left left' h k k' one other there there' taken through stops taken' through' stops' =
      let first = takes_first unread rest m messages taken in
      let first' = takes_first unread rest' n messages' taken' in
      let same = takes_same unread first.mid first'.mid m n first.first first'.first in
      let again = subst (λ n. Hears n h (Ok tt) through'.0) (sym same.0) through'.1 in
      let mid = (one_way m h through.0 through'.0 (Ok tt) (Ok tt) (λ want. cc) (λ want. cc) through.1 again).1 in
      run_same messages messages' first.mid rest rest' left left' through.0 k k' one other there there' first.others through.2 stops
      (subst (λ u. TakesMessages u messages' rest') (sym same.1) first'.others)
      (subst (λ s. Through Hears s messages' k') (sym mid) through'.2) stops'

  -- octets that are fed come to one thing
  pub fed_same : (unread left left' : Unread) (h k k' : S) (one other : Result (Unit {0}) SessionFault) → one ≢ Err NoMemory → other ≢ Err NoMemory
      → Fed Hears unread h one left k → Fed Hears unread h other left' k' → (one ≡ other) × (left ≡ left') × (k ≡ k')
  fed_same unread left left' h k k' one other there there' fed fed' =
      run_same fed.messages fed'.messages unread fed.rest fed'.rest left left' h k k' one other there there'
      fed.taken fed.heard fed.stops fed'.taken fed'.heard fed'.stops

  -- a fault stands however many octets follow, and these are left behind what was left
  fed_on : (unread left : Unread) (h k : S) (more : List ℕ) (why : SessionFault) → Fed Hears unread h (Err why) left k
      → Fed Hears (with_octets unread more) h (Err why) (with_octets left more) k
  fed_on unread left h k more why fed = record {
    messages = fed.messages;
    rest = with_octets fed.rest more;
    taken = record {
      each = fed.taken.each;
      octets = ap (λ octets. octets ++ more) fed.taken.octets
          ∙ append_assoc (flat_map message_octets fed.messages) fed.rest.octets more;
      limit = fed.taken.limit;
    };
    heard = fed.heard;
    stops = stops fed.stops;
  }
    where
      stops : Stops Hears fed.rest k (Err why) left → Stops Hears (with_octets fed.rest more) k (Err why) (with_octets left more)
      stops (inl want) = inl want
      stops (inr (inl (e, stands, told, same))) =
          inr (inl (e, fault_stands fed.rest.limit fed.rest.octets more e stands, told, ap (λ u. with_octets u more) same))
      stops (inr (inr (m, takes, hears))) = inr (inr (
        m,
        record {
          is_message = takes.is_message;
          octets = ap (λ octets. octets ++ more) takes.octets ∙ append_assoc (message_octets m) left.octets more;
          limit = takes.limit;
        },
        hears,
      ))

  -- octets behind octets are both
  at_once : (unread : Unread) (octets more : List ℕ) → with_octets (with_octets unread octets) more ≡ with_octets unread (octets ++ more)
  at_once unread octets more =
      let both = append_assoc unread.octets octets more in λ i. record { limit = unread.limit; octets = both i }

  -- an end that refuses nothing hadn't failed
  standing_none : (s t : State S) (octets : List ℕ) → Feeds Hears s octets (Ok tt) t → s.fault ≡ None
  standing_none s t octets feeds = elim s.fault as (λ fault. s.fault ≡ fault → fault ≡ None) [
    | None ↦ λ is. refl
    | Some why ↦ λ is. let said = (feeds.failed why is).0 in cc
  ] refl

  pub in_two_reads : (s mid t u : State S) (octets more : List ℕ) (second both : Result (Unit {0}) SessionFault)
      → second ≢ Err NoMemory → both ≢ Err NoMemory
      → Feeds Hears s octets (Ok tt) mid → Feeds Hears mid more second t → Feeds Hears s (octets ++ more) both u
      → (both ≡ second) × (u ≡ t)
  in_two_reads s mid t u octets more second both there there' first then whole =
      let new = standing_none s mid octets first in
      let on = first.stands new in
      let turns = fed_in_turn Hears (with_octets s.unread octets) mid.unread t.unread s.calls mid.calls t.calls more second
      (first.fed new) (then.fed on) in
      let once = subst (λ unread. Fed Hears unread s.calls second t.unread t.calls) (at_once s.unread octets more) turns in
      let same = fed_same (with_octets s.unread (octets ++ more)) u.unread t.unread s.calls u.calls t.calls both second there' there
      (whole.fed new) once in
      let faults = whole.stands new ∙ ap standing same.0 ∙ sym (then.stands on) in
      (same.0, (λ i. record { unread = same.1 i; calls = same.2 i; fault = faults i }))

  pub behind_a_fault : (s mid t u : State S) (octets more : List ℕ) (why : SessionFault) (second both : Result (Unit {0}) SessionFault)
      → s.fault ≡ None → why ≢ NoMemory → both ≢ Err NoMemory
      → Feeds Hears s octets (Err why) mid → Feeds Hears mid more second t → Feeds Hears s (octets ++ more) both u
      → (second ≡ Err why) × (t ≡ mid) × (both ≡ Err why) × (u ≡ record mid { unread = with_octets mid.unread more })
  behind_a_fault s mid t u octets more why second both new there there' first then whole =
      let refused = then.failed why (first.stands new) in
      let on = fed_on (with_octets s.unread octets) mid.unread s.calls mid.calls more why (first.fed new) in
      let once = subst (λ unread. Fed Hears unread s.calls (Err why) (with_octets mid.unread more) mid.calls)
      (at_once s.unread octets more) on in
      let same = fed_same (with_octets s.unread (octets ++ more)) u.unread (with_octets mid.unread more) s.calls u.calls mid.calls
      both (Err why) there' (λ want. there cc) (whole.fed new) once in
      let faults = whole.stands new ∙ ap standing same.0 ∙ sym (first.stands new) in
      (refused.0, refused.1, same.0, (λ i. record { unread = same.1 i; calls = same.2 i; fault = faults i }))
