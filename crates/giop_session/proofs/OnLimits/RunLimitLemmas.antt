-- A run whose inputs are within the limits of its end meets none.
use Rattle.std.proofs.Common.{◌≡◌, ℕ, ◌+◌, ◌≤◌, ◌&&◌, ◌||◌, All, Bool, true, false, List, [], ◌∷◌, ◌++◌, append_assoc, append-nil, length, sum_by, Option, Some, None, is_some, Result, Ok, Err, refl, sym, ap, subst, ◌∙◌, arith, inl, inr}
use Rattle.std.proofs.lemmas.List.Sums.{sum_by-cons}
use Rattle.std.specs.List.{flat_map, list_any}
use Rattle.giop_ids.specs.ById.{is_listed}
use Rattle.giop_ids.specs.Runs.{Does as DoesAct}
use Rattle.giop_msg.specs.declared.kind.Kind.{Kind}
use Rattle.giop_msg.specs.declared.msg.Msg.{Msg}
use Rattle.giop_msg.specs.Msg.{IsMessage, message_octets}
use Rattle.giop_msg.specs.RequestId.{request_id_of}
use Rattle.giop_msg.specs.Stream.{BeginsWithMessage, Msgs, Unread}
use Rattle.giop_msg.proofs.StreamLemmas.{each_head, each_one, each_tail, same_message}
use Rattle.giop_session.specs.declared.laws.inputs.Answered.{Answered}
use Rattle.giop_session.specs.declared.laws.inputs.Answered.TheVariants as answer
use Rattle.giop_end.specs.declared.limits.Limits.{Limits}
use Rattle.giop_table.specs.declared.plan.Planned.{Planned}
use Rattle.giop_table.specs.Sending.{Sends}
use Rattle.giop_end.specs.declared.session_fault.SessionFault.{SessionFault}
use Rattle.giop_end.specs.declared.session_fault.SessionFault.TheVariants as session
use Rattle.giop_table.specs.declared.table_fault.TableFault.{TableFault}
use Rattle.giop_session.specs.Runs.Alone.{names}
use Rattle.giop_table.specs.CallTable.{Call, Held, Hears, IsTaken, Nothing, event_reply}
use Rattle.giop_session.specs.Runs.Driven.{Closes, Deed, EndRuns, Feeds, IsDoneBy, IsGiven, IsGivenBy, PutsOut, TakesOut}
use Rattle.giop_end.specs.Ends.Begun.{EndState, new_end}
use Rattle.giop_end.specs.Hearing.Feeding.{Fed, Stops, Through, standing, with_octets}
use Rattle.giop_end.specs.Hearing.Heard.{result_of, SideOf, rules_at, hears}
use Rattle.giop_session.specs.Runs.Limits.{octets_with}
use Rattle.giop_end.specs.Acts.Putting.{Puts}
use Rattle.giop_session.specs.Runs.RunLimits.{IsForNoLimit, NoneForALimit}
use Rattle.giop_end.specs.Ends.SessionFaults.{of_table}
use Rattle.giop_session.proofs.OnLimits.LimitLemmas.{Fits, IsSmall, IsUnlimited, fits_then, heard_fits, heard_free, new_fits, refused_free, table_free}

-- what is taken from the front of octets is the front of the messages that stand there
pub front : (limit : ℕ) (one all : List Msg) (octets behind rest : List ℕ) → All (IsMessage limit) one
    → octets ≡ flat_map message_octets one ++ behind → Msgs limit octets all rest
    → (others : List Msg) × (all ≡ one ++ others) × Msgs limit behind others rest
front limit [] all octets behind rest each parts split = (all, refl, subst (λ o. Msgs limit o all rest) parts split)
front limit (m ∷ one) [] octets behind rest each parts split =
    let begins : BeginsWithMessage limit octets = (
      m,
      flat_map message_octets one ++ behind,
      each_head limit m one each,
      parts ∙ append_assoc (message_octets m) (flat_map message_octets one) behind,
    ) in
    absurd (split.partial (subst (BeginsWithMessage limit) split.whole begins))
front limit (m ∷ one) (n ∷ all) octets behind rest each parts split =
    let same = same_message limit m n (flat_map message_octets one ++ behind) (flat_map message_octets all ++ rest)
    (each_head limit m one each) (each_head limit n all split.each)
    (sym (parts ∙ append_assoc (message_octets m) (flat_map message_octets one) behind)
    ∙ (split.whole ∙ append_assoc (message_octets n) (flat_map message_octets all) rest)) in
    let later = front limit one all (flat_map message_octets all ++ rest) behind rest (each_tail limit m one each) (sym same.1)
    (record { whole = refl; each = each_tail limit n all split.each; partial = split.partial }) in
    (later.0, (let first : n ≡ m = sym same.0 in let others : all ≡ one ++ later.0 = later.1 in cc), later.2)

-- what brings no octets leaves as much room
none_more : {R E : Type 0} (h : Held R E) (ids : List ℕ) (n : ℕ) → Fits h ids n → Fits h ids (0 + n)
none_more h ids n fits = record {
  only = fits.only;
  few = fits.few;
  room = let room = fits.room in omega arith;
}

behind_first : (b : Bool) {c : Bool} → c ≡ true → (b || c) ≡ true
behind_first true is = refl
behind_first false is = is

refused_free_answer : {E : Type 0} (why : SessionFault) → IsUnlimited why → IsForNoLimit {E = E} (answer.Refused why)
refused_free_answer why free = (
  λ same. let is : why ≡ session.TooManyCalls = cc in free.0 is,
  λ same. let is : why ≡ session.GatherFull = cc in free.1 is,
)

-- an input is this to an end: the octets that it feeds, and the id under which it may open a call
abbrev pub Suits : {I V F : Type 0} → (I → List ℕ) → (I → ℕ → Bool) → (V → Bool) → I → Deed V F → Type 0
Suits fed asked_in begins i (Feeds octets) = fed i ≡ octets
Suits {V = V} fed asked_in begins i (PutsOut id refusal Plans) =
    (fed i ≡ []) × ((planned : Planned V) → Plans planned → begins planned.event ≡ true → asked_in i id ≡ true)
Suits fed asked_in begins i (TakesOut id) = fed i ≡ []
Suits fed asked_in begins i Closes = fed i ≡ []

-- what is still to come is within the limits of an end as it stands
pub record Waiting {R E I : Type 0} (asks : Kind → Bool) (fed : I → List ℕ) (asked_in : I → ℕ → Bool) (unread : Unread) (h : Held R E)
    (inputs : List I) : Type 0 where
  pub ids : List ℕ
  pub messages : List Msg
  pub rest : List ℕ
  pub stand : Msgs unread.limit (unread.octets ++ flat_map fed inputs) messages rest
  pub fits : Fits h ids (sum_by octets_with messages)
  pub listed : (id : ℕ) → list_any (λ m. asks m.kind && names m id) messages ≡ true → is_listed ids id ≡ true
  pub called : (id : ℕ) → list_any (λ i. asked_in i id) inputs ≡ true → is_listed ids id ≡ true

module _ {R E V A F I : Type 0} (side : SideOf R E V A F) (asks : Kind → Bool) (begins : V → Bool)
    (begins_only : (rule : R) (v : V) → is_some (side.next rule None v).entry ≡ true → begins v ≡ true)
    (small : (m : Msg) (call : Call E) → IsSmall begins (asks m.kind) (octets_with m) (side.act_by m call))
    (own : (id : ℕ) (fault : F) → IsUnlimited (side.of_rule id fault))
    (broken : (m : Msg) (why : SessionFault) → side.breaks m ≡ Some why → IsUnlimited why)
    (fed : I → List ℕ) (asked_in : I → ℕ → Bool) (deed : Held R E → I → Deed V F)
    (suits : (h : Held R E) (i : I) → Suits fed asked_in begins i (deed h i)) where
  abbrev HearsSo : Msg → Held R E → Result (Unit {0}) SessionFault → Held R E → Type 0
  HearsSo = hears side

  abbrev ListedIn : List ℕ → List Msg → Type 0
  ListedIn ids messages = (id : ℕ) → list_any (λ m. asks m.kind && names m id) messages ≡ true → is_listed ids id ≡ true

  abbrev Awaits : Unread → Held R E → List I → Type 0
  Awaits = Waiting asks fed asked_in

  -- a failed end failed for no limit
  abbrev Stands : Option SessionFault → Unread → Held R E → List I → Type 0
  Stands None unread h inputs = Awaits unread h inputs
  Stands (Some why) unread h inputs = IsUnlimited why

  -- messages that are heard leave room for the others
  through_fits : (h k : Held R E) (ids : List ℕ) (one others : List Msg) → Fits h ids (sum_by octets_with (one ++ others))
      → ListedIn ids (one ++ others) → Through HearsSo h one k → Fits k ids (sum_by octets_with others) × ListedIn ids others
  through_fits h k ids [] others fits listed through = (subst (λ s. Fits s ids (sum_by octets_with others)) (sym through) fits, listed)
  through_fits h k ids (m ∷ one) others fits listed (mid, heard, rest) =
      through_fits mid k ids one others
      (heard_fits side asks begins begins_only small own broken m h mid ids (sum_by octets_with (one ++ others))
      (side.breaks m) (request_id_of m) (subst (Fits h ids) (sum_by-cons octets_with m (one ++ others)) fits)
      (λ id is. listed id (ap (λ b. b || list_any (λ n. asks n.kind && names n id) (one ++ others)) is)) heard)
      (λ id is. listed id (behind_first (asks m.kind && names m id) is)) rest

  -- an input that feeds nothing
  without : (unread : Unread) (h k : Held R E) (i : I) (inputs : List I) (ahead : Awaits unread h (i ∷ inputs)) → fed i ≡ []
      → Fits k ahead.ids (sum_by octets_with ahead.messages) → Awaits unread k inputs
  without unread h k i inputs ahead none fits = record {
    ids = ahead.ids;
    messages = ahead.messages;
    rest = ahead.rest;
    stand = subst (λ octets. Msgs unread.limit (unread.octets ++ (octets ++ flat_map fed inputs)) ahead.messages ahead.rest) none ahead.stand;
    fits = fits;
    listed = ahead.listed;
    called = λ id is. ahead.called id (behind_first (asked_in i id) is);
  }

  -- octets are fed
  fed_stands : (unread left : Unread) (h k : Held R E) (octets : List ℕ) (i : I) (inputs : List I) (result : Result (Unit {0}) SessionFault)
      → Awaits unread h (i ∷ inputs) → fed i ≡ octets → Fed HearsSo (with_octets unread octets) h result left k
      → Stands (standing result) left k inputs
  fed_stands unread left h k octets i inputs result ahead is feeding = by_result result feeding.stops
    where
      parts : (others : List Msg) × (ahead.messages ≡ feeding.messages ++ others)
          × Msgs unread.limit (feeding.rest.octets ++ flat_map fed inputs) others ahead.rest
      parts = front unread.limit feeding.messages ahead.messages (unread.octets ++ (octets ++ flat_map fed inputs))
          (feeding.rest.octets ++ flat_map fed inputs) ahead.rest feeding.taken.each
          (sym (append_assoc unread.octets octets (flat_map fed inputs)) ∙ ap (λ o. o ++ flat_map fed inputs) feeding.taken.octets
          ∙ append_assoc (flat_map message_octets feeding.messages) feeding.rest.octets (flat_map fed inputs))
          (subst (λ o. Msgs unread.limit (unread.octets ++ (o ++ flat_map fed inputs)) ahead.messages ahead.rest) is ahead.stand)

      gone : Fits k ahead.ids (sum_by octets_with parts.0) × ListedIn ahead.ids parts.0
      gone = through_fits h k ahead.ids feeding.messages parts.0 (subst (λ ms. Fits h ahead.ids (sum_by octets_with ms)) parts.1 ahead.fits)
          (subst (ListedIn ahead.ids) parts.1 ahead.listed) feeding.heard

      by_result : (told : Result (Unit {0}) SessionFault) → Stops HearsSo feeding.rest k told left → Stands (standing told) left k inputs
      by_result (Ok done) (waits, same) = subst (λ u. Awaits u k inputs) (sym same) (record {
        ids = ahead.ids;
        messages = parts.0;
        rest = ahead.rest;
        stand = subst (λ n. Msgs n (feeding.rest.octets ++ flat_map fed inputs) parts.0 ahead.rest) (sym feeding.taken.limit) parts.2;
        fits = gone.0;
        listed = gone.1;
        called = λ id there. ahead.called id (behind_first (asked_in i id) there);
      })
      by_result (Err why) (inl want) = (λ same. cc, λ same. cc)
      by_result (Err why) (inr (inl (e, begins_so, told, left_is))) = (λ same. cc, λ same. cc)
      by_result (Err why) (inr (inr (m, takes, refused))) =
          let second = front unread.limit (m ∷ []) parts.0 (feeding.rest.octets ++ flat_map fed inputs) (left.octets ++ flat_map fed inputs) ahead.rest
          (each_one unread.limit m (subst (λ n. IsMessage n m) feeding.taken.limit takes.is_message))
          (ap (λ o. o ++ flat_map fed inputs) takes.octets ∙ append_assoc (message_octets m) left.octets (flat_map fed inputs)
          ∙ ap (λ o. o ++ (left.octets ++ flat_map fed inputs)) (sym (append-nil (message_octets m)))) parts.2 in
          let listed = subst (ListedIn ahead.ids) second.1 gone.1 in
          heard_free side asks begins begins_only small own broken m k k ahead.ids (sum_by octets_with second.0)
          (side.breaks m) (request_id_of m) why (broken m)
          (subst (Fits k ahead.ids) (ap (sum_by octets_with) second.1 ∙ sum_by-cons octets_with m second.0) gone.0)
          (λ id there. listed id (ap (λ b. b || list_any (λ n. asks n.kind && names n id) second.0) there)) refused

  -- an act of the end's own program
  act_fits : (h k : Held R E) (ids : List ℕ) (n id : ℕ) (planned : Planned V) (answered : Result (Sends A) (TableFault F))
      (result : Result (Unit {0}) SessionFault) → Fits h ids n → (begins planned.event ≡ true → is_listed ids id ≡ true)
      → DoesAct (rules_at side h.rule) h (record { id = id; what = Hears planned Nothing }) (event_reply answered) k
      → result ≡ result_of (side.of_rule id) answered
      → Fits k ids n × ((why : SessionFault) → result ≡ Err why → IsUnlimited why)
  act_fits h k ids n id planned (Ok sends) result fits listed does told = (
    fits_then (side.next h.rule) (side.closed h.rule) side.gathering begins (begins_only h.rule) h k ids 0 n id (Hears planned Nothing) _
        (none_more h ids n fits)
        (listed, omega arith) does,
    λ why is. absurd cc,
  )
  act_fits h k ids n id planned (Err fault) result fits listed does told = (
    fits_then (side.next h.rule) (side.closed h.rule) side.gathering begins (begins_only h.rule) h k ids 0 n id (Hears planned Nothing) _
        (none_more h ids n fits)
        (listed, omega arith) does,
    λ why is.
        let free = table_free side asks begins begins_only small own broken id fault
        (refused_free (side.next h.rule) (side.closed h.rule) side.gathering begins (begins_only h.rule) h k ids 0 n id (Hears planned Nothing) fault
        (none_more h ids n fits)
        (listed, omega arith) does) in
        let same : of_table (side.of_rule id) fault ≡ why = cc in
        subst IsUnlimited same free,
  )

  puts_fits : (h k : Held R E) (ids : List ℕ) (n id : ℕ) (refusal : Option F) (Plans : Planned V → Type 0) (out out' : List ℕ)
      (result : Result (Unit {0}) SessionFault) → Fits h ids n
      → ((planned : Planned V) → Plans planned → begins planned.event ≡ true → is_listed ids id ≡ true)
      → Puts (rules_at side h.rule) side.of_rule id refusal Plans h out result k out'
      → Fits k ids n × ((why : SessionFault) → result ≡ Err why → IsUnlimited why)
  puts_fits h k ids n id refusal Plans out out' result fits listed (inl (want, same, outgoing)) =
      (subst (λ s. Fits s ids n) (sym same) fits, λ why is. (λ limit. cc, λ limit. cc))
  puts_fits h k ids n id (Some fault) Plans out out' result fits listed (inr (told, same, outgoing)) = (
    subst (λ s. Fits s ids n) (sym same) fits,
    λ why is. let other : side.of_rule id fault ≡ why = cc in subst IsUnlimited other (own id fault),
  )
  puts_fits h k ids n id None Plans out out' result fits listed (inr (planned, plans, on_call)) =
      act_fits h k ids n id planned on_call.answered result fits (listed planned plans) on_call.does on_call.returned

  -- an end whose fault and unread octets stay
  stays : (s t : EndState (Held R E)) (inputs : List I) → s.fault ≡ None → t.fault ≡ s.fault → t.unread ≡ s.unread
      → Awaits s.unread t.calls inputs → Stands t.fault t.unread t.calls inputs
  stays s t inputs sound fault unread ahead =
      subst (λ fault. Stands fault t.unread t.calls inputs) (sym (fault ∙ sound)) (subst (λ u. Awaits u t.calls inputs) (sym unread) ahead)

  abbrev Goes : Answered E → EndState (Held R E) → List I → Type 0
  Goes answered t inputs = IsForNoLimit answered × Stands t.fault t.unread t.calls inputs

  done_goes : IsForNoLimit {E = E} answer.Done
  done_goes = (λ same. cc, λ same. cc)

  taken_goes : (entry : Option E) → IsForNoLimit {E = E} (answer.Taken entry)
  taken_goes entry = (λ same. cc, λ same. cc)

  done_stands : (s t : EndState (Held R E)) (i : I) (inputs : List I) (answered : Answered E) (d : Deed V F) → Suits fed asked_in begins i d
      → Awaits s.unread s.calls (i ∷ inputs) → s.fault ≡ None → IsDoneBy side d s answered t
      → Goes answered t inputs
  done_stands s t i inputs answer.Done (Feeds octets) suit ahead sound (feeding, is) = (
    done_goes,
    subst (λ fault. Stands fault t.unread t.calls inputs) (sym (ap (λ e. e.fault) is))
        (fed_stands s.unread t.unread s.calls t.calls octets i inputs (Ok tt) ahead suit feeding),
  )
  done_stands s t i inputs (answer.Refused why) (Feeds octets) suit ahead sound (feeding, is) =
      let free : IsUnlimited why = fed_stands s.unread t.unread s.calls t.calls octets i inputs (Err why) ahead suit feeding in
      (refused_free_answer why free, subst (λ fault. Stands fault t.unread t.calls inputs) (sym (ap (λ e. e.fault) is)) free)
  done_stands s t i inputs (answer.Taken entry) (Feeds octets) suit ahead sound done = absurd done
  done_stands s t i inputs answer.Done (PutsOut id refusal Plans) (none, opens_so) ahead sound (puts, is) =
      let put = puts_fits s.calls t.calls ahead.ids (sum_by octets_with ahead.messages) id refusal Plans s.outgoing t.outgoing (Ok tt) ahead.fits
      (λ planned plans begins_so. ahead.called id (ap (λ b. b || list_any (λ j. asked_in j id) inputs) (opens_so planned plans begins_so))) puts in
      (done_goes, stays s t inputs sound (ap (λ e. e.fault) is) (ap (λ e. e.unread) is) (without s.unread s.calls t.calls i inputs ahead none put.0))
  done_stands s t i inputs (answer.Refused why) (PutsOut id refusal Plans) (none, opens_so) ahead sound (puts, is) =
      let put = puts_fits s.calls t.calls ahead.ids (sum_by octets_with ahead.messages) id refusal Plans s.outgoing t.outgoing (Err why) ahead.fits
      (λ planned plans begins_so. ahead.called id (ap (λ b. b || list_any (λ j. asked_in j id) inputs) (opens_so planned plans begins_so))) puts in (
        refused_free_answer why (put.1 why refl),
        stays s t inputs sound (ap (λ e. e.fault) is) (ap (λ e. e.unread) is) (without s.unread s.calls t.calls i inputs ahead none put.0),
      )
  done_stands s t i inputs (answer.Taken entry) (PutsOut id refusal Plans) suit ahead sound done = absurd done
  done_stands s t i inputs answer.Done (TakesOut id) none ahead sound done = absurd done
  done_stands s t i inputs (answer.Taken entry) (TakesOut id) none ahead sound (gives, does, is) = (
    taken_goes entry,
    stays s t inputs sound (ap (λ e. e.fault) is) (ap (λ e. e.unread) is) (without s.unread s.calls t.calls i inputs ahead none
        (fits_then (side.next s.calls.rule) (side.closed s.calls.rule) side.gathering begins (begins_only s.calls.rule) s.calls t.calls ahead.ids 0
        (sum_by octets_with ahead.messages) id IsTaken _
        (none_more s.calls ahead.ids (sum_by octets_with ahead.messages) ahead.fits) tt does)),
  )
  done_stands s t i inputs (answer.Refused why) (TakesOut id) none ahead sound (wanting, still, is) = (
    refused_free_answer why (λ same. cc, λ same. cc),
    stays s t inputs sound (ap (λ e. e.fault) is) (ap (λ e. e.unread) is) (without s.unread s.calls t.calls i inputs ahead none
        (subst (λ e. Fits e.calls ahead.ids (sum_by octets_with ahead.messages)) (sym is) ahead.fits)),
  )
  done_stands s t i inputs answer.Done Closes none ahead sound is = (
    done_goes,
    subst (λ fault. Stands fault t.unread t.calls inputs) (sym (ap (λ e. e.fault) is)) (λ same. cc, λ same. cc),
  )
  done_stands s t i inputs (answer.Taken entry) Closes none ahead sound done = absurd done
  done_stands s t i inputs (answer.Refused why) Closes none ahead sound done = absurd done

  given_stands : (s t : EndState (Held R E)) (i : I) (inputs : List I) (answered : Answered E) → Stands s.fault s.unread s.calls (i ∷ inputs)
      → IsGiven side (deed s.calls i) s answered t → Goes answered t inputs
  given_stands s t i inputs answered stands given = by_fault s.fault refl stands given.1
    where
      by_fault : (fault : Option SessionFault) → s.fault ≡ fault → Stands fault s.unread s.calls (i ∷ inputs)
          → IsGivenBy side fault (deed s.calls i) s answered t → Goes answered t inputs
      by_fault None sound ahead done = done_stands s t i inputs answered (deed s.calls i) (suits s.calls i) ahead sound done
      by_fault (Some why) stood free (told, same) = (
        subst IsForNoLimit (sym told) (refused_free_answer why free),
        subst (λ e. Stands e.fault e.unread e.calls inputs) (sym same) (subst (λ fault. Stands fault s.unread s.calls inputs) (sym stood) free),
      )

  run_free : (s t : EndState (Held R E)) (inputs : List I) (answers : List (Answered E)) → Stands s.fault s.unread s.calls inputs
      → EndRuns side deed s inputs answers t → NoneForALimit answers
  run_free s t [] [] stands run = tt
  run_free s t [] (answered ∷ answers) stands run = absurd run
  run_free s t (i ∷ inputs) [] stands run = absurd run
  run_free s t (i ∷ inputs) (answered ∷ answers) stands (mid, first, rest) =
      let one = given_stands s mid i inputs answered stands first in
      (one.0, run_free mid t inputs answers one.1 rest)

  -- a new end
  pub new_run_free : (rule : R) (limits : Limits) (t : EndState (Held R E)) (inputs : List I) (answers : List (Answered E)) (ids : List ℕ)
      (messages : List Msg) (rest : List ℕ) → Msgs limits.message (flat_map fed inputs) messages rest → length ids ≤ limits.calls
      → ((id : ℕ) → list_any (λ m. asks m.kind && names m id) messages ≡ true → is_listed ids id ≡ true)
      → ((id : ℕ) → list_any (λ i. asked_in i id) inputs ≡ true → is_listed ids id ≡ true)
      → sum_by octets_with messages ≤ limits.gathered
      → EndRuns side deed (new_end rule limits) inputs answers t → NoneForALimit answers
  new_run_free rule limits t inputs answers ids messages rest stand few listed called room run =
      run_free (new_end rule limits) t inputs answers (record {
        ids = ids;
        messages = messages;
        rest = rest;
        stand = stand;
        fits = new_fits side asks begins begins_only small own broken rule limits ids
            (sum_by octets_with messages) few room;
        listed = listed;
        called = called;
      }) run
