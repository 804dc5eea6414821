-- What worlds of two schedules come to.
use Rattle.std.proofs.Common.{◌≡◌, ℕ, List, [], ◌∷◌, take, Option, Some, None, Result, Ok, Err, ◌⊎◌, refl, sym, ap, subst, ◌∙◌, inl, inr, arith}
use Rattle.std.proofs.lemmas.List.Elements.{All-cons, All-nil}
use Rattle.std.specs.FinMap as finite
use Rattle.std.specs.Ordering.{nat_cmp}
use Rattle.giop_cdr.specs.Layout.{number, octets, field, gives, chosen}
use Rattle.giop_cdr.specs.Reading.Values.{field_at, number_at}
use Rattle.giop_cdr.specs.Writing.Output.{number_out, octets_out}
use Rattle.giop_cdr.specs.declared.order.Order.TheVariants.{Big, Little}
use Rattle.giop_ids.specs.Runs.{Rules, left}
use Rattle.giop_types.specs.declared.interfaces.interface.Interface.{Interface}
use Rattle.giop_msg.specs.Cut.{IsCut}
use Rattle.giop_msg.specs.Header.{header_octets}
use Rattle.giop_msg.specs.Laws.{OneSplit}
use Rattle.giop_msg.specs.Locate.{locate_request, located}
use Rattle.giop_msg.specs.Meaning.{meaning}
use Rattle.giop_msg.specs.Msg.{IsMessage, message_octets}
use Rattle.giop_msg.specs.RequestId.{request_id_layout}
use Rattle.giop_msg.specs.Stream.{BeginsWithMessage, Msgs, Unread}
use Rattle.giop_msg.specs.Target.{object_key}
use Rattle.giop_msg.specs.declared.kind.Kind.TheVariants.{LocateRequest}
use Rattle.giop_msg.specs.declared.msg.Msg.{Msg}
use Rattle.giop_msg.specs.declared.version.Version.TheVariants.{V10}
use Rattle.giop_msg.proofs.FramerLemmas.{waits_for_header}
use Rattle.giop_calls.specs.declared.client.entry.ClientEntry.{ClientEntry}
use Rattle.giop_calls.specs.declared.client.event.ClientEvent.{ClientEvent}
use Rattle.giop_calls.specs.declared.client.rule.ClientRule.{ClientRule}
use Rattle.giop_calls.specs.declared.fault.CallFault.TheVariants.{NotOpen}
use Rattle.giop_calls.specs.declared.server.entry.ServerEntry.{ServerEntry}
use Rattle.giop_calls.specs.declared.server.entry.ServerEntry.TheVariants.{LocateAsked}
use Rattle.giop_calls.specs.declared.server.event.ServerEvent.TheVariants as at_server
use Rattle.giop_calls.specs.declared.server.heard.HeardCall.{HeardCall}
use Rattle.giop_calls.specs.declared.server.rule.ServerRule.{ServerRule}
use Rattle.giop_calls.specs.ClientTable as client
use Rattle.giop_calls.specs.ServerTable as server
use Rattle.giop_session.specs.declared.laws.inputs.Answered.{Answered}
use Rattle.giop_session.specs.declared.laws.inputs.Answered.TheVariants as answer
use Rattle.giop_session.specs.declared.Form.{Form}
use Rattle.giop_session.specs.declared.laws.inputs.WorldEvent.{WorldEvent}
use Rattle.giop_session.specs.declared.laws.inputs.ClientInput.TheVariants as client_input
use Rattle.giop_session.specs.declared.laws.inputs.ServerInput.TheVariants as server_input
use Rattle.giop_session.specs.declared.Planned.{Planned}
use Rattle.giop_session.specs.declared.SessionFault.{SessionFault}
use Rattle.giop_session.specs.declared.SessionFault.TheVariants.{Call as InCall, NoMemory}
use Rattle.giop_session.specs.declared.Slot.{Slot}
use Rattle.giop_session.specs.declared.TableFault.{TableFault}
use Rattle.giop_session.specs.Acts.Acting.{IsAccepted}
use Rattle.giop_session.specs.Runs.Alone.{alone_heard, own_messages}
use Rattle.giop_session.specs.Calls.CallTable.{Act, Call, Hears, Held, Nothing, Reply, at, rules_of, turn, entry_at}
use Rattle.giop_session.specs.Acts.ClientCalls.{IsLocate, cancel_fault, locate_fault, locate_octets, open_version}
use Rattle.giop_session.specs.Runs.ClientRuns.{client_run}
use Rattle.giop_session.specs.Runs.ServerRuns.{server_run}
use Rattle.giop_session.specs.Runs.SideRuns.{SideIsGiven}
use Rattle.giop_session.specs.Runs.Driven.{Says}
use Rattle.giop_session.specs.Ends.Begun.{EndState, new_end}
use Rattle.giop_session.specs.Hearing.Feeding.{Fed, Through}
use Rattle.giop_session.specs.Hearing.Heard.{in_call, silently, hears}
use Rattle.giop_session.specs.Acts.Putting.{ActsOnCall, Puts, octets_of}
use Rattle.giop_session.specs.Calls.Sending.{entry_of, message_of, unsent_of}
use Rattle.giop_session.specs.Calls.Unsent.{first_of}
use Rattle.giop_session.specs.Hearing.ServerHears.{server_act, server_side}
use Rattle.giop_session.specs.Worlds.World.{Returned, WorldRuns, WorldState, returned_for}
use Rattle.laws_in_use.specs.Left.{new_client}
use Rattle.laws_in_use.specs.Limited.{new_server}
use Rattle.laws_in_use.specs.Locating.{key, key_little, limits}
use Rattle.laws_in_use.specs.Runs.{Forms}
use Rattle.laws_in_use.specs.Worlds.{asked_for, unasked}
use Rattle.laws_in_use.proofs.LocatingMessages.{decoded, messages}
use Rattle.laws_in_use.proofs.LocatingReads.{wide}
use Rattle.laws_in_use.proofs.LocatingRuns.{none, none_at}

-- an end without calls has no entry
no_client_entry : (id : ℕ) → entry_at (new_client limits) id ≡ None
no_client_entry id = ap (λ (slot : Option (Slot ClientEntry)). entry_of slot) (finite.get-empty nat_cmp id)

-- what a refusal that is found comes to
module _ {R E V A F : Type 0} (rules : Rules (Held R E) (Call E) (Act V) (Reply E A) (TableFault F)) (of_rule : ℕ → F → SessionFault) (id : ℕ)
    (Plans : Planned V → Type 0) (h k : Held R E) (out out' : List ℕ) where
  found : (fault : Option F) (why : F) (result : Result (Unit {0}) SessionFault) → fault ≡ Some why
      → Puts rules of_rule id fault Plans h out result k out' → (result ≡ Err NoMemory) ⊎ (result ≡ Err (of_rule id why))
  found None why result is puts = absurd cc
  found (Some known) why result is (inl none) = inl none.0
  found (Some known) why result is (inr done) = inr (done.0 ∙ ap (λ (one : F). Err (of_rule id one)) (let same : known ≡ why = cc in same))

  -- and what an event that is planned does
  planned_so : (fault : Option F) → fault ≡ None → Puts rules of_rule id fault Plans h out (Ok tt) k out'
      → (planned : Planned V) × Plans planned × ActsOnCall rules of_rule id planned h out (Ok tt) k out'
  planned_so None is (inl none) = let want = none.0 in absurd cc
  planned_so None is (inr done) = done
  planned_so (Some why) is puts = absurd cc

-- a result that is refused isn't done
no_done : (why : SessionFault) → (◌≡◌ {A = Returned} (Ok tt) (Err NoMemory)) ⊎ (◌≡◌ {A = Returned} (Ok tt) (Err why)) → ⊥
no_done why (inl is) = absurd cc
no_done why (inr is) = absurd cc

-- and tells the fault that was found, unless it is out of memory
same_fault : (other why : SessionFault) → (other ≡ NoMemory → ⊥) → (◌≡◌ {A = Returned} (Err other) (Err NoMemory)) ⊎ (◌≡◌ {A = Returned} (Err other) (Err why))
    → other ≡ why
same_fault other why fine (inl is) = absurd (fine cc)
same_fault other why fine (inr is) = cc

refused_as : (P : Returned → Type 0) (answered : Answered ClientEntry) (why : SessionFault) → (answered ≡ answer.Refused NoMemory → ⊥)
    → ((result : Returned) → P result → (result ≡ Err NoMemory) ⊎ (result ≡ Err why)) → Says answered P → answered ≡ answer.Refused why
refused_as P answer.Done why fine is_so says = absurd (no_done why (is_so (Ok tt) says))
refused_as P (answer.Refused other) why fine is_so says =
    ap (λ (fault : SessionFault). answer.Refused fault)
    (same_fault other why (λ (same : other ≡ NoMemory). fine (ap (λ (fault : SessionFault). answer.Refused fault) same)) (is_so (Err other) says))
refused_as P (answer.Taken entry) why fine is_so says = absurd says

-- a cancel of no call is refused
cancel_refused : (interface : Interface) (answered : Answered ClientEntry) (t : EndState (Held ClientRule ClientEntry))
    → SideIsGiven (client_run interface) limits (new_end (record {}) limits) (client_input.Cancel 9 Big) answered t
    → answered ≡ answer.Refused (InCall 9 NotOpen)
cancel_refused interface answered t (fine, given) =
    refused_as _ answered (InCall 9 NotOpen) fine
    (λ result is. found (rules_of client.client_step client.is_closed client.is_gathering) in_call 9 _ _ _ _ _
    (cancel_fault (open_version (entry_at (new_client limits) 9))) NotOpen result
    (ap (λ entry. cancel_fault (open_version entry)) (no_client_entry 9)) is.0)
    given

pub unasked_told : (interface : Interface) (told : List Returned) (w : WorldState) → WorldRuns interface limits limits unasked told w
    → told ≡ Err (InCall 9 NotOpen) ∷ []
unasked_told interface [] w run = absurd run
unasked_told interface (one ∷ []) w (mid, (answered, given, is, same), end) =
    ap (λ (t : Returned). t ∷ []) (is ∙ ap returned_for (cancel_refused interface answered mid.client given))
unasked_told interface (one ∷ other ∷ told) w run = absurd run.2

-- `k` is sent by one message
sent_by : (messages : List Msg) → IsCut V10 LocateRequest Little (locate_octets key Little) 64 messages → messages ≡ key_little ∷ []
unfolding locate_request located object_key meaning number octets field gives number_out octets_out
sent_by [] cut = absurd cut
sent_by (m ∷ []) cut = ap (λ (m : Msg). m ∷ []) cut.0
sent_by (m ∷ n ∷ messages) cut = let new = cut.1 in absurd cc

unrefused : locate_fault limits None key (record { order = Little; piece = 64 }) ≡ None
unfolding locate_request located object_key meaning number octets field gives number_out octets_out
unrefused = refl

module _ (interface : Interface)
    (leaves : (planned : Planned ClientEvent) (k : Held ClientRule ClientEntry) (out' : List ℕ)
    → ActsOnCall (rules_of client.client_step client.is_closed client.is_gathering) in_call 9 planned (new_client limits) [] (Ok tt) k out'
    → IsAccepted client.client_step 9 planned (new_client limits) [] k out')
    (split : OneSplit)
    (own : (k : Held ServerRule ServerEntry)
    → Through (hears (server_side interface))
    (new_server limits) (key_little ∷ []) k
    → at k 9
    ≡ alone_heard (turn server.server_step server.is_closed server.is_gathering) (server_act interface) (at (new_server limits) 9)
    (own_messages 9 (key_little ∷ []))) where
  -- its octets are outgoing then
  outgoing_by : (form : Form) (t : EndState (Held ClientRule ClientEntry)) → form ≡ record { order = Little; piece = 64 }
      → Puts (rules_of client.client_step client.is_closed client.is_gathering) in_call 9
      (locate_fault limits (entry_at (new_client limits) 9) key form) (IsLocate key form) (new_client limits) [] (Ok tt) t.calls t.outgoing
      → t.outgoing ≡ message_octets key_little
  outgoing_by form t is puts =
      let (planned, sends, on_call) =
      planned_so (rules_of client.client_step client.is_closed client.is_gathering) in_call 9 (IsLocate key form) (new_client limits) t.calls []
      t.outgoing (locate_fault limits (entry_at (new_client limits) 9) key form)
      (ap (λ entry. locate_fault limits entry key form) (no_client_entry 9) ∙ ap (λ (form : Form). locate_fault limits None key form) is ∙ unrefused) puts in
      let (messages, cut, plans) = sends.sent in
      let one = sent_by messages (subst (λ (form : Form). IsCut V10 LocateRequest form.order (locate_octets key form.order) form.piece messages) is cut) in
      (leaves planned t.calls t.outgoing on_call).puts
      ∙ ap (λ (p : Planned ClientEvent). octets_of (message_of p.plan (unsent_of (finite.get (new_client limits).table 9)))) plans
      ∙ ap (λ (messages : List Msg). octets_of (first_of messages)) one

  key_alone : Msgs 64 (message_octets key_little) (key_little ∷ []) []
  unfolding header_octets
  key_alone = record {
    whole = refl;
    each = All-cons (IsMessage 64) key_little [] messages.key_little (All-nil (IsMessage 64));
    partial = (waits_for_header 64 [] (omega arith)).no_message;
  }

  -- what is fed is heard as that one message
  heard_alone : {H : Type 0} (By : Msg → H → Result (Unit {0}) SessionFault → H → Type 0) (h k : H) (rest : Unread)
      → Fed By (wide (message_octets key_little)) h (Ok tt) rest k → Through By h (key_little ∷ []) k
  heard_alone By h k rest fed =
      let same = split 64 (message_octets key_little) fed.messages (key_little ∷ []) fed.rest.octets [] (record {
        whole = fed.taken.octets;
        each = fed.taken.each;
        partial = λ begins. fed.stops.0.no_message (subst (λ limit. BeginsWithMessage limit fed.rest.octets) (sym fed.taken.limit) begins);
      }) key_alone in
      subst (λ (messages : List Msg). Through By h messages k) same.0 fed.heard

  own_is : own_messages 9 (key_little ∷ []) ≡ key_little ∷ []
  unfolding request_id_layout chosen number number_at field_at
  own_is = refl

  -- and stands then
  stands : (k : Held ServerRule ServerEntry)
      → Through (hears (server_side interface))
      (new_server limits) (key_little ∷ []) k
      → entry_at k 9 ≡ Some (LocateAsked key)
  stands k through =
      ap (λ (call : Call ServerEntry). entry_of call.slot)
      (own k through
      ∙ ap (λ messages. alone_heard (turn server.server_step server.is_closed server.is_gathering) (server_act interface) (at (new_server limits) 9)
      messages) own_is
      ∙ ap (λ call. alone_heard (turn server.server_step server.is_closed server.is_gathering) (server_act interface) call (key_little ∷ []))
      (none_at limits 9)
      ∙ ap (λ (read : HeardCall). left none (turn server.server_step server.is_closed server.is_gathering none
      (Hears (silently (at_server.Whole read)) Nothing))) (decoded interface).key_little)

  given_done : {E : Type 0} (P : Result (Unit {0}) SessionFault → Type 0) (answered : Answered E) → Ok tt ≡ returned_for answered
      → Says answered P → P (Ok tt)
  given_done P answer.Done is says = says
  given_done P (answer.Taken entry) is says = absurd says
  given_done P (answer.Refused why) is says = absurd cc

  arrived : (mid : WorldState) (last : EndState (Held ServerRule ServerEntry)) (answered : Answered ServerEntry)
      → Ok tt ≡ returned_for answered → mid.server ≡ new_end (record {}) limits → mid.client.outgoing ≡ message_octets key_little
      → SideIsGiven (server_run interface) limits mid.server (server_input.Feed (take 100 mid.client.outgoing)) answered last
      → entry_at last.calls 9 ≡ Some (LocateAsked key)
  unfolding header_octets
  arrived mid last answered done new out given =
      let at_new = subst (λ (s : EndState (Held ServerRule ServerEntry)). SideIsGiven (server_run interface) limits s
      (server_input.Feed (take 100 mid.client.outgoing)) answered last) new given in
      let fed = subst (λ octets. SideIsGiven (server_run interface) limits (new_end (record {}) limits) (server_input.Feed (take 100 octets))
      answered last) out at_new in
      let is = given_done _ answered done fed.1 in
      stands last.calls (heard_alone _ (new_server limits) last.calls last.unread is.0)

  asked_stands : (forms : Forms) (told : List Returned) (w : WorldState) → WorldRuns interface limits limits (asked_for forms) told w
      → told ≡ Ok tt ∷ Ok tt ∷ [] → entry_at w.server.calls 9 ≡ Some (LocateAsked key)
  asked_stands forms [] w run is = absurd run
  asked_stands forms (one ∷ []) w run is = absurd run.2
  asked_stands forms (one ∷ other ∷ []) w (mid, (first, sends, first_is, same), (last, (second, comes, second_is, rest), end)) is =
      let one_is : Ok tt ≡ returned_for first = cc in
      let other_is : Ok tt ≡ returned_for second = cc in
      let puts = given_done _ first one_is sends.1 in
      ap (λ (w : WorldState). entry_at w.server.calls 9) end
      ∙ arrived mid last.server second other_is same (outgoing_by forms.little.form mid.client forms.little_is puts.0) comes
  asked_stands forms (one ∷ other ∷ third ∷ told) w run is = absurd run.2.2

  pub asked_stands_by : (forms : Forms) (schedule : List WorldEvent) (told : List Returned) (w : WorldState)
      → WorldRuns interface limits limits schedule told w → schedule ≡ asked_for forms → told ≡ Ok tt ∷ Ok tt ∷ []
      → entry_at w.server.calls 9 ≡ Some (LocateAsked key)
  asked_stands_by forms schedule told w run given is =
      asked_stands forms told w (subst (λ (schedule : List WorldEvent). WorldRuns interface limits limits schedule told w) given run) is

-- so where the schedule is that
pub unasked_told_by : (interface : Interface) (schedule : List WorldEvent) (told : List Returned) (w : WorldState)
    → WorldRuns interface limits limits schedule told w → schedule ≡ unasked → told ≡ Err (InCall 9 NotOpen) ∷ []
unasked_told_by interface schedule told w run is =
    unasked_told interface told w (subst (λ (schedule : List WorldEvent). WorldRuns interface limits limits schedule told w) is run)
