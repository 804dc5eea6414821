-- What an end puts out are whole messages of its side: so are those that are still to be sent, and so each act leaves them.
use Rattle.std.proofs.Common.{◌≡◌, ℕ, ◌-◌, ◌==◌, Bool, true, false, cond, List, [], ◌∷◌, ◌++◌, drop, Option, Some, None, Result, Ok, Err}
use Rattle.std.proofs.Common.{sym, ap, subst, ◌∙◌, inl, inr, append-nil}
use Rattle.std.proofs.lemmas.Grind.{flat_map-append}
use Rattle.std.specs.List.{flat_map}
use Rattle.std.specs.FinMap as finite
use Rattle.std.specs.Option.{option_map}
use Rattle.giop_cdr.specs.declared.fault.CdrFault.{CdrFault}
use Rattle.giop_cdr.specs.declared.order.Order.{Order}
use Rattle.giop_cdr.specs.declared.order.Order.TheVariants.{Big}
use Rattle.giop_ids.specs.Runs.{Does, left, told, within}
use Rattle.giop_ids.proofs.Puts.{get-put}
use Rattle.giop_frag.specs.Gathered.{Pieces}
use Rattle.giop_msg.specs.declared.kind.Kind.{Kind}
use Rattle.giop_msg.specs.declared.kind.Kind.TheVariants.{CloseConnection, Fragment}
use Rattle.giop_msg.specs.declared.msg.Msg.{Msg}
use Rattle.giop_msg.specs.declared.version.Version.{Version}
use Rattle.giop_msg.specs.Cut.{AreFragments, IsCut}
use Rattle.giop_msg.specs.Msg.{message_octets}
use Rattle.giop_msg.specs.RequestId.{request_id_of}
use Rattle.giop_session.specs.declared.laws.inputs.Answered.{Answered}
use Rattle.giop_session.specs.declared.laws.inputs.Answered.TheVariants as answer
use Rattle.giop_table.specs.declared.plan.Plan.{Plan}
use Rattle.giop_table.specs.declared.plan.Plan.TheVariants.{Put, Next, Leave}
use Rattle.giop_table.specs.declared.plan.Planned.{Planned}
use Rattle.giop_end.specs.declared.session_fault.SessionFault.{SessionFault}
use Rattle.giop_table.specs.declared.slot.Slot.{Slot}
use Rattle.giop_table.specs.declared.table_fault.TableFault.{TableFault}
use Rattle.giop_table.specs.CallTable.{Act, Answers, Call, Held, Hears, IsTaken, Nothing, Reply, at, brought, event_reply, put_call, taken, turned}
use Rattle.giop_session.specs.Runs.Driven.{Closes, Deed, EndRuns, Feeds, IsDoneBy, IsGivenBy, PutsOut, TakesOut}
use Rattle.giop_end.specs.Ends.Begun.{EndState}
use Rattle.giop_end.specs.Hearing.Feeding.{Through}
use Rattle.giop_end.specs.Hearing.Heard.{ActsOn, Breaks, Heard, IsHeardAs, heard_by, heard_of, SideOf, turn_at, rules_at, hears}
use Rattle.giop_session.specs.Acts.PutOut.{AreOf, ArePutOut}
use Rattle.giop_end.specs.Acts.Putting.{Puts, octets_of, put_out}
use Rattle.giop_table.specs.Sending.{Sends, entry_of, message_of, sending_step, sends_of, settled_by, slot_of, unsent_after, unsent_of}
use Rattle.giop_end.specs.Acts.Sent.{close_connection}
use Rattle.giop_table.specs.Unsent.{first_of}

module _ (sends : Kind → Bool) where
  dropped : (messages : List Msg) → AreOf sends messages → AreOf sends (drop 1 messages)
  dropped [] are = tt
  dropped (m ∷ messages) are = are.1

  -- a message, if there is one
  abbrev IsOf : Option Msg → Type 0
  IsOf None = Unit {0}
  IsOf (Some m) = sends m.kind ≡ true

  first_is : (messages : List Msg) → AreOf sends messages → IsOf (first_of messages)
  first_is [] are = tt
  first_is (m ∷ messages) are = are.0

  -- those that a plan puts out
  abbrev pub PlanIsOf : Plan → Type 0
  PlanIsOf (Put messages) = AreOf sends messages
  PlanIsOf Next = Unit {0}
  PlanIsOf Leave = Unit {0}

  after_is : (plan : Plan) (unsent : List Msg) → PlanIsOf plan → AreOf sends unsent → AreOf sends (unsent_after plan unsent)
  after_is (Put messages) unsent planned are = dropped messages planned
  after_is Next unsent planned are = dropped unsent are
  after_is Leave unsent planned are = are

  message_is : (plan : Plan) (unsent : List Msg) → PlanIsOf plan → AreOf sends unsent → IsOf (message_of plan unsent)
  message_is (Put messages) unsent planned are = first_is messages planned
  message_is Next unsent planned are = first_is unsent are
  message_is Leave unsent planned are = tt

  -- what is put out, and one message more
  more_of : (one other : List Msg) → AreOf sends one → AreOf sends other → AreOf sends (one ++ other)
  more_of [] other are those = those
  more_of (m ∷ one) other (is, are) those = (is, more_of one other are those)

  message_more : (out : List ℕ) (message : Option Msg) → ArePutOut sends out → IsOf message → ArePutOut sends (out ++ octets_of message)
  message_more out None put is = rw (append-nil out) put
  message_more out (Some m) put is = record {
    messages = put.messages ++ m ∷ [];
    own = more_of put.messages (m ∷ []) put.own (is, tt);
    whole = ap (λ l. l ++ message_octets m) put.whole
        ∙ ap (λ l. flat_map message_octets put.messages ++ l) (sym (append-nil (message_octets m)))
        ∙ sym (flat_map-append message_octets put.messages (m ∷ []));
  }

  -- what is cut is of its kind, and Fragments
  fragments_are : (order : Order) (id : List ℕ) (piece : ℕ) (octets : List ℕ) (messages : List Msg) → sends Fragment ≡ true
      → AreFragments order id piece octets messages → AreOf sends messages
  fragments_are order id piece octets [] fragment are = absurd are
  fragments_are order id piece octets (m ∷ []) fragment (is, some, rest) = (ap (λ n. sends n.kind) is ∙ fragment, tt)
  fragments_are order id piece octets (m ∷ n ∷ messages) fragment (is, large, rest) =
      (ap (λ n. sends n.kind) is ∙ fragment, fragments_are order id piece (drop (piece - 16) octets) (n ∷ messages) fragment rest)

  pub cut_are : (version : Version) (kind : Kind) (order : Order) (octets : List ℕ) (piece : ℕ) (messages : List Msg) → sends kind ≡ true
      → sends Fragment ≡ true → IsCut version kind order octets piece messages → AreOf sends messages
  cut_are version kind order octets piece [] own fragment cut = absurd cut
  cut_are version kind order octets piece (m ∷ []) own fragment (is, rest) = (ap (λ n. sends n.kind) is ∙ own, tt)
  cut_are version kind order octets piece (m ∷ n ∷ messages) own fragment (is, twelve, large, rest) =
      (ap (λ n. sends n.kind) is ∙ own, fragments_are order _ piece _ (n ∷ messages) fragment rest)

  -- those of a slot, of all slots, and of an end
  abbrev SlotIsOf : {E : Type 0} → Option (Slot E) → Type 0
  SlotIsOf slot = AreOf sends (unsent_of slot)

  abbrev pub TableIsOf : {R E : Type 0} → Held R E → Type 0
  TableIsOf h = (id : ℕ) → SlotIsOf (finite.get h.table id)

  abbrev pub EndIsOf : {R E : Type 0} → EndState (Held R E) → Type 0
  EndIsOf s = TableIsOf s.calls × ArePutOut sends s.outgoing

  -- those that an act, a message that comes, or an input may put out
  abbrev pub ActIsOf : {V : Type 0} → Act V → Type 0
  ActIsOf (Hears planned brings) = PlanIsOf planned.plan
  ActIsOf IsTaken = Unit {0}

  abbrev HeardIsOf : {V : Type 0} → Heard V → Type 0
  HeardIsOf (Breaks why) = Unit {0}
  HeardIsOf (ActsOn id act) = ActIsOf act

  abbrev pub DeedIsOf : {V F : Type 0} → Deed V F → Type 0
  DeedIsOf {V} (Feeds octets) = Unit {0}
  DeedIsOf {V} (PutsOut id refusal Plans) = (planned : Planned V) → Plans planned → PlanIsOf planned.plan
  DeedIsOf {V} (TakesOut id) = Unit {0}
  DeedIsOf {V} Closes = sends CloseConnection ≡ true

  module _ {R E V A F : Type 0} (side : SideOf R E V A F) where
    slot_is : (entry : Option E) (unsent : List Msg) → AreOf sends unsent → SlotIsOf (slot_of entry unsent)
    slot_is None unsent are = tt
    slot_is (Some entry) unsent are = are

    settled_is : (entry : Option E) (plan : Plan) (unsent : List Msg) (outcome : Result A F) → PlanIsOf plan → AreOf sends unsent
        → SlotIsOf (settled_by entry plan unsent outcome).entry
    settled_is entry plan unsent (Ok outs) planned are = slot_is entry (unsent_after plan unsent) (after_is plan unsent planned are)
    settled_is entry plan unsent (Err why) planned are = slot_is entry unsent are

    -- the message of an accepted event
    abbrev sent_of : Result (Sends A) F → Sends A → Sends A
    sent_of (Ok sent) other = sent
    sent_of (Err why) other = other

    settled_sends : (plan : Plan) (unsent : List Msg) (outcome : Result A F) (sent : Sends A)
        → sends_of plan unsent outcome ≡ Ok sent → PlanIsOf plan → AreOf sends unsent → IsOf sent.message
    settled_sends plan unsent (Ok outs) sent is planned are =
        subst (λ s. IsOf s.message) (ap (λ r. sent_of r sent) is) (message_is plan unsent planned are)
    settled_sends plan unsent (Err why) sent is planned are = absurd cc

    turned_is : (pieces : Option Pieces) (call : Call E) (slot : Option (Slot E)) (outcome : Result (Sends A) F) → SlotIsOf call.slot
        → SlotIsOf slot → SlotIsOf (left call (turned side.gathering pieces slot outcome)).slot
    turned_is pieces call slot (Ok sent) before after = after
    turned_is pieces call slot (Err why) before after = before

    taken_is : (over : Option Bool) (call : Call E) → SlotIsOf call.slot
        → SlotIsOf (left call (taken {E = E} {A = A} {F = F} over call)).slot
    taken_is None call is = tt
    taken_is (Some true) call is = tt
    taken_is (Some false) call is = is

    turn_is : (rule : R) (call : Call E) (act : Act V) → SlotIsOf call.slot → ActIsOf act
        → SlotIsOf (left call (turn_at side rule call act)).slot
    turn_is rule call (Hears planned brings) is act =
        turned_is (brought brings call.pieces) call (sending_step (side.next rule) call.slot planned).entry
        (sends_of planned.plan (unsent_of call.slot) (sending_step (side.next rule) call.slot planned).outcome) is
        (settled_is (side.next rule (entry_of call.slot) planned.event).entry planned.plan (unsent_of call.slot)
        (side.next rule (entry_of call.slot) planned.event).outcome act is)
    turn_is rule call IsTaken is act = taken_is (option_map (λ slot. side.closed rule slot.entry) call.slot) call is

    put_is : (h : Held R E) (id : ℕ) (call : Call E) → TableIsOf h → SlotIsOf call.slot → TableIsOf (put_call h id call)
    put_is h id call table is q = subst SlotIsOf (sym (get-put h.table id call.slot q)) (by_test (q == id))
      where
        by_test : (b : Bool) → SlotIsOf (cond b call.slot (finite.get h.table q))
        by_test true = is
        by_test false = table q

    does_is : (h k : Held R E) (id : ℕ) (act : Act V) (result : Result (Reply E A) (TableFault F))
        → Does (rules_at side h.rule) h (record { id = id; what = act }) result k
        → TableIsOf h → ActIsOf act → TableIsOf k
    does_is h k id act (Ok reply) does table is =
        subst TableIsOf (sym does.leaves)
        (put_is h id (left (at h id) (turn_at side h.rule (at h id) act)) table
        (turn_is h.rule (at h id) act (table id) is))
    does_is h k id act (Err why) does table is = subst TableIsOf (sym does.leaves) table

    -- what is told of an event that is accepted is what its step sends
    abbrev sent_in : Result (Reply E A) (TableFault F) → Sends A → Sends A
    sent_in (Ok (Answers one)) other = one
    sent_in _ other = other

    turned_sends : (over : Option (TableFault F)) (pieces : Option Pieces) (slot : Option (Slot E)) (outcome : Result (Sends A) F) (sent : Sends A)
        → told (within over (turned {E = E} side.gathering pieces slot outcome)) ≡ Ok (Answers sent) → outcome ≡ Ok sent
    turned_sends None pieces slot (Ok one) sent is = ap (λ r. Ok (sent_in r sent)) is
    turned_sends (Some why) pieces slot (Ok one) sent is = absurd cc
    turned_sends None pieces slot (Err why) sent is = absurd cc
    turned_sends (Some over) pieces slot (Err why) sent is = absurd cc

    does_sends : (h k : Held R E) (id : ℕ) (planned : Planned V) (answered : Result (Sends A) (TableFault F)) (out : List ℕ)
        → Does (rules_at side h.rule) h (record { id = id; what = Hears planned Nothing }) (event_reply answered) k
        → TableIsOf h → PlanIsOf planned.plan → ArePutOut sends out → ArePutOut sends (out ++ put_out answered)
    does_sends h k id planned (Err why) out does table is put = rw (append-nil out) put
    does_sends h k id planned (Ok sent) out does table is put =
        message_more out sent.message put
        (settled_sends planned.plan (unsent_of (finite.get h.table id)) (side.next h.rule (entry_of (finite.get h.table id)) planned.event).outcome sent
        (turned_sends _ (brought Nothing (finite.get h.gathered id)) (sending_step (side.next h.rule) (finite.get h.table id) planned).entry
        (sends_of planned.plan (unsent_of (finite.get h.table id)) (sending_step (side.next h.rule) (finite.get h.table id) planned).outcome)
        sent does.answer) is (table id))

    puts_is : (h k : Held R E) (id : ℕ) (refusal : Option F) (Plans : Planned V → Type 0) (out out' : List ℕ)
        (result : Result (Unit {0}) SessionFault) → ((planned : Planned V) → Plans planned → PlanIsOf planned.plan)
        → Puts (rules_at side h.rule) side.of_rule id refusal Plans h out result k out'
        → TableIsOf h → ArePutOut sends out → TableIsOf k × ArePutOut sends out'
    puts_is h k id refusal Plans out out' result plans (inl (wanting, calls, is)) table put =
        (subst TableIsOf (sym calls) table, subst (ArePutOut sends) (sym is) put)
    puts_is h k id (Some why) Plans out out' result plans (inr (refused, calls, is)) table put =
        (subst TableIsOf (sym calls) table, subst (ArePutOut sends) (sym is) put)
    puts_is h k id None Plans out out' result plans (inr (planned, so, on_call)) table put = (
      does_is h k id (Hears planned Nothing) (event_reply on_call.answered) on_call.does table (plans planned so),
      subst (ArePutOut sends) (sym on_call.puts)
          (does_sends h k id planned on_call.answered out on_call.does table (plans planned so) put),
    )

    heard_is : (broken : Option SessionFault) (name : Option (Result ℕ CdrFault)) (act : ℕ → Act V) → ((id : ℕ) → ActIsOf (act id))
        → HeardIsOf (heard_by broken name act)
    heard_is (Some why) name act is = tt
    heard_is None None act is = tt
    heard_is None (Some (Ok id)) act is = is id
    heard_is None (Some (Err fault)) act is = tt

    hears_as : (heard : Heard V) (h k : Held R E) (result : Result (Unit {0}) SessionFault) → HeardIsOf heard
        → IsHeardAs (rules_at side h.rule) side.of_rule heard h result k → TableIsOf h → TableIsOf k
    hears_as (Breaks why) h k result is (told_so, same) table = subst TableIsOf (sym same) table
    hears_as (ActsOn id act) h k result is (answered, does, told_so) table = does_is h k id act (event_reply answered) does table is

    module _ (comes : (m : Msg) (call : Call E) → ActIsOf (side.act_by m call)) where
      hears_is : (m : Msg) (h k : Held R E) (result : Result (Unit {0}) SessionFault)
          → hears side m h result k → TableIsOf h → TableIsOf k
      hears_is m h k result (inl (wanting, same)) table = subst TableIsOf (sym same) table
      hears_is m h k result (inr heard) table =
          hears_as (heard_of side.breaks side.act_by h m) h k result
          (heard_is (side.breaks m) (request_id_of m) (λ id. side.act_by m (at h id)) (λ id. comes m (at h id))) heard table

      through_is : (h k : Held R E) (messages : List Msg)
          → Through (hears side) h messages k → TableIsOf h → TableIsOf k
      through_is h k [] through table = subst TableIsOf (sym through) table
      through_is h k (m ∷ messages) (mid, first, rest) table =
          through_is mid k messages rest (hears_is m h mid (Ok tt) first table)

      done_is : (deed : Deed V F) (s t : EndState (Held R E)) (answered : Answered E) → DeedIsOf deed
          → IsDoneBy side deed s answered t → EndIsOf s → EndIsOf t
      done_is (Feeds octets) s t answer.Done is (fed, same) (table, put) =
          (through_is s.calls t.calls fed.messages fed.heard table, subst (ArePutOut sends) (sym (ap (λ e. e.outgoing) same)) put)
      done_is (Feeds octets) s t (answer.Taken entry) is done both = absurd done
      done_is (Feeds octets) s t (answer.Refused why) is (fed, same) (table, put) =
          (through_is s.calls t.calls fed.messages fed.heard table, subst (ArePutOut sends) (sym (ap (λ e. e.outgoing) same)) put)
      done_is (PutsOut id refusal Plans) s t answer.Done is (puts, same) (table, put) =
          puts_is s.calls t.calls id refusal Plans s.outgoing t.outgoing _ is puts table put
      done_is (PutsOut id refusal Plans) s t (answer.Taken entry) is done both = absurd done
      done_is (PutsOut id refusal Plans) s t (answer.Refused why) is (puts, same) (table, put) =
          puts_is s.calls t.calls id refusal Plans s.outgoing t.outgoing _ is puts table put
      done_is (TakesOut id) s t answer.Done is done both = absurd done
      done_is (TakesOut id) s t (answer.Taken entry) is (gives, does, same) (table, put) =
          (does_is s.calls t.calls id IsTaken _ does table tt, subst (ArePutOut sends) (sym (ap (λ e. e.outgoing) same)) put)
      done_is (TakesOut id) s t (answer.Refused why) is (still, open_yet, same) both = subst EndIsOf (sym same) both
      done_is Closes s t answer.Done is same (table, put) = (
        subst TableIsOf (sym (ap (λ e. e.calls) same)) table,
        subst (ArePutOut sends) (sym (ap (λ e. e.outgoing) same)) (message_more s.outgoing (Some (close_connection Big)) put is),
      )
      done_is Closes s t (answer.Taken entry) is done both = absurd done
      done_is Closes s t (answer.Refused why) is done both = absurd done

      by_fault : (fault : Option SessionFault) (deed : Deed V F) (s t : EndState (Held R E)) (answered : Answered E) → DeedIsOf deed
          → IsGivenBy side fault deed s answered t → EndIsOf s → EndIsOf t
      by_fault (Some why) deed s t answered is (refused, same) both = subst EndIsOf (sym same) both
      by_fault None deed s t answered is done both = done_is deed s t answered is done both

      -- a run of inputs that put such messages out
      pub run_is : {I : Type 0} (deed : Held R E → I → Deed V F) → ((h : Held R E) (input : I) → DeedIsOf (deed h input))
          → (s t : EndState (Held R E)) (inputs : List I) (answers : List (Answered E))
          → EndRuns side deed s inputs answers t → EndIsOf s → EndIsOf t
      run_is deed are s t [] [] run both = subst EndIsOf (sym run) both
      run_is deed are s t [] (one ∷ answers) run both = absurd run
      run_is deed are s t (input ∷ inputs) [] run both = absurd run
      run_is deed are s t (input ∷ inputs) (one ∷ answers) (mid, first, rest) both =
          run_is deed are mid t inputs answers rest
          (by_fault s.fault (deed s.calls input) s mid one (are s.calls input) first.1 both)
