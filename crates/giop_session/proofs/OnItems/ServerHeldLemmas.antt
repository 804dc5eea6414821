-- Whatever a call at a server's end follows some items say, and what is taken there is an act of its own.
use Rattle.std.proofs.Common.{◌≡◌, ◌⊎◌, ℕ, Bool, true, false, not, cond, is_some, List, [], ◌∷◌, ◌++◌, map, Option, Some, None, Result, Ok, Err, IsOk, refl, sym, ap, subst, ◌∙◌, append-nil, inl, inr}
use Rattle.std.specs.FinMap as finite
use Rattle.giop_cdr.specs.declared.order.Order.{Order}
use Rattle.giop_cdr.specs.declared.fault.CdrFault.{CdrFault}
use Rattle.giop_types.specs.declared.interfaces.interface.Interface.{Interface}
use Rattle.giop_frag.specs.Gathered.{Pieces, same_order}
use Rattle.giop_ids.specs.Runs.{left}
use Rattle.giop_msg.specs.declared.kind.Kind.{Kind}
use Rattle.giop_msg.specs.declared.kind.Kind.TheVariants as message
use Rattle.giop_msg.specs.declared.messages.request.Request.{Request}
use Rattle.giop_msg.specs.declared.messages.request_fault.RequestFault.{RequestFault}
use Rattle.giop_msg.specs.declared.msg.Msg.{Msg}
use Rattle.giop_msg.specs.declared.version.Version.{Version}
use Rattle.giop_msg.specs.declared.version.Version.TheVariants.{V12}
use Rattle.giop_msg.specs.Cut.{joined}
use Rattle.giop_msg.specs.Joined.{whole_of_joined}
use Rattle.giop_msg.specs.Locate.{AnyLocateRequest, locate_request}
use Rattle.giop_msg.specs.Messages.RequestAnswer.{request_of_joined}
use Rattle.giop_msg.proofs.JoinedLemmas.{whole_is, whole_only}
use Rattle.giop_msg.proofs.LocateLemmas.{locate_request_is}
use Rattle.giop_msg.proofs.WholeMessages.RequestLemmas.{request_found, request_only}
use Rattle.giop_mux.specs.Faults.{no_fault}
use Rattle.giop_mux.specs.Runs.{Hears as IsTold, IsTaken as TakesOut}
use Rattle.giop_calls.specs.declared.fault.CallFault.{CallFault}
use Rattle.giop_calls.specs.declared.kind.CallKind.{CallKind}
use Rattle.giop_calls.specs.declared.kind.CallKind.TheVariants as kind
use Rattle.giop_calls.specs.declared.server.entry.ServerEntry.{ServerEntry}
use Rattle.giop_calls.specs.declared.server.entry.ServerEntry.TheVariants as server
use Rattle.giop_calls.specs.declared.server.event.ServerEvent.{ServerEvent}
use Rattle.giop_calls.specs.declared.server.event.ServerEvent.TheVariants as event
use Rattle.giop_calls.specs.declared.server.heard.HeardCall.{HeardCall}
use Rattle.giop_calls.specs.declared.server.heard.HeardCall.TheVariants as heard_as
use Rattle.giop_calls.specs.declared.server.rule.ServerRule.{ServerRule}
use Rattle.giop_calls.specs.Messages.{is_oneway}
use Rattle.giop_calls.specs.ServerTable as table
use Rattle.giop_calls.specs.ServerTable.{arrived, is_closed, is_gathering, server_step}
use Rattle.giop_session.specs.declared.laws.inputs.Answered.{Answered}
use Rattle.giop_session.specs.declared.laws.inputs.ServerInput.{ServerInput}
use Rattle.giop_session.specs.declared.laws.inputs.ServerInput.TheVariants as input
use Rattle.giop_end.specs.declared.limits.Limits.{Limits}
use Rattle.giop_end.specs.declared.session_fault.SessionFault.{SessionFault}
use Rattle.giop_table.specs.declared.plan.Plan.{Plan}
use Rattle.giop_table.specs.declared.plan.Plan.TheVariants.{Leave}
use Rattle.giop_table.specs.declared.slot.Slot.{Slot}
use Rattle.giop_table.specs.CallTable.{Act, Call, First, Held, Hears, IsTaken, Nothing, at, gathers}
use Rattle.giop_table.specs.Sending.{entry_of, settled_by, slot_of, unsent_of}
use Rattle.giop_end.specs.Acts.ServerAnswers.{IsAnswer, IsLocateAnswer, locate_of, question_of}
use Rattle.giop_end.specs.Hearing.Decoding.{heard_call}
use Rattle.giop_end.specs.Hearing.Heard.{silently}
use Rattle.giop_end.specs.Hearing.ServerHears.{act_by_kind, breaks_by, comes, gathered_kind, server_act, server_breaks, server_pieces}
use Rattle.giop_end.specs.Hearing.Pieces.{continued, continues}
use Rattle.giop_session.specs.Items.Carries.{Bad, Begun, Cancel, Did, Got, IsSeries, Rest}
use Rattle.giop_session.specs.Items.ServerCarries.{SpellsCall, asks, server_telling}
use Rattle.giop_session.specs.Runs.Driven.{IsAct}
use Rattle.giop_session.specs.Runs.Events.{Comes, Event, Follows, what, Does as DoesTo}
use Rattle.giop_session.specs.Runs.Inputs.{Input}
use Rattle.giop_session.specs.Runs.ServerRuns.{server_deed}
use Rattle.giop_session.proofs.OnItems.HeldLemmas.{Each, Ends, Goes, GoesOn, IsOwnInput, IsTakenEvent, Said, all_said, ends_with, one_said}
use Rattle.giop_session.proofs.OnItems.ItemLemmas.{call_of, heard}
use Rattle.giop_session.proofs.OnItems.SeriesLemmas.{continued_version, fragment_version, joined_on, message_is, orders, series_on, twice}
use Rattle.giop_session.proofs.OnItems.ServerItemLemmas.{begun, first_act, more_act, server_item_leaves, server_turn}
use Rattle.giop_end.specs.Acts.InPieces.{server_sends}
use Rattle.giop_end.proofs.OnActs.QuietLemmas.{answer_locate_quiet, answer_quiet, piece_quiet}

-- the acts that a server's end does itself
abbrev pub is_own : ServerEvent → Bool
is_own (event.Answer reply pieces) = true
is_own (event.AnswerLocate here) = true
is_own event.Send = true
is_own _ = false

-- no message is gathered
abbrev pub Away : Option ServerEntry → Type 0
Away entry = gathers is_gathering (slot_of entry []) ≡ false

arrived_away : (call : HeardCall) → Away (Some (arrived call))
arrived_away (heard_as.Request request) = by_flags (is_oneway request)
  where
    by_flags : (b : Bool) → is_gathering (cond b (server.Delivered request) (server.Asked request)) ≡ false
    by_flags true = refl
    by_flags false = refl
arrived_away (heard_as.Locate request) = refl
arrived_away (heard_as.Undecoded call) = refl

cancel_away : (entry : Option ServerEntry) → Away (table.cancel entry).entry
cancel_away None = refl
cancel_away (Some (server.Gathering kind)) = refl
cancel_away (Some (server.Asked request)) = refl
cancel_away (Some (server.LocateAsked request)) = refl
cancel_away (Some (server.Undecoded call)) = by_expected (is_some call.expects)
  where
    by_expected : (b : Bool) → is_gathering (cond b (server.Cancelled false 0) (server.Undecoded call)) ≡ false
    by_expected true = refl
    by_expected false = refl
cancel_away (Some (server.Answered asked reply left)) = refl
cancel_away (Some (server.LocateAnswered target here)) = refl
cancel_away (Some (server.Delivered request)) = refl
cancel_away (Some (server.Cancelled answered left)) = refl

-- an act of the server's own begins none
quiet_is : (entry : Option ServerEntry) (plan : Plan) (unsent : List Msg) (outcome : Result (Unit {0}) CallFault)
    → gathers is_gathering (settled_by entry plan unsent outcome).entry ≡ false → Away entry
quiet_is None plan unsent outcome is = refl
quiet_is (Some entry) plan unsent (Ok done) is = is
quiet_is (Some entry) plan unsent (Err fault) is = is

own_away : (entry : Option ServerEntry) (act : ServerEvent) → is_own act ≡ true → Away entry → Away (server_step entry act).entry
own_away None (event.Answer reply pieces) owned away = refl
own_away None (event.AnswerLocate here) owned away = refl
own_away None event.Send owned away = refl
own_away (Some entry) (event.Answer reply pieces) owned away =
    quiet_is (table.answer (Some entry) reply pieces).entry Leave [] (table.answer (Some entry) reply pieces).outcome
    (answer_quiet (Some (record { entry = entry; unsent = [] })) reply pieces Leave away)
own_away (Some entry) (event.AnswerLocate here) owned away =
    quiet_is (table.answer_locate (Some entry) here).entry Leave [] (table.answer_locate (Some entry) here).outcome
    (answer_locate_quiet (Some (record { entry = entry; unsent = [] })) here Leave away)
own_away (Some entry) event.Send owned away =
    quiet_is (table.send (Some entry)).entry Leave [] (table.send (Some entry)).outcome
    (piece_quiet table.server_step table.is_gathering event.Send (Some (record { entry = entry; unsent = [] })) Leave server_sends away)
own_away entry (event.First kind) owned away = absurd cc
own_away entry (event.Whole call) owned away = absurd cc
own_away entry (event.More in_order) owned away = absurd cc
own_away entry (event.Last in_order call) owned away = absurd cc
own_away entry event.Cancel owned away = absurd cc

-- a call whose message is gathered
abbrev pub gathering : CallKind → Order → List Msg → List ℕ → Call ServerEntry
gathering k order unsent octets = record {
  slot = Some (record { entry = server.Gathering k; unsent = unsent });
  pieces = Some (record { order = order; octets = octets });
}

abbrev Passes : Call ServerEntry → Act ServerEvent → Type 0
Passes call act = IsOk (server_turn call act)

-- it refuses what the server does itself, and to be taken out
own_refused : (k : CallKind) (order : Order) (unsent : List Msg) (octets : List ℕ) (act : ServerEvent) (plan : Plan) → is_own act ≡ true
    → Passes (gathering k order unsent octets) (Hears (record { event = act; plan = plan }) Nothing) → ⊥
own_refused k order unsent octets (event.Answer reply pieces) plan owned ok = no_fault ok
own_refused k order unsent octets (event.AnswerLocate here) plan owned ok = no_fault ok
own_refused k order unsent octets event.Send plan owned ok = no_fault ok
own_refused k order unsent octets (event.First kind) plan owned ok = cc
own_refused k order unsent octets (event.Whole call) plan owned ok = cc
own_refused k order unsent octets (event.More in_order) plan owned ok = cc
own_refused k order unsent octets (event.Last in_order call) plan owned ok = cc
own_refused k order unsent octets event.Cancel plan owned ok = cc

module _ (interface : Interface) (limit : ℕ) where
  abbrev pub IsMet : Event ServerEvent → Type 0
  IsMet = IsTakenEvent limit server_breaks is_own

  abbrev pub Stands : Option ServerEntry → Call ServerEntry → Type 0
  Stands entry call = entry_of call.slot ≡ entry

  -- these messages are open at a call: they are gathered there
  pub record Open (entry : Option ServerEntry) (front : List Msg) (call : Call ServerEntry) : Type 0 where
    pub k : CallKind
    pub order : Order
    pub unsent : List Msg
    pub series : IsSeries (asks k) V12 order true front
    pub there : call ≡ gathering k order unsent (joined front)

  abbrev pub GoesSo : Option ServerEntry → List Msg → Call ServerEntry → Event ServerEvent → Type 0
  GoesSo = Goes server_turn (server_act interface) (server_telling interface) Stands (server_item_leaves interface) IsMet Away Open

  abbrev pub SaidSo : Option ServerEntry → List (Event ServerEvent) → Type 0
  SaidSo = Said server_turn (server_act interface) (server_telling interface) Stands (server_item_leaves interface) IsMet Away Open

  -- octets spell a call, or none
  spelled : (k : CallKind) (version : Version) (order : Order) (octets : List ℕ)
      → ((call : HeardCall) × SpellsCall interface k version order octets call)
      ⊎ ((call : HeardCall) → SpellsCall interface k version order octets call → ⊥)
  spelled kind.Request version order octets = by_read (request_of_joined interface version order octets) refl
    where
      none : (e : RequestFault) → request_of_joined interface version order octets ≡ Err e → (call : HeardCall)
          → SpellsCall interface kind.Request version order octets call → ⊥
      none e is (heard_as.Request asked) spells = let read = request_only interface version order octets asked spells in cc
      none e is (heard_as.Locate asked) spells = spells
      none e is (heard_as.Undecoded call) spells = spells

      by_read : (read : Result Request RequestFault) → request_of_joined interface version order octets ≡ read
          → ((call : HeardCall) × SpellsCall interface kind.Request version order octets call)
          ⊎ ((call : HeardCall) → SpellsCall interface kind.Request version order octets call → ⊥)
      by_read (Ok asked) is = inl (heard_as.Request asked, request_found interface version order octets asked is)
      by_read (Err e) is = inr (none e is)
  spelled kind.Locate version order octets = by_read (whole_of_joined (locate_request version) order octets) refl
    where
      none : (e : CdrFault) → whole_of_joined (locate_request version) order octets ≡ Err e → (call : HeardCall)
          → SpellsCall interface kind.Locate version order octets call → ⊥
      none e is (heard_as.Locate asked) spells = let read = whole_only (locate_request_is version) order octets asked spells in cc
      none e is (heard_as.Request asked) spells = spells
      none e is (heard_as.Undecoded call) spells = spells

      by_read : (read : Result AnyLocateRequest CdrFault) → whole_of_joined (locate_request version) order octets ≡ read
          → ((call : HeardCall) × SpellsCall interface kind.Locate version order octets call)
          ⊎ ((call : HeardCall) → SpellsCall interface kind.Locate version order octets call → ⊥)
      by_read (Ok asked) is = inl (heard_as.Locate asked, whole_is (locate_request_is version) order octets asked is)
      by_read (Err e) is = inr (none e is)

  -- a series with its last message is said
  told : (entry : Option ServerEntry) (front : List Msg) (call : Call ServerEntry) (m : Msg) (k : CallKind) (version : Version) (order : Order)
      → IsSeries (asks k) version order false (front ++ m ∷ []) → GoesSo entry front call (Comes m)
  told entry front call m k version order series = elim (spelled k version order (joined (front ++ m ∷ []))) [
    | inl found ↦ ends_with server_turn (server_act interface) (server_telling interface) Stands (server_item_leaves interface) IsMet Away Open
        entry front call m (Got found.0) (k, version, order, front ++ m ∷ [], refl, series, found.1) (arrived_away found.0)
    | inr none ↦ ends_with server_turn (server_act interface) (server_telling interface) Stands (server_item_leaves interface) IsMet Away Open
        entry front call m (Bad k version order (joined (front ++ m ∷ []))) (front ++ m ∷ [], refl, series, refl, none)
        (arrived_away (heard_call interface k version order (joined (front ++ m ∷ []))))
  ]

  -- ---- where nothing is open

  -- a Request or a LocateRequest is said, or is open
  asked : (entry : Option ServerEntry) (call : Call ServerEntry) (m : Msg) (k : CallKind) → IsMet (Comes m) → m.kind ≡ asks k
      → Passes call (server_act interface m call) → GoesSo entry [] call (Comes m)
  asked entry call m k met is ok = by_more m.more refl
    where
      by_more : (more : Bool) → m.more ≡ more → GoesSo entry [] call (Comes m)
      by_more false last = told entry [] call m k m.version m.order (message_is m m.version (asks k) m.order false refl is refl last)
      by_more true more =
          let same = message_is m V12 (asks k) m.order true (continued_version limit m met.0 more) is refl more in
          let act = ap (λ n. server_act interface n call) same ∙ first_act interface k V12 m.order m.payload call in
          let did = heard server_step is_closed is_gathering call (silently (event.First k)) (First m.order m.payload) (subst (Passes call) act ok) in
          GoesOn m refl (record {
            k = k;
            order = m.order;
            unsent = unsent_of call.slot;
            series = same;
            there = ap (λ act. left call (server_turn call act)) act ∙ did.leaves
                ∙ ap (λ entry. call_of server_step is_closed is_gathering entry (unsent_of call.slot)
                (Some (record { order = m.order; octets = m.payload })))
                (begun (entry_of call.slot) (server.Gathering k) did.accepted)
                ∙ ap (gathering k m.order (unsent_of call.slot)) (sym (append-nil m.payload));
          })

  -- a Fragment where none is gathered comes behind a cancel
  behind_cancel : (m : Msg) (slot : Option (Slot ServerEntry)) (pieces : Option Pieces) (entry : Option ServerEntry) → entry_of slot ≡ entry → Away entry
      → Passes (record { slot = slot; pieces = pieces }) (continues server_pieces interface m (continued m.order (gathered_kind slot) pieces))
      → (answered : Bool) × (left_over : ℕ) × (entry ≡ Some (server.Cancelled answered left_over))
  behind_cancel m None pieces entry stands away ok = absurd (no_fault ok)
  behind_cancel m (Some slot) pieces entry stands away ok =
      by_entry slot.entry stands ok
    where
      by_entry : (e : ServerEntry) → ◌≡◌ {A = Option ServerEntry} (Some e) entry
          → Passes (record { slot = Some (record { entry = e; unsent = slot.unsent }); pieces = pieces })
          (continues server_pieces interface m (continued m.order (gathered_kind (Some (record { entry = e; unsent = slot.unsent }))) pieces))
          → (answered : Bool) × (left_over : ℕ) × (entry ≡ Some (server.Cancelled answered left_over))
      by_entry (server.Cancelled answered left_over) stands ok = (answered, left_over, sym stands)
      by_entry (server.Gathering k) stands ok = absurd (let gathers : true ≡ false = subst Away (sym stands) away in cc)
      by_entry (server.Asked request) stands ok = absurd (no_fault ok)
      by_entry (server.LocateAsked request) stands ok = absurd (no_fault ok)
      by_entry (server.Undecoded call) stands ok = absurd (no_fault ok)
      by_entry (server.Answered q reply left_over) stands ok = absurd (no_fault ok)
      by_entry (server.LocateAnswered target here) stands ok = absurd (no_fault ok)
      by_entry (server.Delivered request) stands ok = absurd (no_fault ok)

  -- what ends the session isn't met
  broken : (m : Msg) (k : Kind) (why : SessionFault) → m.kind ≡ k → breaks_by k ≡ Some why → server_breaks m ≡ None → ⊥
  broken m k why is breaks none = let told = sym (ap breaks_by is) ∙ none in cc

  begins : (entry : Option ServerEntry) (call : Call ServerEntry) (e : Event ServerEvent) → Stands entry call → Away entry → IsMet e
      → IsOk (server_turn call (what server_turn (server_act interface) e call)) → GoesSo entry [] call e
  begins entry call (Comes m) stands away met ok = by_kind m.kind refl
    where
      by_kind : (k : Kind) → m.kind ≡ k → GoesSo entry [] call (Comes m)
      by_kind message.Request is = asked entry call m kind.Request met is ok
      by_kind message.LocateRequest is = asked entry call m kind.Locate met is ok
      by_kind message.CancelRequest is =
          ends_with server_turn (server_act interface) (server_telling interface) Stands (server_item_leaves interface) IsMet Away Open
          entry [] call m Cancel (m, is, refl) (cancel_away entry)
      by_kind message.Fragment is =
          let was = behind_cancel m call.slot call.pieces entry stands away (subst (Passes call) (ap (act_by_kind interface m call) is) ok) in
          ends_with server_turn (server_act interface) (server_telling interface) Stands (server_item_leaves interface) IsMet Away Open
          entry [] call m (Rest (not m.more)) (was, m ∷ [], refl, (is, twice m.more)) away
      by_kind message.Reply is = absurd (broken m message.Reply _ is refl met.1)
      by_kind message.LocateReply is = absurd (broken m message.LocateReply _ is refl met.1)
      by_kind message.CloseConnection is = absurd (broken m message.CloseConnection _ is refl met.1)
      by_kind message.MessageError is = absurd (broken m message.MessageError _ is refl met.1)
  begins entry call (DoesTo id (IsTold planned)) stands away owned ok =
      Ends (one_said server_turn (server_act interface) (server_telling interface) Stands (server_item_leaves interface) IsMet Away Open
      entry (Did (IsTold planned.event)) (DoesTo id (IsTold planned) ∷ []) (id, IsTold planned, refl, refl)) (own_away entry planned.event owned away)
  begins entry call (DoesTo id TakesOut) stands away owned ok =
      Ends (one_said server_turn (server_act interface) (server_telling interface) Stands (server_item_leaves interface) IsMet Away Open
      entry (Did TakesOut) (DoesTo id TakesOut ∷ []) (id, TakesOut, refl, refl)) refl

  -- ---- where messages are open

  in_use : (m : Msg) (k other : CallKind) (order : Order) (unsent : List Msg) (octets : List ℕ)
      → Passes (gathering k order unsent octets) (comes interface other m) → ⊥
  in_use m k other order unsent octets ok = by_more m.more ok
    where
      by_more : (more : Bool) → Passes (gathering k order unsent octets)
          (cond more (Hears (silently (event.First other)) (First m.order m.payload))
          (Hears (silently (event.Whole (heard_call interface other m.version m.order m.payload))) Nothing)) → ⊥
      by_more true ok = no_fault ok
      by_more false ok = no_fault ok

  differs : (m : Msg) (k : CallKind) (order : Order) (unsent : List Msg) (octets : List ℕ) → same_order m.order order ≡ false
      → Passes (gathering k order unsent octets)
      (continues server_pieces interface m (continued m.order (Some k) (Some (record { order = order; octets = octets })))) → ⊥
  differs m k order unsent octets is ok =
      no_fault (subst (λ same. Passes (gathering k order unsent octets) (continues server_pieces interface m (cond same (Some (k, octets)) None))) is ok)

  -- a Fragment in their order
  fragment : (entry : Option ServerEntry) (front : List Msg) (call : Call ServerEntry) (m : Msg) (opened : Open entry front call) → IsMet (Comes m)
      → m.kind ≡ message.Fragment → m.order ≡ opened.order → GoesSo entry front call (Comes m)
  fragment entry front call m opened met is in_order = by_more m.more refl
    where
      by_more : (more : Bool) → m.more ≡ more → GoesSo entry front call (Comes m)
      by_more false last =
          let same = message_is m V12 message.Fragment opened.order false (fragment_version limit m met.0 is) is in_order last in
          told entry front call m opened.k V12 opened.order (series_on front m (asks opened.k) V12 opened.order false opened.series same)
      by_more true more =
          let same = message_is m V12 message.Fragment opened.order true (fragment_version limit m met.0 is) is in_order more in
          let here = gathering opened.k opened.order opened.unsent (joined front) in
          let act = ap (λ n. server_act interface n here) same ∙ more_act interface opened.k V12 opened.order opened.unsent (joined front) m.payload in
          GoesOn m refl (record {
            k = opened.k;
            order = opened.order;
            unsent = opened.unsent;
            series = series_on front m (asks opened.k) V12 opened.order true opened.series same;
            there = ap (λ c. left c (server_turn c (server_act interface m c))) opened.there
                ∙ ap (λ act. left here (server_turn here act)) act
                ∙ ap (gathering opened.k opened.order opened.unsent) (sym (joined_on front m (asks opened.k) V12 opened.order opened.series));
          })

  goes_on : (entry : Option ServerEntry) (front : List Msg) (call : Call ServerEntry) (e : Event ServerEvent) → Open entry front call → IsMet e
      → IsOk (server_turn call (what server_turn (server_act interface) e call)) → GoesSo entry front call e
  goes_on entry front call (Comes m) opened met ok = by_kind m.kind refl
    where
      passes : (k : Kind) → m.kind ≡ k → Passes (gathering opened.k opened.order opened.unsent (joined front))
          (act_by_kind interface m (gathering opened.k opened.order opened.unsent (joined front)) k)
      passes k is =
          let here = gathering opened.k opened.order opened.unsent (joined front) in
          subst (λ k. Passes here (act_by_kind interface m here k)) is (subst (λ c. Passes c (server_act interface m c)) opened.there ok)

      by_kind : (k : Kind) → m.kind ≡ k → GoesSo entry front call (Comes m)
      by_kind message.Request is = absurd (in_use m opened.k kind.Request opened.order opened.unsent (joined front) (passes message.Request is))
      by_kind message.LocateRequest is =
          absurd (in_use m opened.k kind.Locate opened.order opened.unsent (joined front) (passes message.LocateRequest is))
      by_kind message.CancelRequest is =
          Ends (
            Begun opened.k ∷ Cancel ∷ [],
            (
              map Comes front,
              Comes m ∷ [],
              refl,
              (V12, opened.order, front, refl, opened.series),
              (Comes m ∷ [], [], refl, (m, is, refl), refl),
            ),
          ) refl
      by_kind message.Fragment is = elim (orders m.order opened.order) [
        | inl in_order ↦ fragment entry front call m opened met is in_order
        | inr differing ↦ absurd (differs m opened.k opened.order opened.unsent (joined front) differing (passes message.Fragment is))
      ]
      by_kind message.Reply is = absurd (broken m message.Reply _ is refl met.1)
      by_kind message.LocateReply is = absurd (broken m message.LocateReply _ is refl met.1)
      by_kind message.CloseConnection is = absurd (broken m message.CloseConnection _ is refl met.1)
      by_kind message.MessageError is = absurd (broken m message.MessageError _ is refl met.1)
  goes_on entry front call (DoesTo id (IsTold planned)) opened owned ok =
      absurd (own_refused opened.k opened.order opened.unsent (joined front) planned.event planned.plan owned
      (subst (λ c. Passes c (Hears planned Nothing)) opened.there ok))
  goes_on entry front call (DoesTo id TakesOut) opened owned ok = absurd (no_fault (subst (λ c. Passes c IsTaken) opened.there ok))

  stops : (entry : Option ServerEntry) (front : List Msg) (call : Call ServerEntry) → Open entry front call → SaidSo entry (map Comes front)
  stops entry front call opened =
      one_said server_turn (server_act interface) (server_telling interface) Stands (server_item_leaves interface) IsMet Away Open
      entry (Begun opened.k) (map Comes front) (V12, opened.order, front, refl, opened.series)

  pub server_said : (call k : Call ServerEntry) (events : List (Event ServerEvent)) → entry_of call.slot ≡ None
      → Each IsMet events
      → Follows server_turn (server_act interface) call events k → SaidSo None events
  server_said call k events stands met follows =
      all_said server_turn (server_act interface) (server_telling interface) Stands (server_item_leaves interface) IsMet Away Open
      (record { begins = begins; goes_on = goes_on; stops = stops }) None call k events stands refl met follows

-- each input that is taken is an act of the server's own
pub owns : (interface : Interface) (limits : Limits) (h : Held ServerRule ServerEntry) (given : ServerInput) (act : Input ServerEvent)
    → IsAct (server_deed interface limits h given) act → IsOwnInput is_own act
owns interface limits h (input.Feed octets) act is = subst (IsOwnInput is_own) (sym is) tt
owns interface limits h (input.Answer reply form) act (planned, plans, is) =
    subst (IsOwnInput is_own) (sym is) (by_question (question_of (entry_of (finite.get h.table reply.id))) plans)
  where
    by_question : (question : Option (Option Request)) → IsAnswer interface question reply form.form planned → is_own planned.event ≡ true
    by_question None plans = ap (λ p. is_own p.event) plans
    by_question (Some q) plans = ap (λ p. is_own p.event) plans.sent.2
owns interface limits h (input.AnswerLocate id here order) act (planned, plans, is) =
    subst (IsOwnInput is_own) (sym is) (by_version (locate_of here (entry_of (finite.get h.table id))) plans)
  where
    by_version : (version : Option Version) → IsLocateAnswer id here order version planned → is_own planned.event ≡ true
    by_version None plans = ap (λ p. is_own p.event) plans
    by_version (Some version) plans = ap (λ p. is_own p.event) plans.1
owns interface limits h (input.Send id) act (planned, plans, is) = subst (IsOwnInput is_own) (sym is) (ap (λ p. is_own p.event) plans)
owns interface limits h (input.Take id) act is = subst (IsOwnInput is_own) (sym is) tt
owns interface limits h input.Close act is = absurd is
