-- Whatever a call at a client's end follows some items say, and what is taken there is an act of its own.
use Rattle.std.proofs.Common.{◌≡◌, ◌⊎◌, ℕ, Bool, true, false, not, cond, if◌then◌else◌, List, [], ◌∷◌, ◌++◌, map, Option, Some, None, Result, Ok, Err, IsOk, refl, sym, ap, subst, ◌∙◌, append-nil, inl, inr}
use Rattle.std.specs.FinMap as finite
use Rattle.giop_cdr.specs.declared.order.Order.{Order}
use Rattle.giop_cdr.specs.declared.fault.CdrFault.{CdrFault}
use Rattle.giop_types.specs.declared.interfaces.interface.Interface.{Interface}
use Rattle.giop_frag.specs.Gathered.{Pieces, same_order}
use Rattle.giop_ids.specs.Runs.{left}
use Rattle.giop_msg.specs.declared.kind.Kind.{Kind}
use Rattle.giop_msg.specs.declared.kind.Kind.TheVariants as message
use Rattle.giop_msg.specs.declared.messages.locate_reply.LocateReply.{LocateReply}
use Rattle.giop_msg.specs.declared.messages.reply.Reply.{Reply}
use Rattle.giop_msg.specs.declared.msg.Msg.{Msg}
use Rattle.giop_msg.specs.declared.version.Version.{Version}
use Rattle.giop_msg.specs.declared.version.Version.TheVariants.{V12}
use Rattle.giop_msg.specs.Cut.{joined, message_of}
use Rattle.giop_msg.specs.Joined.{joined_from}
use Rattle.giop_msg.specs.Messages.LocateReply.{locate_reply}
use Rattle.giop_msg.specs.Messages.Reply.{reply}
use Rattle.giop_msg.specs.Stream.{Unread}
use Rattle.giop_msg.proofs.WholeMessages.LocateReplyLemmas.{locate_reply_is}
use Rattle.giop_msg.proofs.WholeMessages.ReplyLemmas.{reply_is}
use Rattle.giop_mux.specs.Faults.{no_fault}
use Rattle.giop_mux.specs.Runs.{Hears as IsTold, IsTaken as TakesOut}
use Rattle.giop_calls.specs.declared.fault.CallFault.{CallFault}
use Rattle.giop_calls.specs.declared.kind.CallKind.{CallKind}
use Rattle.giop_calls.specs.declared.kind.CallKind.TheVariants as kind
use Rattle.giop_calls.specs.declared.client.call.Call.{Call as Asked}
use Rattle.giop_calls.specs.declared.client.call.Call.TheVariants as asked
use Rattle.giop_calls.specs.declared.client.entry.ClientEntry.{ClientEntry}
use Rattle.giop_calls.specs.declared.client.entry.ClientEntry.TheVariants as client
use Rattle.giop_calls.specs.declared.client.event.ClientEvent.{ClientEvent}
use Rattle.giop_calls.specs.declared.client.event.ClientEvent.TheVariants as event
use Rattle.giop_calls.specs.declared.client.heard.HeardReply.{HeardReply}
use Rattle.giop_calls.specs.declared.client.heard.HeardReply.TheVariants as heard_as
use Rattle.giop_calls.specs.declared.client.late.Late.{Late}
use Rattle.giop_calls.specs.declared.client.late.Late.TheVariants as late
use Rattle.giop_calls.specs.declared.client.rule.ClientRule.{ClientRule}
use Rattle.giop_calls.specs.ClientTable as table
use Rattle.giop_calls.specs.ClientTable.{client_step, is_gathering, settles}
use Rattle.giop_session.specs.declared.laws.inputs.ClientInput.{ClientInput}
use Rattle.giop_session.specs.declared.laws.inputs.ClientInput.TheVariants as input
use Rattle.giop_end.specs.declared.limits.Limits.{Limits}
use Rattle.giop_end.specs.declared.session_fault.SessionFault.{SessionFault}
use Rattle.giop_table.specs.declared.plan.Plan.{Plan}
use Rattle.giop_table.specs.declared.plan.Plan.TheVariants.{Leave}
use Rattle.giop_table.specs.declared.slot.Slot.{Slot}
use Rattle.giop_table.specs.CallTable.{Act, Call, Held, Hears, IsTaken, Nothing, at, gathers}
use Rattle.giop_table.specs.Sending.{entry_of, settled_by, slot_of}
use Rattle.giop_end.specs.Acts.ClientCalls.{IsCancel, open_version}
use Rattle.giop_end.specs.Hearing.ClientHears.{act_by_kind, breaks_by, client_act, client_breaks, comes, gathered_call, client_pieces}
use Rattle.giop_end.specs.Hearing.Pieces.{continued, continues}
use Rattle.giop_end.specs.Hearing.Heard.{silently}
use Rattle.giop_session.specs.Items.Carries.{Bad, Begun, Did, Got, IsSeries, Rest}
use Rattle.giop_session.specs.Items.ClientCarries.{Known, SpellsReply, answered, begun, client_telling, received, replies, unknown, unspelled}
use Rattle.giop_session.specs.Runs.ClientRuns.{client_deed}
use Rattle.giop_session.specs.Runs.Driven.{IsAct}
use Rattle.giop_session.specs.Runs.Events.{Comes, Event, Follows, what, Does as DoesTo}
use Rattle.giop_session.specs.Runs.Inputs.{Input}
use Rattle.giop_session.proofs.OnHearing.ClientCancelLemmas.{Passes, accepted, client_turn, with}
use Rattle.giop_session.proofs.OnHearing.ClientReplyLemmas.{Nobody, Waits, awaits, begins as begins_reply, first_unread, more_act, unread_first}
use Rattle.giop_session.proofs.OnItems.ClientItemLemmas.{client_item_leaves}
use Rattle.giop_session.proofs.OnItems.HeldLemmas.{Each, Ends, Goes, GoesOn, IsOwnInput, IsTakenEvent, Said, all_said, ends_with, one_said}
use Rattle.giop_session.proofs.OnItems.SeriesLemmas.{continued_version, fragment_version, joined_on, message_is, orders, series_on, twice}
use Rattle.giop_end.specs.Acts.InPieces.{client_sends}
use Rattle.giop_end.proofs.OnActs.QuietLemmas.{call_quiet, cancel_quiet, piece_quiet}

-- the acts that a client's end does itself
abbrev pub is_own : ClientEvent → Bool
is_own (event.Call call pieces) = true
is_own event.Send = true
is_own event.Cancel = true
is_own _ = false

-- no reply is gathered
abbrev pub IsAway : Option ClientEntry → Type 0
IsAway entry = gathers is_gathering (slot_of entry []) ≡ false

abbrev pub Away : Known → Type 0
Away known = IsAway known.entry

settled_away : (call : Asked) (told : HeardReply) → IsAway (settles (client.Waiting call) call told).entry
settled_away (asked.Request request) (heard_as.Reply told) = refl
settled_away (asked.Request request) (heard_as.Locate told) = refl
settled_away (asked.Request request) (heard_as.Undecoded fault) = refl
settled_away (asked.Request request) heard_as.Unread = refl
settled_away (asked.Locate request) (heard_as.Reply told) = refl
settled_away (asked.Locate request) (heard_as.Locate told) = refl
settled_away (asked.Locate request) (heard_as.Undecoded fault) = refl
settled_away (asked.Locate request) heard_as.Unread = refl

received_away : (entry : Option ClientEntry) (told : HeardReply) → IsAway entry → IsAway (received entry told)
received_away (Some (client.Waiting call)) told away = settled_away call told
received_away (Some (client.Cancelled late.None)) told away = refl
received_away entry told away = away

rest_away : (ends : Bool) (l : Late)
    → IsAway (if ends then (client_step (Some (client.Cancelled l)) (event.Last false heard_as.Unread)).entry else Some (client.Cancelled l))
rest_away true late.None = refl
rest_away true late.Begun = refl
rest_away true late.Seen = refl
rest_away false l = refl

-- an act of the client's own begins to gather none
quiet_is : (entry : Option ClientEntry) (plan : Plan) (unsent : List Msg) (outcome : Result (Unit {0}) CallFault)
    → gathers is_gathering (settled_by entry plan unsent outcome).entry ≡ false → IsAway entry
quiet_is None plan unsent outcome is = refl
quiet_is (Some entry) plan unsent (Ok done) is = is
quiet_is (Some entry) plan unsent (Err fault) is = is

own_away : (entry : Option ClientEntry) (act : ClientEvent) → is_own act ≡ true → IsAway entry → IsAway (client_step entry act).entry
own_away None (event.Call call pieces) owned away =
    quiet_is (table.begins None call pieces).entry Leave [] (table.begins None call pieces).outcome (call_quiet None call pieces Leave refl)
own_away None event.Send owned away = refl
own_away None event.Cancel owned away = refl
own_away (Some entry) (event.Call call pieces) owned away =
    quiet_is (table.begins (Some entry) call pieces).entry Leave [] (table.begins (Some entry) call pieces).outcome
    (call_quiet (Some (record { entry = entry; unsent = [] })) call pieces Leave away)
own_away (Some entry) event.Send owned away =
    quiet_is (table.send (Some entry)).entry Leave [] (table.send (Some entry)).outcome
    (piece_quiet table.client_step table.is_gathering event.Send (Some (record { entry = entry; unsent = [] })) Leave client_sends away)
own_away (Some entry) event.Cancel owned away =
    quiet_is (table.cancel (Some entry)).entry Leave [] (table.cancel (Some entry)).outcome
    (cancel_quiet (Some (record { entry = entry; unsent = [] })) Leave away)
own_away entry (event.First kind version) owned away = absurd cc
own_away entry (event.Whole kind version told) owned away = absurd cc
own_away entry (event.More in_order) owned away = absurd cc
own_away entry (event.Last in_order told) owned away = absurd cc

-- a call whose reply is gathered
abbrev pub gathering : Asked → Order → List Msg → List ℕ → Call ClientEntry
gathering one order unsent octets = with (client.Gathering one) unsent (Some (record { order = order; octets = octets }))

-- of what the client does itself it lets none happen but a cancel
data OwnThere (one : Asked) (act : ClientEvent) : Type 0 where
  Cancels : act ≡ event.Cancel → OwnThere one act

own_there : (one : Asked) (order : Order) (unsent : List Msg) (octets : List ℕ) (act : ClientEvent) (plan : Plan) → is_own act ≡ true
    → Passes (gathering one order unsent octets) (Hears (record { event = act; plan = plan }) Nothing) → OwnThere one act
own_there one order unsent octets event.Cancel plan owned ok = Cancels refl
own_there one order unsent octets (event.Call call pieces) plan owned ok = absurd (no_fault ok)
own_there one order unsent octets event.Send plan owned ok = absurd (no_fault ok)
own_there one order unsent octets (event.First kind version) plan owned ok = absurd cc
own_there one order unsent octets (event.Whole kind version told) plan owned ok = absurd cc
own_there one order unsent octets (event.More in_order) plan owned ok = absurd cc
own_there one order unsent octets (event.Last in_order told) plan owned ok = absurd cc

-- what a Fragment is to a call whose reply isn't gathered
abbrev stray : Bool → Act ClientEvent
stray more = Hears (silently (if more then event.More false else event.Last false heard_as.Unread)) Nothing

stray_refused : (more : Bool) (entry : ClientEntry) (unsent : List Msg) (pieces : Option Pieces)
    → Passes (with entry unsent pieces) (stray more) → (l : Late) × (entry ≡ client.Cancelled l)
stray_refused more (client.Cancelled l) unsent pieces ok = (l, refl)
stray_refused true (client.Sending call left) unsent pieces ok = absurd (no_fault ok)
stray_refused true (client.Waiting call) unsent pieces ok = absurd (no_fault ok)
stray_refused true (client.Gathering call) unsent pieces ok = absurd (no_fault ok)
stray_refused true (client.Done request told) unsent pieces ok = absurd (no_fault ok)
stray_refused true (client.LocateDone request told) unsent pieces ok = absurd (no_fault ok)
stray_refused true (client.Undecoded call fault) unsent pieces ok = absurd (no_fault ok)
stray_refused true (client.OnewaySent request) unsent pieces ok = absurd (no_fault ok)
stray_refused false (client.Sending call left) unsent pieces ok = absurd (no_fault ok)
stray_refused false (client.Waiting call) unsent pieces ok = absurd (no_fault ok)
stray_refused false (client.Gathering call) unsent pieces ok = absurd (no_fault ok)
stray_refused false (client.Done request told) unsent pieces ok = absurd (no_fault ok)
stray_refused false (client.LocateDone request told) unsent pieces ok = absurd (no_fault ok)
stray_refused false (client.Undecoded call fault) unsent pieces ok = absurd (no_fault ok)
stray_refused false (client.OnewaySent request) unsent pieces ok = absurd (no_fault ok)

module _ (interface : Interface) (limit : ℕ) where
  abbrev pub IsMet : Event ClientEvent → Type 0
  IsMet = IsTakenEvent limit client_breaks is_own

  abbrev pub Stands : Known → Call ClientEntry → Type 0
  Stands known call = entry_of call.slot ≡ known.entry

  -- these messages are open at a call: they are gathered there as the reply to the call that waited
  pub record Open (known : Known) (front : List Msg) (call : Call ClientEntry) : Type 0 where
    pub k : CallKind
    pub order : Order
    pub one : Asked
    pub unsent : List Msg
    pub series : IsSeries (replies k) V12 order true front
    pub waited : known.entry ≡ Some (client.Waiting one)
    pub there : call ≡ gathering one order unsent (joined front)

  abbrev pub GoesSo : Known → List Msg → Call ClientEntry → Event ClientEvent → Type 0
  GoesSo = Goes client_turn (client_act interface) (client_telling interface) Stands (client_item_leaves interface) IsMet Away Open

  abbrev pub SaidSo : Known → List (Event ClientEvent) → Type 0
  SaidSo = Said client_turn (client_act interface) (client_telling interface) Stands (client_item_leaves interface) IsMet Away Open

  -- octets spell an answer to a call, or none
  abbrev Spelled : Option Asked → CallKind → Version → Order → List ℕ → Type 0
  Spelled call k version order octets =
      ((told : HeardReply) × SpellsReply interface call k version order octets told)
      ⊎ ((told : HeardReply) → SpellsReply interface call k version order octets told → ⊥)

  spelled : (call : Option Asked) (k : CallKind) (version : Version) (order : Order) (octets : List ℕ) → Spelled call k version order octets
  spelled None k version order octets = inr (λ told spells. spells)
  spelled (Some (asked.Request request)) kind.Locate version order octets = inr (λ told spells. spells)
  spelled (Some (asked.Locate request)) kind.Request version order octets = inr (λ told spells. spells)
  spelled (Some (asked.Request request)) kind.Request version order octets =
      by_read ((reply interface (Some request) version).read (joined_from order octets)) refl
    where
      none : (e : CdrFault) → (reply interface (Some request) version).read (joined_from order octets) ≡ Err e → (told : HeardReply)
          → SpellsReply interface (Some (asked.Request request)) kind.Request version order octets told → ⊥
      none e is (heard_as.Reply told) spells =
          let read = ((reply_is interface (Some request) version).exact (joined_from order octets)).only told spells in cc
      none e is (heard_as.Locate told) spells = spells
      none e is (heard_as.Undecoded fault) spells = spells
      none e is heard_as.Unread spells = spells

      by_read : (read : Result Reply CdrFault) → (reply interface (Some request) version).read (joined_from order octets) ≡ read
          → Spelled (Some (asked.Request request)) kind.Request version order octets
      by_read (Ok told) is =
          inl (heard_as.Reply told, ((reply_is interface (Some request) version).exact (joined_from order octets)).found told is)
      by_read (Err e) is = inr (none e is)
  spelled (Some (asked.Locate request)) kind.Locate version order octets =
      by_read ((locate_reply version).read (joined_from order octets)) refl
    where
      none : (e : CdrFault) → (locate_reply version).read (joined_from order octets) ≡ Err e → (told : HeardReply)
          → SpellsReply interface (Some (asked.Locate request)) kind.Locate version order octets told → ⊥
      none e is (heard_as.Locate told) spells =
          let read = ((locate_reply_is version).exact (joined_from order octets)).only told spells in cc
      none e is (heard_as.Reply told) spells = spells
      none e is (heard_as.Undecoded fault) spells = spells
      none e is heard_as.Unread spells = spells

      by_read : (read : Result LocateReply CdrFault) → (locate_reply version).read (joined_from order octets) ≡ read
          → Spelled (Some (asked.Locate request)) kind.Locate version order octets
      by_read (Ok told) is = inl (heard_as.Locate told, ((locate_reply_is version).exact (joined_from order octets)).found told is)
      by_read (Err e) is = inr (none e is)

  -- a series with its last message is said
  told : (known : Known) (front : List Msg) (call : Call ClientEntry) (m : Msg) (k : CallKind) (version : Version) (order : Order) → Away known
      → IsSeries (replies k) version order false (front ++ m ∷ []) → GoesSo known front call (Comes m)
  told known front call m k version order away series =
      elim (spelled (answered known.entry known.latest) k version order (joined (front ++ m ∷ []))) [
        | inl found ↦ ends_with client_turn (client_act interface) (client_telling interface) Stands (client_item_leaves interface) IsMet Away Open
            known front call m (Got found.0) (k, version, order, front ++ m ∷ [], refl, series, found.1) (received_away known.entry found.0 away)
        | inr none ↦ ends_with client_turn (client_act interface) (client_telling interface) Stands (client_item_leaves interface) IsMet Away Open
            known front call m (Bad k version order (joined (front ++ m ∷ []))) (front ++ m ∷ [], refl, series, refl, none)
            (received_away known.entry
            (unspelled interface (answered known.entry known.latest) version order (joined (front ++ m ∷ []))) away)
      ]

  -- ---- where nothing is open

  -- the first piece of a reply: it is gathered where its call waits for it, and else comes behind a cancel
  first : (known : Known) (call : Call ClientEntry) (m : Msg) (k : CallKind) → Stands known call → m ≡ message_of V12 (replies k) m.order true m.payload
      → Passes call (client_act interface m call) → GoesSo known [] call (Comes m)
  first known call m k stands same ok = elim (awaits interface k V12 m.order call.slot) [
    | Nobody nobody ↦
        let act = unread_first interface k V12 m.order m call nobody same in
        let was = first_unread interface k V12 m.order call.slot nobody (accepted call (silently (event.First k V12)) (subst (Passes call) act ok)) in
        ends_with client_turn (client_act interface) (client_telling interface) Stands (client_item_leaves interface) IsMet Away Open
        known [] call m (Begun k) (V12, m.order, m ∷ [], refl, same)
        (ap (λ entry. gathers is_gathering (slot_of (begun entry) [])) (sym stands ∙ was))
    | Waits one unsent slot waits ↦
        let there : call ≡ with (client.Waiting one) unsent call.pieces = (λ i. record { slot = slot i; pieces = call.pieces }) in
        GoesOn m refl (record {
          k = k;
          order = m.order;
          one = one;
          unsent = unsent;
          series = same;
          waited = sym stands ∙ ap entry_of slot;
          there = ap (λ c. left c (client_turn c (client_act interface m c))) there
              ∙ begins_reply interface k V12 m.order one unsent waits m call.pieces same
              (subst (λ c. Passes c (client_act interface m c)) there ok)
              ∙ ap (gathering one m.order unsent) (sym (append-nil m.payload));
        })
  ]

  replied : (known : Known) (call : Call ClientEntry) (m : Msg) (k : CallKind) → Stands known call → Away known → IsMet (Comes m) → m.kind ≡ replies k
      → Passes call (client_act interface m call) → GoesSo known [] call (Comes m)
  replied known call m k stands away met is ok = by_more m.more refl
    where
      by_more : (more : Bool) → m.more ≡ more → GoesSo known [] call (Comes m)
      by_more false last = told known [] call m k m.version m.order away (message_is m m.version (replies k) m.order false refl is refl last)
      by_more true more =
          first known call m k stands (message_is m V12 (replies k) m.order true (continued_version limit m met.0 more) is refl more) ok

  -- a Fragment where none is gathered comes behind a cancel
  behind_cancel : (m : Msg) (slot : Option (Slot ClientEntry)) (pieces : Option Pieces) (entry : Option ClientEntry) → entry_of slot ≡ entry → IsAway entry
      → Passes (record { slot = slot; pieces = pieces }) (continues client_pieces interface m (continued m.order (gathered_call slot) pieces))
      → (l : Late) × (entry ≡ Some (client.Cancelled l))
  behind_cancel m None pieces entry stands away ok = by_more m.more ok
    where
      by_more : (more : Bool) → Passes (record { slot = None; pieces = pieces }) (stray more) → (l : Late) × (entry ≡ Some (client.Cancelled l))
      by_more true ok = absurd (no_fault ok)
      by_more false ok = absurd (no_fault ok)
  behind_cancel m (Some slot) pieces entry stands away ok = by_entry slot.entry stands ok
    where
      so : (e : ClientEntry) → ◌≡◌ {A = Option ClientEntry} (Some e) entry → Passes (with e slot.unsent pieces) (stray m.more)
          → (l : Late) × (entry ≡ Some (client.Cancelled l))
      so e stands ok = let was = stray_refused m.more e slot.unsent pieces ok in (was.0, sym stands ∙ ap Some was.1)

      by_entry : (e : ClientEntry) → ◌≡◌ {A = Option ClientEntry} (Some e) entry
          → Passes (with e slot.unsent pieces) (continues client_pieces interface m
          (continued m.order (gathered_call (Some (record { entry = e; unsent = slot.unsent }))) pieces))
          → (l : Late) × (entry ≡ Some (client.Cancelled l))
      by_entry (client.Gathering call) stands ok = absurd (let gathers : true ≡ false = subst IsAway (sym stands) away in cc)
      by_entry (client.Cancelled l) stands ok = so (client.Cancelled l) stands ok
      by_entry (client.Sending call left) stands ok = so (client.Sending call left) stands ok
      by_entry (client.Waiting call) stands ok = so (client.Waiting call) stands ok
      by_entry (client.Done request told) stands ok = so (client.Done request told) stands ok
      by_entry (client.LocateDone request told) stands ok = so (client.LocateDone request told) stands ok
      by_entry (client.Undecoded call fault) stands ok = so (client.Undecoded call fault) stands ok
      by_entry (client.OnewaySent request) stands ok = so (client.OnewaySent request) stands ok

  -- what ends the session isn't met
  broken : (m : Msg) (k : Kind) (why : SessionFault) → m.kind ≡ k → breaks_by k ≡ Some why → client_breaks m ≡ None → ⊥
  broken m k why is breaks none = let told = sym (ap breaks_by is) ∙ none in cc

  begins : (known : Known) (call : Call ClientEntry) (e : Event ClientEvent) → Stands known call → Away known → IsMet e
      → IsOk (client_turn call (what client_turn (client_act interface) e call)) → GoesSo known [] call e
  begins known call (Comes m) stands away met ok = by_kind m.kind refl
    where
      by_kind : (k : Kind) → m.kind ≡ k → GoesSo known [] call (Comes m)
      by_kind message.Reply is = replied known call m kind.Request stands away met is ok
      by_kind message.LocateReply is = replied known call m kind.Locate stands away met is ok
      by_kind message.Fragment is =
          let was = behind_cancel m call.slot call.pieces known.entry stands away (subst (Passes call) (ap (act_by_kind interface m call) is) ok) in
          ends_with client_turn (client_act interface) (client_telling interface) Stands (client_item_leaves interface) IsMet Away Open
          known [] call m (Rest (not m.more)) (was, m ∷ [], refl, (is, twice m.more))
          (ap (λ entry. gathers is_gathering (slot_of
          (if not m.more then (client_step entry (event.Last false heard_as.Unread)).entry else entry) [])) was.1 ∙ rest_away (not m.more) was.0)
      by_kind message.Request is = absurd (broken m message.Request _ is refl met.1)
      by_kind message.LocateRequest is = absurd (broken m message.LocateRequest _ is refl met.1)
      by_kind message.CancelRequest is = absurd (broken m message.CancelRequest _ is refl met.1)
      by_kind message.CloseConnection is = absurd (broken m message.CloseConnection _ is refl met.1)
      by_kind message.MessageError is = absurd (broken m message.MessageError _ is refl met.1)
  begins known call (DoesTo id (IsTold planned)) stands away owned ok =
      Ends (one_said client_turn (client_act interface) (client_telling interface) Stands (client_item_leaves interface) IsMet Away Open
      known (Did (IsTold planned.event)) (DoesTo id (IsTold planned) ∷ []) (id, IsTold planned, refl, refl))
      (own_away known.entry planned.event owned away)
  begins known call (DoesTo id TakesOut) stands away owned ok =
      Ends (one_said client_turn (client_act interface) (client_telling interface) Stands (client_item_leaves interface) IsMet Away Open
      known (Did TakesOut) (DoesTo id TakesOut ∷ []) (id, TakesOut, refl, refl)) refl

  -- ---- where messages are open

  -- no other reply comes
  unknown_reply : (m : Msg) (k : CallKind) (one : Asked) (order : Order) (unsent : List Msg) (octets : List ℕ)
      → Passes (gathering one order unsent octets) (comes interface k m None) → ⊥
  unknown_reply m k one order unsent octets ok = by_more m.more ok
    where
      by_more : (more : Bool) → Passes (gathering one order unsent octets)
          (cond more (Hears (silently (event.First k m.version)) Nothing) (Hears (silently (event.Whole k m.version heard_as.Unread)) Nothing)) → ⊥
      by_more true ok = no_fault ok
      by_more false ok = no_fault ok

  differs : (m : Msg) (one : Asked) (order : Order) (unsent : List Msg) (octets : List ℕ) → same_order m.order order ≡ false
      → Passes (gathering one order unsent octets)
      (continues client_pieces interface m (continued m.order (Some one) (Some (record { order = order; octets = octets })))) → ⊥
  differs m one order unsent octets is ok =
      by_more m.more
      (subst (λ same. Passes (gathering one order unsent octets) (continues client_pieces interface m (cond same (Some (one, octets)) None))) is ok)
    where
      by_more : (more : Bool) → Passes (gathering one order unsent octets) (stray more) → ⊥
      by_more true ok = no_fault ok
      by_more false ok = no_fault ok

  -- a Fragment in their order
  fragment : (known : Known) (front : List Msg) (call : Call ClientEntry) (m : Msg) (opened : Open known front call) → IsMet (Comes m)
      → m.kind ≡ message.Fragment → m.order ≡ opened.order → GoesSo known front call (Comes m)
  fragment known front call m opened met is in_order = by_more m.more refl
    where
      by_more : (more : Bool) → m.more ≡ more → GoesSo known front call (Comes m)
      by_more false last =
          let same = message_is m V12 message.Fragment opened.order false (fragment_version limit m met.0 is) is in_order last in
          told known front call m opened.k V12 opened.order (ap (λ entry. gathers is_gathering (slot_of entry [])) opened.waited)
          (series_on front m (replies opened.k) V12 opened.order false opened.series same)
      by_more true more =
          let same = message_is m V12 message.Fragment opened.order true (fragment_version limit m met.0 is) is in_order more in
          let here = gathering opened.one opened.order opened.unsent (joined front) in
          let act = ap (λ n. client_act interface n here) same
          ∙ more_act interface opened.k V12 opened.order opened.one opened.unsent (joined front) m.payload in
          GoesOn m refl (record {
            k = opened.k;
            order = opened.order;
            one = opened.one;
            unsent = opened.unsent;
            series = series_on front m (replies opened.k) V12 opened.order true opened.series same;
            waited = opened.waited;
            there = ap (λ c. left c (client_turn c (client_act interface m c))) opened.there
                ∙ ap (λ act. left here (client_turn here act)) act
                ∙ ap (gathering opened.one opened.order opened.unsent) (sym (joined_on front m (replies opened.k) V12 opened.order opened.series));
          })

  goes_on : (known : Known) (front : List Msg) (call : Call ClientEntry) (e : Event ClientEvent) → Open known front call → IsMet e
      → IsOk (client_turn call (what client_turn (client_act interface) e call)) → GoesSo known front call e
  goes_on known front call (Comes m) opened met ok = by_kind m.kind refl
    where
      passes : (k : Kind) → m.kind ≡ k → Passes (gathering opened.one opened.order opened.unsent (joined front))
          (act_by_kind interface m (gathering opened.one opened.order opened.unsent (joined front)) k)
      passes k is =
          let here = gathering opened.one opened.order opened.unsent (joined front) in
          subst (λ k. Passes here (act_by_kind interface m here k)) is (subst (λ c. Passes c (client_act interface m c)) opened.there ok)

      by_kind : (k : Kind) → m.kind ≡ k → GoesSo known front call (Comes m)
      by_kind message.Reply is = absurd (unknown_reply m kind.Request opened.one opened.order opened.unsent (joined front) (passes message.Reply is))
      by_kind message.LocateReply is =
          absurd (unknown_reply m kind.Locate opened.one opened.order opened.unsent (joined front) (passes message.LocateReply is))
      by_kind message.Fragment is = elim (orders m.order opened.order) [
        | inl in_order ↦ fragment known front call m opened met is in_order
        | inr differing ↦ absurd (differs m opened.one opened.order opened.unsent (joined front) differing (passes message.Fragment is))
      ]
      by_kind message.Request is = absurd (broken m message.Request _ is refl met.1)
      by_kind message.LocateRequest is = absurd (broken m message.LocateRequest _ is refl met.1)
      by_kind message.CancelRequest is = absurd (broken m message.CancelRequest _ is refl met.1)
      by_kind message.CloseConnection is = absurd (broken m message.CloseConnection _ is refl met.1)
      by_kind message.MessageError is = absurd (broken m message.MessageError _ is refl met.1)
  goes_on known front call (DoesTo id (IsTold planned)) opened owned ok =
      elim (own_there opened.one opened.order opened.unsent (joined front) planned.event planned.plan owned
      (subst (λ c. Passes c (Hears planned Nothing)) opened.there ok)) [
        | Cancels is ↦ Ends (
          Begun opened.k ∷ Did (IsTold planned.event) ∷ [],
          (
            map Comes front,
            DoesTo id (IsTold planned) ∷ [],
            refl,
            (V12, opened.order, front, refl, opened.series),
            (DoesTo id (IsTold planned) ∷ [], [], refl, (id, IsTold planned, refl, refl), refl),
          ),
        )
            (ap (λ act. gathers is_gathering (slot_of (client_step (begun known.entry) act).entry [])) is
            ∙ ap (λ entry. gathers is_gathering (slot_of (client_step (begun entry) event.Cancel).entry [])) opened.waited)
      ]
  goes_on known front call (DoesTo id TakesOut) opened owned ok = absurd (no_fault (subst (λ c. Passes c IsTaken) opened.there ok))

  stops : (known : Known) (front : List Msg) (call : Call ClientEntry) → Open known front call → SaidSo known (map Comes front)
  stops known front call opened =
      one_said client_turn (client_act interface) (client_telling interface) Stands (client_item_leaves interface) IsMet Away Open
      known (Begun opened.k) (map Comes front) (V12, opened.order, front, refl, opened.series)

  pub client_said : (call k : Call ClientEntry) (events : List (Event ClientEvent)) → entry_of call.slot ≡ None → Each IsMet events
      → Follows client_turn (client_act interface) call events k → SaidSo unknown events
  client_said call k events stands met follows =
      all_said client_turn (client_act interface) (client_telling interface) Stands (client_item_leaves interface) IsMet Away Open
      (record { begins = begins; goes_on = goes_on; stops = stops }) unknown call k events stands refl met follows

-- each input that is taken is an act of the client's own
pub owns : (interface : Interface) (limits : Limits) (h : Held ClientRule ClientEntry) (given : ClientInput) (act : Input ClientEvent)
    → IsAct (client_deed interface limits h given) act → IsOwnInput is_own act
owns interface limits h (input.Feed octets) act is = subst (IsOwnInput is_own) (sym is) tt
owns interface limits h (input.Call request form) act (planned, plans, is) =
    subst (IsOwnInput is_own) (sym is) (ap (λ p. is_own p.event) plans.sent.2)
owns interface limits h (input.Locate request form) act (planned, plans, is) =
    subst (IsOwnInput is_own) (sym is) (ap (λ p. is_own p.event) plans.sent.2)
owns interface limits h (input.Cancel id order) act (planned, plans, is) =
    subst (IsOwnInput is_own) (sym is) (by_version (open_version (entry_of (finite.get h.table id))) plans)
  where
    by_version : (version : Option Version) → IsCancel id order version planned → is_own planned.event ≡ true
    by_version None plans = absurd plans
    by_version (Some version) plans = ap (λ p. is_own p.event) plans.1
owns interface limits h (input.Send id) act (planned, plans, is) = subst (IsOwnInput is_own) (sym is) (ap (λ p. is_own p.event) plans)
owns interface limits h (input.Take id) act is = subst (IsOwnInput is_own) (sym is) tt
owns interface limits h input.Close act is = absurd is
