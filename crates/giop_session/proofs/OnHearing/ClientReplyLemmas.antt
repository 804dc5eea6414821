-- What a reply leaves of its call at a client, whole or in pieces.
use Rattle.std.proofs.Common.{◌≡◌, ℕ, Bool, true, false, not, cond, if◌then◌else◌, List, [], ◌∷◌, ◌++◌, drop, map, Option, Some, None, IsOk, refl, sym, ap, subst, ◌∙◌, append_assoc, append-nil}
use Rattle.std.specs.List.{flat_map}
use Rattle.giop_cdr.specs.declared.order.Order.{Order}
use Rattle.giop_cdr.specs.declared.order.Order.TheVariants.{Big, Little}
use Rattle.giop_types.specs.declared.interfaces.interface.Interface.{Interface}
use Rattle.giop_frag.specs.Gathered.{Pieces}
use Rattle.giop_ids.specs.Runs.{left}
use Rattle.giop_msg.specs.declared.kind.Kind.TheVariants as message
use Rattle.giop_msg.specs.declared.msg.Msg.{Msg}
use Rattle.giop_msg.specs.declared.version.Version.{Version}
use Rattle.giop_msg.specs.Cut.{continued, joined, message_of}
use Rattle.giop_msg.specs.Joined.{joined_from}
use Rattle.giop_msg.proofs.WholeMessages.LocateReplyLemmas.{locate_reply_is}
use Rattle.giop_msg.proofs.WholeMessages.ReplyLemmas.{reply_is}
use Rattle.giop_mux.specs.Faults.{no_fault}
use Rattle.giop_calls.specs.declared.client.call.Call.{Call as Asked}
use Rattle.giop_calls.specs.declared.client.call.Call.TheVariants as asked
use Rattle.giop_calls.specs.declared.client.entry.ClientEntry.{ClientEntry}
use Rattle.giop_calls.specs.declared.client.entry.ClientEntry.TheVariants.{Sending, Waiting, Gathering, Done, LocateDone, Undecoded, OnewaySent, Cancelled}
use Rattle.giop_calls.specs.declared.client.event.ClientEvent.TheVariants as event
use Rattle.giop_calls.specs.declared.client.heard.HeardReply.{HeardReply}
use Rattle.giop_calls.specs.declared.client.heard.HeardReply.TheVariants as heard_as
use Rattle.giop_calls.specs.declared.client.late.Late.TheVariants as late
use Rattle.giop_calls.specs.declared.fault.CallFault.TheVariants.{WrongKind}
use Rattle.giop_calls.specs.declared.kind.CallKind.{CallKind}
use Rattle.giop_calls.specs.declared.kind.CallKind.TheVariants as kind
use Rattle.giop_calls.specs.ClientTable.{answers, becomes, client_step, is_closed, is_gathering, refused, settles}
use Rattle.giop_table.specs.declared.slot.Slot.{Slot}
use Rattle.giop_table.specs.CallTable.{Call, First, Hears, More, Nothing}
use Rattle.giop_session.specs.Items.Carries.{AreFragments, IsSeries}
use Rattle.giop_session.specs.Items.ClientCarries.{SpellsReply, answered, begun, received, replies, unspelled}
use Rattle.giop_end.specs.Hearing.ClientHears.{awaited, client_act, comes, heard_located_by, heard_reply, heard_reply_by}
use Rattle.giop_session.specs.Runs.Events.{Comes, Follows}
use Rattle.giop_end.specs.Hearing.Heard.{silently}
use Rattle.giop_table.specs.Sending.{entry_of}
use Rattle.giop_session.proofs.OnItems.ItemLemmas.{call_of, entry_is, entry_left, heard}
use Rattle.giop_session.proofs.OnHearing.ClientCancelLemmas.{Passes, accepted, behind, client_turn, ended, ignored, with}

-- a reply settles its call, whatever of it stood before
settled_same : (call : Asked) (told : HeardReply) → IsOk (settles (Gathering call) call told).outcome
    → (settles (Gathering call) call told).entry ≡ (settles (Waiting call) call told).entry
settled_same (asked.Request request) (heard_as.Reply told) ok = refl
settled_same (asked.Request request) (heard_as.Locate told) ok = no_fault ok
settled_same (asked.Request request) (heard_as.Undecoded fault) ok = refl
settled_same (asked.Request request) heard_as.Unread ok = no_fault ok
settled_same (asked.Locate request) (heard_as.Reply told) ok = no_fault ok
settled_same (asked.Locate request) (heard_as.Locate told) ok = refl
settled_same (asked.Locate request) (heard_as.Undecoded fault) ok = refl
settled_same (asked.Locate request) heard_as.Unread ok = no_fault ok

-- no call is settled by what isn't read
unsettled : (call : Asked) → IsOk (settles (Waiting call) call heard_as.Unread).outcome → ⊥
unsettled (asked.Request request) ok = no_fault ok
unsettled (asked.Locate request) ok = no_fault ok

module _ (interface : Interface) (k : CallKind) (version : Version) (order : Order) where
  -- which call waits for a message, if one does
  pub data Awaits (slot : Option (Slot ClientEntry)) : Type 0 where
    Nobody : awaited k version slot ≡ None → Awaits slot
    Waits : (call : Asked) (unsent : List Msg) → slot ≡ Some (record { entry = Waiting call; unsent = unsent })
        → answers k version call ≡ true → Awaits slot

  pub awaits : (slot : Option (Slot ClientEntry)) → Awaits slot
  awaits None = Nobody refl
  awaits (Some slot) = by_entry slot.entry slot.unsent
    where
      by_entry : (entry : ClientEntry) (unsent : List Msg) → Awaits (Some (record { entry = entry; unsent = unsent }))
      by_entry (Waiting call) unsent = by_test (answers k version call) refl
        where
          by_test : (b : Bool) → answers k version call ≡ b → Awaits (Some (record { entry = Waiting call; unsent = unsent }))
          by_test true is = Waits call unsent refl is
          by_test false is = Nobody (rw is refl)
      by_entry (Sending call left) unsent = Nobody refl
      by_entry (Gathering call) unsent = Nobody refl
      by_entry (Done request told) unsent = Nobody refl
      by_entry (LocateDone request told) unsent = Nobody refl
      by_entry (Undecoded call fault) unsent = Nobody refl
      by_entry (OnewaySent request) unsent = Nobody refl
      by_entry (Cancelled l) unsent = Nobody refl

  -- where none does, a message is accepted behind a cancel alone
  whole_unread : (entry : Option ClientEntry) → IsOk (client_step entry (event.Whole k version heard_as.Unread)).outcome
      → entry ≡ Some (Cancelled late.None)
  whole_unread None ok = no_fault ok
  whole_unread (Some (Waiting call)) ok = by_test (answers k version call) ok
    where
      by_test : (b : Bool) → IsOk (cond b (settles (Waiting call) call heard_as.Unread) (refused (Some (Waiting call)) WrongKind)).outcome
          → ◌≡◌ {A = Option ClientEntry} (Some (Waiting call)) (Some (Cancelled late.None))
      by_test true ok = absurd (unsettled call ok)
      by_test false ok = no_fault ok
  whole_unread (Some (Cancelled late.None)) ok = refl
  whole_unread (Some (Cancelled late.Begun)) ok = no_fault ok
  whole_unread (Some (Cancelled late.Seen)) ok = no_fault ok
  whole_unread (Some (Sending call left)) ok = no_fault ok
  whole_unread (Some (Gathering call)) ok = no_fault ok
  whole_unread (Some (Done request told)) ok = no_fault ok
  whole_unread (Some (LocateDone request told)) ok = no_fault ok
  whole_unread (Some (Undecoded call fault)) ok = no_fault ok
  whole_unread (Some (OnewaySent request)) ok = no_fault ok

  pub first_unread : (slot : Option (Slot ClientEntry)) → awaited k version slot ≡ None
      → IsOk (client_step (entry_of slot) (event.First k version)).outcome → entry_of slot ≡ Some (Cancelled late.None)
  first_unread None nobody ok = no_fault ok
  first_unread (Some slot) nobody ok = by_entry slot.entry nobody ok
    where
      by_entry : (entry : ClientEntry) → awaited k version (Some (record { entry = entry; unsent = slot.unsent })) ≡ None
          → IsOk (client_step (Some entry) (event.First k version)).outcome → ◌≡◌ {A = Option ClientEntry} (Some entry) (Some (Cancelled late.None))
      by_entry (Waiting call) nobody ok = by_test (answers k version call) nobody ok
        where
          by_test : (b : Bool) → ◌≡◌ {A = Option Asked} (cond b (Some call) None) None
              → IsOk (cond b (becomes (Gathering call)) (refused (Some (Waiting call)) WrongKind)).outcome
              → ◌≡◌ {A = Option ClientEntry} (Some (Waiting call)) (Some (Cancelled late.None))
          by_test true nobody ok = absurd cc
          by_test false nobody ok = no_fault ok
      by_entry (Cancelled late.None) nobody ok = refl
      by_entry (Cancelled late.Begun) nobody ok = no_fault ok
      by_entry (Cancelled late.Seen) nobody ok = no_fault ok
      by_entry (Sending call left) nobody ok = no_fault ok
      by_entry (Gathering call) nobody ok = no_fault ok
      by_entry (Done request told) nobody ok = no_fault ok
      by_entry (LocateDone request told) nobody ok = no_fault ok
      by_entry (Undecoded call fault) nobody ok = no_fault ok
      by_entry (OnewaySent request) nobody ok = no_fault ok

  -- what a reply does to its call
  comes_is : (more : Bool) (payload : List ℕ) (call : Call ClientEntry)
      → client_act interface (message_of version (replies k) order more payload) call
      ≡ comes interface k (message_of version (replies k) order more payload) (awaited k version call.slot)
  comes_is more payload call = by_kind k
    where
      by_kind : (k : CallKind) → client_act interface (message_of version (replies k) order more payload) call
          ≡ comes interface k (message_of version (replies k) order more payload) (awaited k version call.slot)
      by_kind kind.Request = refl
      by_kind kind.Locate = refl

  -- what a message tells of the call that waits for it
  abbrev pub told_in : Option ClientEntry → List ℕ → HeardReply
  told_in (Some (Waiting call)) octets = heard_reply interface call version order octets
  told_in entry octets = heard_as.Unread

  -- what stands behind all pieces of a reply, or behind some
  abbrev pub shown : Bool → Option ClientEntry → List ℕ → Option ClientEntry
  shown more entry octets = if more then begun entry else received entry (told_in entry octets)

  -- ---- of a call that waits

  module _ (call : Asked) (unsent : List Msg) where
    abbrev gathering : List ℕ → Call ClientEntry
    gathering octets = with (Gathering call) unsent (Some (record { order = order; octets = octets }))

    pub more_act : (octets payload : List ℕ)
        → client_act interface (message_of version message.Fragment order true payload) (gathering octets)
        ≡ Hears (silently (event.More true)) (More (drop 4 payload))
    more_act octets payload = by_order order
      where
        by_order : (o : Order)
            → client_act interface (message_of version message.Fragment o true payload)
            (with (Gathering call) unsent (Some (record { order = o; octets = octets })))
            ≡ Hears (silently (event.More true)) (More (drop 4 payload))
        by_order Big = refl
        by_order Little = refl

    last_act : (octets payload : List ℕ)
        → client_act interface (message_of version message.Fragment order false payload) (gathering octets)
        ≡ Hears (silently (event.Last true (heard_reply interface call version order (octets ++ drop 4 payload)))) (More (drop 4 payload))
    last_act octets payload = by_order order
      where
        by_order : (o : Order)
            → client_act interface (message_of version message.Fragment o false payload)
            (with (Gathering call) unsent (Some (record { order = o; octets = octets })))
            ≡ Hears (silently (event.Last true (heard_reply interface call version o (octets ++ drop 4 payload)))) (More (drop 4 payload))
        by_order Big = refl
        by_order Little = refl

    fragments : (messages : List Msg) (more : Bool) (octets : List ℕ) (after : Call ClientEntry)
        → IsSeries message.Fragment version order more messages
        → Follows client_turn (client_act interface) (gathering octets) (map Comes messages) after
        → entry_of after.slot ≡ shown more (Some (Waiting call)) (octets ++ flat_map continued messages)
    fragments [] more octets after series follows = absurd series
    fragments (m ∷ []) true octets after series follows =
        let act = ap (λ n. client_act interface n (gathering octets)) series ∙ more_act octets m.payload in
        ap (λ call. entry_of call.slot) (follows.1 ∙ ap (behind (gathering octets)) act)
    fragments (m ∷ []) false octets after series follows =
        let told = heard_reply interface call version order (octets ++ drop 4 m.payload) in
        let act = ap (λ n. client_act interface n (gathering octets)) series ∙ last_act octets m.payload in
        let did = heard client_step is_closed is_gathering (gathering octets) (silently (event.Last true told)) (More (drop 4 m.payload))
        (subst (Passes (gathering octets)) act follows.0) in
        ap (λ call. entry_of call.slot) (follows.1 ∙ ap (behind (gathering octets)) act ∙ did.leaves)
        ∙ entry_is (settles (Gathering call) call told).entry unsent
        ∙ settled_same call told did.accepted
        ∙ ap (λ all. received (Some (Waiting call)) (heard_reply interface call version order (octets ++ all))) (sym (append-nil (drop 4 m.payload)))
    fragments (m ∷ n ∷ messages) more octets after (is, series) follows =
        let act = ap (λ n. client_act interface n (gathering octets)) is ∙ more_act octets m.payload in
        let rest = subst (λ call. Follows client_turn (client_act interface) call (map Comes (n ∷ messages)) after)
        (ap (behind (gathering octets)) act) follows.1 in
        fragments (n ∷ messages) more (octets ++ drop 4 m.payload) after series rest
        ∙ ap (λ all. shown more (Some (Waiting call)) all) (append_assoc octets (drop 4 m.payload) (flat_map continued (n ∷ messages)))

    module _ (waits : answers k version call ≡ true) where
      whole_act : (pieces : Option Pieces) (payload : List ℕ)
          → client_act interface (message_of version (replies k) order false payload) (with (Waiting call) unsent pieces)
          ≡ Hears (silently (event.Whole k version (heard_reply interface call version order payload))) Nothing
      whole_act pieces payload =
          comes_is false payload (with (Waiting call) unsent pieces)
          ∙ ap (λ b. comes interface k (message_of version (replies k) order false payload) (cond b (Some call) None)) waits

      first_act : (pieces : Option Pieces) (payload : List ℕ)
          → client_act interface (message_of version (replies k) order true payload) (with (Waiting call) unsent pieces)
          ≡ Hears (silently (event.First k version)) (First order payload)
      first_act pieces payload =
          comes_is true payload (with (Waiting call) unsent pieces)
          ∙ ap (λ b. comes interface k (message_of version (replies k) order true payload) (cond b (Some call) None)) waits

      -- the call gathers its reply behind the first piece
      pub begins : (m : Msg) (pieces : Option Pieces) → m ≡ message_of version (replies k) order true m.payload
          → Passes (with (Waiting call) unsent pieces) (client_act interface m (with (Waiting call) unsent pieces))
          → behind (with (Waiting call) unsent pieces) (client_act interface m (with (Waiting call) unsent pieces)) ≡ gathering m.payload
      begins m pieces is ok =
          let act = ap (λ n. client_act interface n (with (Waiting call) unsent pieces)) is ∙ first_act pieces m.payload in
          let did = heard client_step is_closed is_gathering (with (Waiting call) unsent pieces) (silently (event.First k version)) (First order m.payload)
          (subst (Passes (with (Waiting call) unsent pieces)) act ok) in
          ap (behind (with (Waiting call) unsent pieces)) act ∙ did.leaves
          ∙ ap (λ b. call_of client_step is_closed is_gathering (cond b (becomes (Gathering call)) (refused (Some (Waiting call)) WrongKind)).entry
          unsent (Some (record { order = order; octets = m.payload }))) waits

      awaited_series : (messages : List Msg) (more : Bool) (pieces : Option Pieces) (after : Call ClientEntry)
          → IsSeries (replies k) version order more messages
          → Follows client_turn (client_act interface) (with (Waiting call) unsent pieces) (map Comes messages) after
          → entry_of after.slot ≡ shown more (Some (Waiting call)) (joined messages)
      awaited_series [] more pieces after is follows = absurd is
      awaited_series (m ∷ []) true pieces after is follows =
          ap (λ call. entry_of call.slot) (follows.1 ∙ begins m pieces is follows.0)
      awaited_series (m ∷ []) false pieces after is follows =
          let said = heard_reply interface call version order m.payload in
          let act = ap (λ n. client_act interface n (with (Waiting call) unsent pieces)) is ∙ whole_act pieces m.payload in
          entry_left client_step is_closed is_gathering (with (Waiting call) unsent pieces) after (silently (event.Whole k version said))
          (subst (Passes (with (Waiting call) unsent pieces)) act follows.0)
          (follows.1 ∙ ap (behind (with (Waiting call) unsent pieces)) act)
          ∙ ap (λ b. (cond b (settles (Waiting call) call said) (refused (Some (Waiting call)) WrongKind)).entry) waits
          ∙ ap (λ octets. received (Some (Waiting call)) (heard_reply interface call version order octets)) (sym (append-nil m.payload))
      awaited_series (m ∷ n ∷ messages) more pieces after (is, series) follows =
          fragments (n ∷ messages) more m.payload after series
          (subst (λ call. Follows client_turn (client_act interface) call (map Comes (n ∷ messages)) after)
          (begins m pieces is follows.0) follows.1)

  -- ---- of a call that doesn't

  pub unread_first : (m : Msg) (call : Call ClientEntry) → awaited k version call.slot ≡ None → m ≡ message_of version (replies k) order true m.payload
      → client_act interface m call ≡ Hears (silently (event.First k version)) Nothing
  unread_first m call nobody is =
      ap (λ n. client_act interface n call) is ∙ comes_is true m.payload call
      ∙ ap (comes interface k (message_of version (replies k) order true m.payload)) nobody

  unread_whole : (m : Msg) (call : Call ClientEntry) → awaited k version call.slot ≡ None → m ≡ message_of version (replies k) order false m.payload
      → client_act interface m call ≡ Hears (silently (event.Whole k version heard_as.Unread)) Nothing
  unread_whole m call nobody is =
      ap (λ n. client_act interface n call) is ∙ comes_is false m.payload call
      ∙ ap (comes interface k (message_of version (replies k) order false m.payload)) nobody

  -- pieces behind the first are Fragments
  are_fragments : (messages : List Msg) (more : Bool) → IsSeries message.Fragment version order more messages → AreFragments (not more) messages
  are_fragments [] more is = absurd is
  are_fragments (m ∷ []) more is = (ap (λ n. n.kind) is, ap (λ n. n.more) is ∙ sym (twice more))
    where
      twice : (b : Bool) → not (not b) ≡ b
      twice true = refl
      twice false = refl
  are_fragments (m ∷ n ∷ messages) more (is, series) =
      (ap (λ n. n.kind) is, ap (λ n. n.more) is, are_fragments (n ∷ messages) more series)

  unread_series : (messages : List Msg) (more : Bool) (call after : Call ClientEntry) → awaited k version call.slot ≡ None
      → IsSeries (replies k) version order more messages
      → Follows client_turn (client_act interface) call (map Comes messages) after
      → entry_of after.slot ≡ shown more (entry_of call.slot) (joined messages)
  unread_series [] more call after nobody is follows = absurd is
  unread_series (m ∷ []) true call after nobody is follows =
      let act = unread_first m call nobody is in
      let ok = subst (Passes call) act follows.0 in
      let was = first_unread call.slot nobody (accepted call (silently (event.First k version)) ok) in
      entry_left client_step is_closed is_gathering call after (silently (event.First k version)) ok (follows.1 ∙ ap (behind call) act)
      ∙ ap (λ entry. (client_step entry (event.First k version)).entry) was ∙ sym (ap begun was)
  unread_series (m ∷ []) false call after nobody is follows =
      let act = unread_whole m call nobody is in
      let ok = subst (Passes call) act follows.0 in
      let was = whole_unread (entry_of call.slot) (accepted call (silently (event.Whole k version heard_as.Unread)) ok) in
      entry_left client_step is_closed is_gathering call after (silently (event.Whole k version heard_as.Unread)) ok (follows.1 ∙ ap (behind call) act)
      ∙ ap (λ entry. (client_step entry (event.Whole k version heard_as.Unread)).entry) was
      ∙ sym (ap (λ entry. received entry (told_in entry (joined (m ∷ [])))) was)
  unread_series (m ∷ n ∷ messages) more call after nobody (is, series) follows =
      let act = unread_first m call nobody is in
      let ok = subst (Passes call) act follows.0 in
      let was = first_unread call.slot nobody (accepted call (silently (event.First k version)) ok) in
      let begins = entry_left client_step is_closed is_gathering call (behind call (client_act interface m call))
      (silently (event.First k version)) ok (ap (behind call) act)
      ∙ ap (λ entry. (client_step entry (event.First k version)).entry) was in
      ignored interface (n ∷ messages) (not more) late.Begun (behind call (client_act interface m call)) after begins
      (are_fragments (n ∷ messages) more series) follows.1
      ∙ by_end more
      ∙ sym (ap (λ entry. shown more entry (joined (m ∷ n ∷ messages))) was)
    where
      by_end : (more : Bool) → ended interface (not more) late.Begun ≡ shown more (Some (Cancelled late.None)) (joined (m ∷ n ∷ messages))
      by_end true = refl
      by_end false = refl

  -- a reply leaves the same, whole or in pieces
  pub series : (messages : List Msg) (more : Bool) (call after : Call ClientEntry)
      → IsSeries (replies k) version order more messages
      → Follows client_turn (client_act interface) call (map Comes messages) after
      → entry_of after.slot ≡ shown more (entry_of call.slot) (joined messages)
  series messages more call after is follows = elim (awaits call.slot) [
    | Nobody nobody ↦ unread_series messages more call after nobody is follows
    | Waits one unsent slot waits ↦
        let there : call ≡ with (Waiting one) unsent call.pieces = (λ i. record { slot = slot i; pieces = call.pieces }) in
        awaited_series one unsent waits messages more call.pieces after is
        (subst (λ call. Follows client_turn (client_act interface) call (map Comes messages) after) there follows)
        ∙ sym (ap (λ slot. shown more (entry_of slot) (joined messages)) slot)
  ]

  -- what octets spell is heard of the call that waits; none else is read
  spelled : (call : Asked) (octets : List ℕ) (said : HeardReply) → SpellsReply interface (Some call) k version order octets said
      → heard_reply interface call version order octets ≡ said
  spelled call octets said spells = by_call call k said spells
    where
      by_call : (call : Asked) (k : CallKind) (said : HeardReply) → SpellsReply interface (Some call) k version order octets said
          → heard_reply interface call version order octets ≡ said
      by_call (asked.Request request) kind.Request (heard_as.Reply told) spells =
          ap heard_reply_by (((reply_is interface (Some request) version).exact (joined_from order octets)).only told spells)
      by_call (asked.Locate request) kind.Locate (heard_as.Locate told) spells =
          ap heard_located_by (((locate_reply_is version).exact (joined_from order octets)).only told spells)
      by_call (asked.Request request) kind.Request (heard_as.Locate told) spells = absurd spells
      by_call (asked.Request request) kind.Request (heard_as.Undecoded fault) spells = absurd spells
      by_call (asked.Request request) kind.Request heard_as.Unread spells = absurd spells
      by_call (asked.Request request) kind.Locate said spells = absurd spells
      by_call (asked.Locate request) kind.Locate (heard_as.Reply told) spells = absurd spells
      by_call (asked.Locate request) kind.Locate (heard_as.Undecoded fault) spells = absurd spells
      by_call (asked.Locate request) kind.Locate heard_as.Unread spells = absurd spells
      by_call (asked.Locate request) kind.Request said spells = absurd spells

  -- where nobody reads a message, it is one whatever it says
  module _ (octets : List ℕ) (latest : Option Asked) where
    pub read_as : (entry : Option ClientEntry) (said : HeardReply) → SpellsReply interface (answered entry latest) k version order octets said
        → received entry (told_in entry octets) ≡ received entry said
    read_as None said spells = refl
    read_as (Some (Waiting call)) said spells = ap (received (Some (Waiting call))) (spelled call octets said spells)
    read_as (Some (Cancelled late.None)) said spells = refl
    read_as (Some (Cancelled late.Begun)) said spells = refl
    read_as (Some (Cancelled late.Seen)) said spells = refl
    read_as (Some (Sending call left)) said spells = refl
    read_as (Some (Gathering call)) said spells = refl
    read_as (Some (Done request told)) said spells = refl
    read_as (Some (LocateDone request told)) said spells = refl
    read_as (Some (Undecoded call fault)) said spells = refl
    read_as (Some (OnewaySent request)) said spells = refl

    pub unread_as : (entry : Option ClientEntry)
        → received entry (told_in entry octets) ≡ received entry (unspelled interface (answered entry latest) version order octets)
    unread_as None = refl
    unread_as (Some (Waiting call)) = refl
    unread_as (Some (Cancelled late.None)) = refl
    unread_as (Some (Cancelled late.Begun)) = refl
    unread_as (Some (Cancelled late.Seen)) = refl
    unread_as (Some (Sending call left)) = refl
    unread_as (Some (Gathering call)) = refl
    unread_as (Some (Done request told)) = refl
    unread_as (Some (LocateDone request told)) = refl
    unread_as (Some (Undecoded call fault)) = refl
    unread_as (Some (OnewaySent request)) = refl
