-- What an item leaves of a call at a server.
use Rattle.std.proofs.Common.{◌≡◌, ℕ, Bool, true, false, cond, if◌then◌else◌, List, [], ◌∷◌, ◌++◌, drop, map, Option, Some, None, IsOk, refl, sym, ap, subst, ◌∙◌, append_assoc, append-nil}
use Rattle.std.specs.List.{flat_map}
use Rattle.giop_cdr.specs.declared.order.Order.{Order}
use Rattle.giop_cdr.specs.declared.order.Order.TheVariants.{Big, Little}
use Rattle.giop_types.specs.declared.interfaces.interface.Interface.{Interface}
use Rattle.giop_frag.specs.Gathered.{Pieces}
use Rattle.giop_ids.specs.Runs.{left}
use Rattle.giop_msg.specs.declared.kind.Kind.TheVariants as message
use Rattle.giop_msg.specs.declared.msg.Msg.{Msg}
use Rattle.giop_msg.specs.declared.version.Version.{Version}
use Rattle.giop_msg.specs.Cut.{continued, joined, message_of}
use Rattle.giop_msg.proofs.JoinedLemmas.{whole_only}
use Rattle.giop_msg.proofs.LocateLemmas.{locate_request_is}
use Rattle.giop_msg.proofs.WholeMessages.RequestLemmas.{request_only}
use Rattle.giop_mux.specs.Faults.{no_fault}
use Rattle.giop_mux.specs.Runs.{Happening}
use Rattle.giop_mux.specs.Runs.{Hears as IsTold, IsTaken as TakesOut}
use Rattle.giop_calls.specs.declared.fault.CallFault.{CallFault}
use Rattle.giop_calls.specs.declared.fault.CallFault.TheVariants.{IdInUse}
use Rattle.giop_calls.specs.declared.kind.CallKind.{CallKind}
use Rattle.giop_calls.specs.declared.kind.CallKind.TheVariants as kind
use Rattle.giop_calls.specs.declared.server.entry.ServerEntry.{ServerEntry}
use Rattle.giop_calls.specs.declared.server.entry.ServerEntry.TheVariants.{Cancelled, Gathering}
use Rattle.giop_calls.specs.declared.server.event.ServerEvent.{ServerEvent}
use Rattle.giop_calls.specs.declared.server.event.ServerEvent.TheVariants as event
use Rattle.giop_calls.specs.declared.server.heard.HeardCall.{HeardCall}
use Rattle.giop_calls.specs.declared.server.heard.HeardCall.TheVariants as heard_as
use Rattle.giop_calls.specs.ServerTable.{arrived, becomes, begins, is_closed, is_free, is_gathering, refused, server_step}
use Rattle.giop_table.specs.declared.slot.Slot.{Slot}
use Rattle.giop_table.specs.CallTable.{Act, Call, First, Hears, More, Nothing, Turned, turn}
use Rattle.giop_session.specs.Items.Carries.{AreFragments, Got, Bad, Begun, Rest, Cancel, Did, IsSeries, done_by}
use Rattle.giop_end.specs.Hearing.Decoding.{heard_call}
use Rattle.giop_session.specs.Runs.Events.{Comes, Follows, Local, act_of}
use Rattle.giop_end.specs.Hearing.Heard.{silently}
use Rattle.giop_table.specs.Sending.{entry_of, unsent_of}
use Rattle.giop_session.specs.Items.ServerCarries.{SpellsCall, asks, server_behind, server_telling}
use Rattle.giop_end.specs.Hearing.ServerHears.{server_act}
use Rattle.giop_session.proofs.OnItems.ItemLemmas.{ItemLeaves, call_of, entry_is, entry_left, heard, taken_out}

abbrev Answer : Type 0
Answer = Unit {0}

-- what a message does to a call at a server
abbrev pub server_turn : Call ServerEntry → Act ServerEvent → Turned ServerEntry Answer CallFault
server_turn = turn server_step is_closed is_gathering

abbrev Passes : Call ServerEntry → Act ServerEvent → Type 0
Passes call act = IsOk (server_turn call act)

abbrev behind : Call ServerEntry → Act ServerEvent → Call ServerEntry
behind call act = left call (server_turn call act)

-- a call with this entry
abbrev standing : Option ServerEntry → List Msg → Option Pieces → Call ServerEntry
standing = call_of server_step is_closed is_gathering

-- where a message begins its entry stands
pub begun : (entry : Option ServerEntry) (now : ServerEntry) → IsOk (begins entry now).outcome → (begins entry now).entry ≡ Some now
begun entry now ok = by_test (is_free entry) ok
  where
    by_test : (free : Bool) → IsOk (cond free (becomes now) (refused entry IdInUse)).outcome
        → (cond free (becomes now) (refused entry IdInUse)).entry ≡ Some now
    by_test true ok = refl
    by_test false ok = no_fault ok

-- so do all messages of a kind, as it comes
module _ (interface : Interface) (k : CallKind) (version : Version) (order : Order) where
  whole_act : (payload : List ℕ) (call : Call ServerEntry)
      → server_act interface (message_of version (asks k) order false payload) call
      ≡ Hears (silently (event.Whole (heard_call interface k version order payload))) Nothing
  whole_act payload call = by_kind k
    where
      by_kind : (k : CallKind) → server_act interface (message_of version (asks k) order false payload) call
          ≡ Hears (silently (event.Whole (heard_call interface k version order payload))) Nothing
      by_kind kind.Request = refl
      by_kind kind.Locate = refl

  pub first_act : (payload : List ℕ) (call : Call ServerEntry)
      → server_act interface (message_of version (asks k) order true payload) call
      ≡ Hears (silently (event.First k)) (First order payload)
  first_act payload call = by_kind k
    where
      by_kind : (k : CallKind) → server_act interface (message_of version (asks k) order true payload) call
          ≡ Hears (silently (event.First k)) (First order payload)
      by_kind kind.Request = refl
      by_kind kind.Locate = refl

  -- the call whose message is gathered
  abbrev gathering : List Msg → List ℕ → Call ServerEntry
  gathering unsent octets = standing (Some (Gathering k)) unsent (Some (record { order = order; octets = octets }))

  pub more_act : (unsent : List Msg) (octets payload : List ℕ)
      → server_act interface (message_of version message.Fragment order true payload) (gathering unsent octets)
      ≡ Hears (silently (event.More true)) (More (drop 4 payload))
  more_act unsent octets payload = by_order order
    where
      by_order : (o : Order)
          → server_act interface (message_of version message.Fragment o true payload)
          (standing (Some (Gathering k)) unsent (Some (record { order = o; octets = octets })))
          ≡ Hears (silently (event.More true)) (More (drop 4 payload))
      by_order Big = refl
      by_order Little = refl

  last_act : (unsent : List Msg) (octets payload : List ℕ)
      → server_act interface (message_of version message.Fragment order false payload) (gathering unsent octets)
      ≡ Hears (silently (event.Last true (heard_call interface k version order (octets ++ drop 4 payload)))) (More (drop 4 payload))
  last_act unsent octets payload = by_order order
    where
      by_order : (o : Order)
          → server_act interface (message_of version message.Fragment o false payload)
          (standing (Some (Gathering k)) unsent (Some (record { order = o; octets = octets })))
          ≡ Hears (silently (event.Last true (heard_call interface k version o (octets ++ drop 4 payload)))) (More (drop 4 payload))
      by_order Big = refl
      by_order Little = refl

  -- what stands behind all pieces of a message, or behind some
  abbrev shown : Bool → List ℕ → ServerEntry
  shown more octets = if more then Gathering k else arrived (heard_call interface k version order octets)

  -- Fragments go on from there
  fragments : (messages : List Msg) (more : Bool) (unsent : List Msg) (octets : List ℕ) (after : Call ServerEntry)
      → IsSeries message.Fragment version order more messages
      → Follows server_turn (server_act interface) (gathering unsent octets) (map Comes messages) after
      → entry_of after.slot ≡ Some (shown more (octets ++ flat_map continued messages))
  fragments [] more unsent octets after series follows = absurd series
  fragments (m ∷ []) true unsent octets after series follows =
      let act = ap (λ n. server_act interface n (gathering unsent octets)) series ∙ more_act unsent octets m.payload in
      ap (λ call. entry_of call.slot) (follows.1 ∙ ap (behind (gathering unsent octets)) act)
  fragments (m ∷ []) false unsent octets after series follows =
      let act = ap (λ n. server_act interface n (gathering unsent octets)) series ∙ last_act unsent octets m.payload in
      ap (λ call. entry_of call.slot) (follows.1 ∙ ap (behind (gathering unsent octets)) act)
      ∙ ap (λ all. Some (arrived (heard_call interface k version order (octets ++ all)))) (sym (append-nil (drop 4 m.payload)))
  fragments (m ∷ n ∷ messages) more unsent octets after (is, series) follows =
      let act = ap (λ n. server_act interface n (gathering unsent octets)) is ∙ more_act unsent octets m.payload in
      let rest = subst (λ call. Follows server_turn (server_act interface) call (map Comes (n ∷ messages)) after)
      (ap (behind (gathering unsent octets)) act) follows.1 in
      fragments (n ∷ messages) more unsent (octets ++ drop 4 m.payload) after series rest
      ∙ ap (λ all. Some (shown more all)) (append_assoc octets (drop 4 m.payload) (flat_map continued (n ∷ messages)))

  -- a message leaves the same, whole or in pieces
  pub series : (messages : List Msg) (more : Bool) (call after : Call ServerEntry)
      → IsSeries (asks k) version order more messages
      → Follows server_turn (server_act interface) call (map Comes messages) after
      → entry_of after.slot ≡ Some (shown more (joined messages))
  series [] more call after is follows = absurd is
  series (m ∷ []) true call after is follows =
      let act = ap (λ n. server_act interface n call) is ∙ first_act m.payload call in
      let did = heard server_step is_closed is_gathering call (silently (event.First k)) (First order m.payload) (subst (Passes call) act follows.0) in
      ap (λ call. entry_of call.slot) (follows.1 ∙ ap (behind call) act ∙ did.leaves)
      ∙ entry_is (begins (entry_of call.slot) (Gathering k)).entry (unsent_of call.slot)
      ∙ begun (entry_of call.slot) (Gathering k) did.accepted
  series (m ∷ []) false call after is follows =
      let heard_as = heard_call interface k version order m.payload in
      let act = ap (λ n. server_act interface n call) is ∙ whole_act m.payload call in
      let did = heard server_step is_closed is_gathering call (silently (event.Whole heard_as)) Nothing (subst (Passes call) act follows.0) in
      ap (λ call. entry_of call.slot) (follows.1 ∙ ap (behind call) act ∙ did.leaves)
      ∙ entry_is (begins (entry_of call.slot) (arrived heard_as)).entry (unsent_of call.slot)
      ∙ begun (entry_of call.slot) (arrived heard_as) did.accepted
      ∙ ap (λ octets. Some (arrived (heard_call interface k version order octets))) (sym (append-nil m.payload))
  series (m ∷ n ∷ messages) more call after (is, rest) follows =
      let act = ap (λ n. server_act interface n call) is ∙ first_act m.payload call in
      let did = heard server_step is_closed is_gathering call (silently (event.First k)) (First order m.payload) (subst (Passes call) act follows.0) in
      let moved = ap (behind call) act ∙ did.leaves
      ∙ ap (λ entry. standing entry (unsent_of call.slot) (Some (record { order = order; octets = m.payload })))
      (begun (entry_of call.slot) (Gathering k) did.accepted) in
      fragments (n ∷ messages) more (unsent_of call.slot) m.payload after rest
      (subst (λ call. Follows server_turn (server_act interface) call (map Comes (n ∷ messages)) after) moved follows.1)

-- what octets spell is heard
spelled : (interface : Interface) (k : CallKind) (version : Version) (order : Order) (octets : List ℕ) (call : HeardCall)
    → SpellsCall interface k version order octets call → heard_call interface k version order octets ≡ call
spelled interface kind.Request version order octets (heard_as.Request asked) spells =
    rw (request_only interface version order octets asked spells) refl
spelled interface kind.Locate version order octets (heard_as.Locate asked) spells =
    rw (whole_only (locate_request_is version) order octets asked spells) refl
spelled interface kind.Request version order octets (heard_as.Locate asked) spells = absurd spells
spelled interface kind.Locate version order octets (heard_as.Request asked) spells = absurd spells
spelled interface kind.Request version order octets (heard_as.Undecoded call) spells = absurd spells
spelled interface kind.Locate version order octets (heard_as.Undecoded call) spells = absurd spells

-- Fragments behind a cancel change nothing
module _ (interface : Interface) (answered : Bool) (left_over : ℕ) where
  pub fragment_act : (m : Msg) (unsent : List Msg) (pieces : Option Pieces) → m.kind ≡ message.Fragment
      → server_act interface m (record { slot = Some (record { entry = Cancelled answered left_over; unsent = unsent }); pieces = pieces })
      ≡ Hears (silently (event.More false)) Nothing
  fragment_act m unsent pieces is = rw is refl

  abbrev IsCancelled : Call ServerEntry → Type 0
  IsCancelled call = entry_of call.slot ≡ Some (Cancelled answered left_over)

  -- the act of a Fragment behind a cancel
  ignored_act : (m : Msg) (call : Call ServerEntry) → IsCancelled call → m.kind ≡ message.Fragment
      → server_act interface m call ≡ Hears (silently (event.More false)) Nothing
  ignored_act m call is fragment = by_slot call.slot is
    where
      by_slot : (slot : Option (Slot ServerEntry)) → entry_of slot ≡ Some (Cancelled answered left_over)
          → server_act interface m (record { slot = slot; pieces = call.pieces }) ≡ Hears (silently (event.More false)) Nothing
      by_slot None is = absurd cc
      by_slot (Some slot) is =
          let same : slot.entry ≡ Cancelled answered left_over = cc in
          subst (λ entry. server_act interface m (record { slot = Some (record { entry = entry; unsent = slot.unsent }); pieces = call.pieces })
          ≡ Hears (silently (event.More false)) Nothing) (sym same) (fragment_act m slot.unsent call.pieces fragment)

  ignored_one : (m : Msg) (call : Call ServerEntry) → IsCancelled call → m.kind ≡ message.Fragment
      → Passes call (server_act interface m call) → IsCancelled (behind call (server_act interface m call))
  ignored_one m call is fragment ok =
      let act = ignored_act m call is fragment in
      let did = heard server_step is_closed is_gathering call (silently (event.More false)) Nothing (subst (Passes call) act ok) in
      ap (λ call. entry_of call.slot) (ap (behind call) act ∙ did.leaves)
      ∙ entry_is (server_step (entry_of call.slot) (event.More false)).entry (unsent_of call.slot)
      ∙ ap (λ entry. (server_step entry (event.More false)).entry) is

  pub ignored : (messages : List Msg) (ends : Bool) (call after : Call ServerEntry) → IsCancelled call → AreFragments ends messages
      → Follows server_turn (server_act interface) call (map Comes messages) after → IsCancelled after
  ignored [] ends call after is are follows = subst IsCancelled (sym follows) is
  ignored (m ∷ []) ends call after is are follows = subst IsCancelled (sym follows.1) (ignored_one m call is are.0 follows.0)
  ignored (m ∷ n ∷ messages) ends call after is are follows =
      ignored (n ∷ messages) ends (behind call (server_act interface m call)) after (ignored_one m call is are.0 follows.0) are.2 follows.1

-- a cancel is the rule's event
pub cancel_act : (interface : Interface) (m : Msg) (call : Call ServerEntry) → m.kind ≡ message.CancelRequest
    → server_act interface m call ≡ Hears (silently event.Cancel) Nothing
cancel_act interface m call is = rw is refl

-- an act of the server itself does what its rule's event does
did : (interface : Interface) (call after : Call ServerEntry) (act : Happening ServerEvent) (local : Local ServerEvent)
    → done_by local ≡ act → Passes call (act_of local) → after ≡ behind call (act_of local)
    → entry_of after.slot ≡ server_behind interface (entry_of call.slot) (Did act)
did interface call after act (IsTold planned) done ok is =
    entry_left server_step is_closed is_gathering call after planned ok is ∙ ap (λ act. server_behind interface (entry_of call.slot) (Did act)) done
did interface call after act TakesOut done ok is =
    taken_out server_step is_closed is_gathering call after ok is ∙ ap (λ act. server_behind interface (entry_of call.slot) (Did act)) done

-- an item leaves of a call what is said, whatever events carry it
pub server_item_leaves : (interface : Interface)
    → ItemLeaves server_turn (server_act interface) (server_telling interface) (λ entry call. entry_of call.slot ≡ entry)
server_item_leaves interface entry call after (Got said) events stands (k, version, order, messages, e, are, spells) follows =
    series interface k version order messages false call after are (subst (λ l. Follows server_turn (server_act interface) call l after) e follows)
    ∙ ap (λ call. Some (arrived call)) (spelled interface k version order (joined messages) said spells)
server_item_leaves interface entry call after (Bad k version order octets) events stands (messages, e, are, same, none) follows =
    series interface k version order messages false call after are (subst (λ l. Follows server_turn (server_act interface) call l after) e follows)
    ∙ ap (λ octets. Some (arrived (heard_call interface k version order octets))) same
server_item_leaves interface entry call after (Begun k) events stands (version, order, messages, e, are) follows =
    series interface k version order messages true call after are (subst (λ l. Follows server_turn (server_act interface) call l after) e follows)
server_item_leaves interface entry call after (Rest ends) events stands (was, messages, e, are) follows =
    ignored interface was.0 was.1 messages ends call after (stands ∙ was.2) are
    (subst (λ l. Follows server_turn (server_act interface) call l after) e follows)
    ∙ sym was.2
server_item_leaves interface entry call after Cancel events stands (m, is, e) follows =
    let met = subst (λ l. Follows server_turn (server_act interface) call l after) e follows in
    let act = cancel_act interface m call is in
    entry_left server_step is_closed is_gathering call after (silently event.Cancel) (subst (Passes call) act met.0) (met.1 ∙ ap (behind call) act)
    ∙ ap (λ entry. (server_step entry event.Cancel).entry) stands
server_item_leaves interface entry call after (Did act) events stands (id, local, done, e) follows =
    let met = subst (λ l. Follows server_turn (server_act interface) call l after) e follows in
    did interface call after act local done met.0 met.1 ∙ ap (λ entry. server_behind interface entry (Did act)) stands
