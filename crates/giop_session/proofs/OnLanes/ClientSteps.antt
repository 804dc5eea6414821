-- What a message does to a call at a client is what the event of its lane does.
use Rattle.std.proofs.Common.{◌≡◌, ℕ, ◌≤◌, Bool, true, false, not, cond, if◌then◌else◌, List, [], ◌∷◌, ◌++◌, length, Option, Some, None, is_some, IsOk, is_ok, refl, sym, ap, subst, ◌∙◌, length-drop, arith}
use Rattle.giop_types.specs.declared.interfaces.interface.Interface.{Interface}
use Rattle.giop_frag.specs.Gathered.{Pieces}
use Rattle.giop_msg.specs.declared.kind.Kind.{Kind}
use Rattle.giop_msg.specs.declared.kind.Kind.TheVariants as message
use Rattle.giop_msg.specs.declared.msg.Msg.{Msg}
use Rattle.giop_mux.specs.Faults.{no_fault}
use Rattle.giop_calls.specs.Lane.{Continues, Cut, Message, Opens, Piece, Standing, client_event, gathered, in_order, pieces_of}
use Rattle.giop_calls.specs.ClientTable.{ClientStep, answers, becomes, client_step, refused, settles}
use Rattle.giop_calls.specs.declared.client.call.Call.{Call as Asked}
use Rattle.giop_calls.specs.declared.client.call.Call.TheVariants as asked
use Rattle.giop_calls.specs.declared.client.entry.ClientEntry.{ClientEntry}
use Rattle.giop_calls.specs.declared.client.entry.ClientEntry.TheVariants.{Sending, Waiting, Gathering, Done, LocateDone, Undecoded, OnewaySent, Cancelled}
use Rattle.giop_calls.specs.declared.client.event.ClientEvent.{ClientEvent}
use Rattle.giop_calls.specs.declared.client.event.ClientEvent.TheVariants as event
use Rattle.giop_calls.specs.declared.client.heard.HeardReply.{HeardReply}
use Rattle.giop_calls.specs.declared.client.heard.HeardReply.TheVariants as heard_as
use Rattle.giop_calls.specs.declared.client.late.Late.{Late}
use Rattle.giop_calls.specs.declared.client.late.Late.TheVariants as late
use Rattle.giop_calls.specs.declared.fault.CallFault.TheVariants.{OrderDiffers, WrongKind}
use Rattle.giop_calls.specs.declared.kind.CallKind.{CallKind}
use Rattle.giop_calls.specs.declared.kind.CallKind.TheVariants as kind
use Rattle.giop_table.specs.declared.slot.Slot.{Slot}
use Rattle.giop_table.specs.CallTable.{Brings, Call, First, Hears, More, Nothing, brought}
use Rattle.giop_session.specs.Items.ClientCarries.{replies}
use Rattle.giop_end.specs.Hearing.ClientHears.{awaited, breaks_by, client_act, client_breaks, comes}
use Rattle.giop_end.specs.Hearing.ClientHears as hearing
use Rattle.giop_session.specs.Worlds.Coding.{coding}
use Rattle.giop_end.specs.Hearing.Heard.{behind_id, silently}
use Rattle.giop_session.specs.Worlds.LaneAtEnds.{gathered_in, seen}
use Rattle.giop_table.specs.Sending.{entry_of}
use Rattle.giop_session.proofs.OnHearing.ClientCancelLemmas as cancelled
use Rattle.giop_session.proofs.OnLanes.HearsNext.{same_orders}
use Rattle.giop_session.proofs.OnLanes.LaneAtEndsLemmas as ends
use Rattle.giop_session.proofs.OnLanes.LaneEventLemmas.{fragment_seen, replied_seen}
use Rattle.giop_session.proofs.OnLimits.LimitLemmas.{brought_by}

-- ---- plain facts

same_call : (one other : Asked) → ◌≡◌ {A = Option ClientEntry} (Some (Gathering one)) (Some (Gathering other)) → one ≡ other
same_call one other is = cc

-- a reply that settles its call isn't gathered
settled_apart : (before : ClientEntry) (call : Asked) (told : HeardReply) (q : Asked) → IsOk (settles before call told).outcome
    → (settles before call told).entry ≡ Some (Gathering q) → ⊥
settled_apart before (asked.Request request) (heard_as.Reply reply) q ok is = cc
settled_apart before (asked.Request request) (heard_as.Locate reply) q ok is = no_fault ok
settled_apart before (asked.Request request) (heard_as.Undecoded fault) q ok is = cc
settled_apart before (asked.Request request) heard_as.Unread q ok is = no_fault ok
settled_apart before (asked.Locate request) (heard_as.Reply reply) q ok is = no_fault ok
settled_apart before (asked.Locate request) (heard_as.Locate reply) q ok is = cc
settled_apart before (asked.Locate request) (heard_as.Undecoded fault) q ok is = cc
settled_apart before (asked.Locate request) heard_as.Unread q ok is = no_fault ok

-- and it stands
settled_stays : (before : ClientEntry) (call : Asked) (told : HeardReply) → is_some (settles before call told).entry ≡ true
settled_stays before (asked.Request request) (heard_as.Reply reply) = refl
settled_stays before (asked.Request request) (heard_as.Locate reply) = refl
settled_stays before (asked.Request request) (heard_as.Undecoded fault) = refl
settled_stays before (asked.Request request) heard_as.Unread = refl
settled_stays before (asked.Locate request) (heard_as.Reply reply) = refl
settled_stays before (asked.Locate request) (heard_as.Locate reply) = refl
settled_stays before (asked.Locate request) (heard_as.Undecoded fault) = refl
settled_stays before (asked.Locate request) heard_as.Unread = refl

-- ---- what a message does to a call is its lane's step

-- where a reply is gathered, these are its pieces
abbrev pub Gathers : Option ClientEntry → List Piece → Option Pieces → Type 0
Gathers entry pieces held = (q : Asked) → entry ≡ Some (Gathering q) → (cut : Cut) × (pieces ≡ pieces_of cut) × (held ≡ gathered_in cut)

-- the client's half of a lane with this entry
abbrev pub half : Option ClientEntry → List Piece → ℕ → Standing ClientEntry
half entry pieces uses = record { entry = entry; pieces = pieces; uses = uses }

module _ (interface : Interface) (m : Msg) (slot : Option (Slot ClientEntry)) (held : Option Pieces) (pieces : List Piece) (uses : ℕ) where
  abbrev pub stored_call : Call ClientEntry
  stored_call = record { slot = slot; pieces = held }

  -- the step of an event under the id
  abbrev pub stepped : ClientEvent → ClientStep
  stepped what = client_step (entry_of slot) what

  -- the lane's event of a message
  abbrev pub of_lane : Message → Option ClientEvent
  of_lane one = client_event (coding interface) (half (entry_of slot) pieces uses) one

  -- the message acts on the call by an event that does what the lane's does, and leaves its pieces
  pub record Steps (one : Message) : Type 0 where
    pub what : ClientEvent
    pub lanes_event : ClientEvent
    pub brings : Brings
    pub act_by : client_act interface m stored_call ≡ Hears (silently what) brings
    pub small : brought_by brings ≤ length m.payload
    pub on_lane : of_lane one ≡ Some lanes_event
    pub same : stepped what ≡ stepped lanes_event
    pub stays : is_some (entry_of slot) ≡ true → is_some (stepped what).entry ≡ true
    pub gathers : Gathers (stepped what).entry (gathered pieces one) (brought brings held)

  -- the lane's event is accepted
  abbrev pub AcceptsIt : Option ClientEvent → Type 0
  AcceptsIt None = ⊥
  AcceptsIt (Some what) = IsOk (stepped what).outcome

  abbrev pub Accepts : Message → Type 0
  Accepts one = AcceptsIt (of_lane one)

-- ---- what opens a reply

-- the first piece of the reply to a call that waits for it, or all of it
module _ (interface : Interface) (m : Msg) (k : CallKind) (q : Asked) (unsent : List Msg) (held : Option Pieces) (pieces : List Piece) (uses : ℕ)
    (is : m.kind ≡ replies k) where
  abbrev waiting : Option (Slot ClientEntry)
  waiting = Some (record { entry = Waiting q; unsent = unsent })

  -- whether the message is of the kind and the version that the call waits for
  awaited_by : (b : Bool) → answers k m.version q ≡ b → awaited k m.version waiting ≡ (if b then Some q else None)
  awaited_by b is = ap (λ b. cond b (Some q) None) is

  first_awaited : answers k m.version q ≡ true → m.more ≡ true → Steps interface m waiting held pieces uses (Opens k m.version false m)
  first_awaited waits more =
      let begins : (client_step (Some (Waiting q)) (event.First k m.version)).entry ≡ Some (Gathering q) =
      ap (λ b. (cond b (becomes (Gathering q)) (refused (Some (Waiting q)) WrongKind)).entry) waits in record {
        what = event.First k m.version;
        lanes_event = event.First k m.version;
        brings = First m.order m.payload;
        act_by = ends.first_reply interface k q m (record { slot = waiting; pieces = held }) is more (awaited_by true waits);
        small = omega arith;
        on_lane = refl;
        same = refl;
        stays = λ had. ap (λ one. is_some one) begins;
        gathers = λ other stands. (record { first = m; rest = [] }, refl, ends.begun m held);
      }

  whole_awaited : answers k m.version q ≡ true → m.more ≡ false
      → IsOk (client_step (Some (Waiting q)) (event.Whole k m.version ((coding interface).read_reply q (m ∷ [])))).outcome
      → Steps interface m waiting held pieces uses (Opens k m.version true m)
  whole_awaited waits more ok =
      let told = (coding interface).read_reply q (m ∷ []) in
      let is_step : client_step (Some (Waiting q)) (event.Whole k m.version told) ≡ settles (Waiting q) q told =
      ap (λ b. cond b (settles (Waiting q) q told) (refused (Some (Waiting q)) WrongKind)) waits in record {
        what = event.Whole k m.version told;
        lanes_event = event.Whole k m.version told;
        brings = Nothing;
        act_by = ends.whole_reply interface k q m (record { slot = waiting; pieces = held }) is more (awaited_by true waits);
        small = omega arith;
        on_lane = refl;
        same = refl;
        stays = λ had. ap (λ (one : ClientStep). is_some one.entry) is_step ∙ settled_stays (Waiting q) q told;
        gathers = λ other stands. absurd (settled_apart (Waiting q) q told other
            (subst (λ (one : ClientStep). IsOk one.outcome) is_step ok)
            (sym (ap (λ (one : ClientStep). one.entry) is_step) ∙ stands));
      }

  -- one that the call doesn't wait for is refused on its lane
  unawaited : {P : Type 0} (whole : HeardReply) → answers k m.version q ≡ false
      → IsOk (client_step (Some (Waiting q)) (event.Whole k m.version whole)).outcome → P
  unawaited whole waits ok =
      no_fault (sym (ap (λ b. is_ok (cond b (settles (Waiting q) q whole) (refused (Some (Waiting q)) WrongKind)).outcome) waits) ∙ ok)

  unawaited_first : {P : Type 0} → answers k m.version q ≡ false
      → IsOk (client_step (Some (Waiting q)) (event.First k m.version)).outcome → P
  unawaited_first waits ok =
      no_fault (sym (ap (λ b. is_ok (cond b (becomes (Gathering q)) (refused (Some (Waiting q)) WrongKind)).outcome) waits) ∙ ok)

  opens_awaited : (more : Bool) → m.more ≡ more → Accepts interface m waiting held pieces uses (Opens k m.version (not more) m)
      → Steps interface m waiting held pieces uses (Opens k m.version (not more) m)
  opens_awaited true there ok = by_test (answers k m.version q) refl
    where
      by_test : (b : Bool) → answers k m.version q ≡ b → Steps interface m waiting held pieces uses (Opens k m.version false m)
      by_test true waits = first_awaited waits there
      by_test false waits = unawaited_first waits ok
  opens_awaited false there ok = by_test (answers k m.version q) refl
    where
      by_test : (b : Bool) → answers k m.version q ≡ b → Steps interface m waiting held pieces uses (Opens k m.version true m)
      by_test true waits = whole_awaited waits there ok
      by_test false waits = unawaited ((coding interface).read_reply q (m ∷ [])) waits ok

-- what was cancelled isn't gathered
late_apart : (l : Late) (q : Asked) → ◌≡◌ {A = Option ClientEntry} (Some (Cancelled l)) (Some (Gathering q)) → ⊥
late_apart l q is = cc

-- a late reply, to a call that was cancelled
late_act : (interface : Interface) (m : Msg) (k : CallKind) (unsent : List Msg) (held : Option Pieces) → m.kind ≡ replies k
    → client_act interface m (record { slot = Some (record { entry = Cancelled late.None; unsent = unsent }); pieces = held })
    ≡ comes interface k m None
late_act interface m k unsent held is =
    ap (hearing.act_by_kind interface m (record { slot = Some (record { entry = Cancelled late.None; unsent = unsent }); pieces = held })) is
    ∙ ends.answer_act interface k m (record { slot = Some (record { entry = Cancelled late.None; unsent = unsent }); pieces = held })

late_opens : (interface : Interface) (m : Msg) (k : CallKind) (unsent : List Msg) (held : Option Pieces) (pieces : List Piece) (uses : ℕ) (more : Bool)
    → m.kind ≡ replies k → m.more ≡ more
    → Steps interface m (Some (record { entry = Cancelled late.None; unsent = unsent })) held pieces uses (Opens k m.version (not more) m)
late_opens interface m k unsent held pieces uses true is there = record {
  what = event.First k m.version;
  lanes_event = event.First k m.version;
  brings = Nothing;
  act_by = late_act interface m k unsent held is ∙ ends.more_is m.more _ _ there;
  small = omega arith;
  on_lane = refl;
  same = refl;
  stays = λ had. refl;
  gathers = λ other stands. absurd (late_apart late.Begun other stands);
}
late_opens interface m k unsent held pieces uses false is there = record {
  what = event.Whole k m.version heard_as.Unread;
  lanes_event = event.Whole k m.version heard_as.Unread;
  brings = Nothing;
  act_by = late_act interface m k unsent held is ∙ ends.not_more m.more _ _ there;
  small = omega arith;
  on_lane = refl;
  same = refl;
  stays = λ had. refl;
  gathers = λ other stands. absurd (late_apart late.Seen other stands);
}

-- a slot with this entry
abbrev slot_with : ClientEntry → List Msg → Option (Slot ClientEntry)
slot_with entry unsent = Some (record { entry = entry; unsent = unsent })

-- a Reply or a LocateReply comes
opens : (interface : Interface) (m : Msg) (slot : Option (Slot ClientEntry)) (held : Option Pieces) (pieces : List Piece) (uses : ℕ) (k : CallKind)
    (more : Bool) → m.kind ≡ replies k → m.more ≡ more → Accepts interface m slot held pieces uses (Opens k m.version (not more) m)
    → Steps interface m slot held pieces uses (Opens k m.version (not more) m)
opens interface m None held pieces uses k true is there ok = no_fault ok
opens interface m None held pieces uses k false is there ok = no_fault ok
opens interface m (Some slot) held pieces uses k more is there ok = by_entry slot.entry more there ok
  where
    by_entry : (entry : ClientEntry) (more : Bool) → m.more ≡ more
        → Accepts interface m (slot_with entry slot.unsent) held pieces uses (Opens k m.version (not more) m)
        → Steps interface m (slot_with entry slot.unsent) held pieces uses (Opens k m.version (not more) m)
    by_entry (Waiting q) more there ok = opens_awaited interface m k q slot.unsent held pieces uses is more there ok
    by_entry (Cancelled late.None) more there ok = late_opens interface m k slot.unsent held pieces uses more is there
    by_entry (Cancelled late.Begun) true there ok = no_fault ok
    by_entry (Cancelled late.Begun) false there ok = no_fault ok
    by_entry (Cancelled late.Seen) true there ok = no_fault ok
    by_entry (Cancelled late.Seen) false there ok = no_fault ok
    by_entry (Sending call left) true there ok = no_fault ok
    by_entry (Sending call left) false there ok = no_fault ok
    by_entry (Gathering call) true there ok = no_fault ok
    by_entry (Gathering call) false there ok = no_fault ok
    by_entry (Done request reply) true there ok = no_fault ok
    by_entry (Done request reply) false there ok = no_fault ok
    by_entry (LocateDone request reply) true there ok = no_fault ok
    by_entry (LocateDone request reply) false there ok = no_fault ok
    by_entry (Undecoded call fault) true there ok = no_fault ok
    by_entry (Undecoded call fault) false there ok = no_fault ok
    by_entry (OnewaySent request) true there ok = no_fault ok
    by_entry (OnewaySent request) false there ok = no_fault ok

-- ---- what continues one

-- a test that was passed
passed : (b : Bool) (one : ClientStep) (before : ClientEntry) → IsOk (cond b one (refused (Some before) OrderDiffers)).outcome → b ≡ true
passed true one before ok = refl
passed false one before ok = no_fault ok

-- a Fragment comes to a reply that is gathered
module _ (interface : Interface) (m : Msg) (q : Asked) (unsent : List Msg) (held : Option Pieces) (pieces : List Piece) (uses : ℕ) (cut : Cut)
    (came_so : pieces ≡ pieces_of cut) (joined_so : held ≡ gathered_in cut)
    (fragment : m.kind ≡ message.Fragment) (ordered : in_order pieces m ≡ true) where
  abbrev gathering_slot : Option (Slot ClientEntry)
  gathering_slot = Some (record { entry = Gathering q; unsent = unsent })

  order : m.order ≡ cut.first.order
  order = same_orders m.order cut.first.order (ap (λ ps. in_order ps m) (sym came_so) ∙ ordered)

  behind_is_small : length (behind_id m) ≤ length m.payload
  behind_is_small = omega (arith, length-drop 4 m.payload)

  more_of_it : m.more ≡ true → Steps interface m gathering_slot held pieces uses (Continues false m)
  more_of_it more = record {
    what = event.More true;
    lanes_event = event.More (in_order pieces m);
    brings = More (behind_id m);
    act_by =
        ap (λ pieces. client_act interface m (record { slot = gathering_slot; pieces = pieces })) joined_so
        ∙ ends.more_reply interface q cut m unsent fragment more order;
    small = behind_is_small;
    on_lane = refl;
    same = ap (λ b. client_step (Some (Gathering q)) (event.More b)) (sym ordered);
    stays = λ had. refl;
    gathers = λ other stands. (
      record cut { rest = cut.rest ++ m ∷ [] },
      ap (λ ps. ps ++ m ∷ []) came_so,
      ap (brought (More (behind_id m))) joined_so ∙ ends.longer cut m,
    );
  }

  last_of_it : m.more ≡ false → Accepts interface m gathering_slot held pieces uses (Continues true m)
      → Steps interface m gathering_slot held pieces uses (Continues true m)
  last_of_it more ok =
      let told = (coding interface).read_reply q (pieces_of cut ++ m ∷ []) in
      let same : client_step (Some (Gathering q)) (event.Last true told)
      ≡ client_step (Some (Gathering q)) (event.Last (in_order pieces m) ((coding interface).read_reply q (pieces ++ m ∷ []))) =
      (λ i. client_step (Some (Gathering q)) (event.Last (sym ordered i) ((coding interface).read_reply q (sym came_so i ++ m ∷ [])))) in record {
        what = event.Last true told;
        lanes_event = event.Last (in_order pieces m) ((coding interface).read_reply q (pieces ++ m ∷ []));
        brings = More (behind_id m);
        act_by =
            ap (λ pieces. client_act interface m (record { slot = gathering_slot; pieces = pieces })) joined_so
            ∙ ends.last_reply interface q cut m unsent fragment more order;
        small = behind_is_small;
        on_lane = refl;
        same = same;
        stays = λ had. settled_stays (Gathering q) q told;
        gathers = λ other stands.
            absurd (settled_apart (Gathering q) q told other (subst (λ (one : ClientStep). IsOk one.outcome) (sym same) ok) stands);
      }

-- a Fragment of a late reply comes
module _ (interface : Interface) (m : Msg) (unsent : List Msg) (held : Option Pieces) (pieces : List Piece) (uses : ℕ)
    (fragment : m.kind ≡ message.Fragment) where
  abbrev stopped : Late → Option (Slot ClientEntry)
  stopped l = Some (record { entry = Cancelled l; unsent = unsent })

  more_late : (l : Late) → m.more ≡ true → Steps interface m (stopped l) held pieces uses (Continues false m)
  more_late l more = record {
    what = event.More false;
    lanes_event = event.More (in_order pieces m);
    brings = Nothing;
    act_by = cancelled.fragment_act interface m (record { slot = stopped l; pieces = held }) l false refl fragment more;
    small = omega arith;
    on_lane = refl;
    same = refl;
    stays = λ had. refl;
    gathers = λ other stands. absurd (late_apart l other stands);
  }

  last_late : (l : Late) → m.more ≡ false → Steps interface m (stopped l) held pieces uses (Continues true m)
  last_late l more = record {
    what = event.Last false heard_as.Unread;
    lanes_event = event.Last (in_order pieces m) heard_as.Unread;
    brings = Nothing;
    act_by = cancelled.fragment_act interface m (record { slot = stopped l; pieces = held }) l true refl fragment more;
    small = omega arith;
    on_lane = refl;
    same = by_late l;
    stays = λ had. stands_late l;
    gathers = λ other stands. absurd (apart l other stands);
  }
    where
      by_late : (l : Late) → client_step (Some (Cancelled l)) (event.Last false heard_as.Unread)
          ≡ client_step (Some (Cancelled l)) (event.Last (in_order pieces m) heard_as.Unread)
      by_late late.None = refl
      by_late late.Begun = refl
      by_late late.Seen = refl

      stands_late : (l : Late) → is_some (client_step (Some (Cancelled l)) (event.Last false heard_as.Unread)).entry ≡ true
      stands_late late.None = refl
      stands_late late.Begun = refl
      stands_late late.Seen = refl

      apart : (l : Late) (q : Asked) → (client_step (Some (Cancelled l)) (event.Last false heard_as.Unread)).entry ≡ Some (Gathering q) → ⊥
      apart late.None q is = cc
      apart late.Begun q is = cc
      apart late.Seen q is = cc

-- a Fragment comes
continues : (interface : Interface) (m : Msg) (slot : Option (Slot ClientEntry)) (held : Option Pieces) (pieces : List Piece) (uses : ℕ) (more : Bool)
    → m.kind ≡ message.Fragment → m.more ≡ more → Gathers (entry_of slot) pieces held
    → Accepts interface m slot held pieces uses (Continues (not more) m) → Steps interface m slot held pieces uses (Continues (not more) m)
continues interface m None held pieces uses true is there gathers ok = no_fault ok
continues interface m None held pieces uses false is there gathers ok = no_fault ok
continues interface m (Some slot) held pieces uses more is there gathers ok = by_entry slot.entry more there gathers ok
  where
    going_on : (q : Asked) (more : Bool) → m.more ≡ more → (cut : Cut) × (pieces ≡ pieces_of cut) × (held ≡ gathered_in cut)
        → Accepts interface m (slot_with (Gathering q) slot.unsent) held pieces uses (Continues (not more) m)
        → Steps interface m (slot_with (Gathering q) slot.unsent) held pieces uses (Continues (not more) m)
    going_on q true there (cut, came_so, joined_so) ok =
        more_of_it interface m q slot.unsent held pieces uses cut came_so joined_so is
        (passed (in_order pieces m) (becomes (Gathering q)) (Gathering q) ok) there
    going_on q false there (cut, came_so, joined_so) ok =
        last_of_it interface m q slot.unsent held pieces uses cut came_so joined_so is
        (passed (in_order pieces m) (settles (Gathering q) q ((coding interface).read_reply q (pieces ++ m ∷ []))) (Gathering q) ok) there ok

    by_entry : (entry : ClientEntry) (more : Bool) → m.more ≡ more → Gathers (Some entry) pieces held
        → Accepts interface m (slot_with entry slot.unsent) held pieces uses (Continues (not more) m)
        → Steps interface m (slot_with entry slot.unsent) held pieces uses (Continues (not more) m)
    by_entry (Gathering q) more there gathers ok = going_on q more there (gathers q refl) ok
    by_entry (Cancelled l) true there gathers ok = more_late interface m slot.unsent held pieces uses is l there
    by_entry (Cancelled l) false there gathers ok = last_late interface m slot.unsent held pieces uses is l there
    by_entry (Sending call left) true there gathers ok = no_fault ok
    by_entry (Sending call left) false there gathers ok = no_fault ok
    by_entry (Waiting call) true there gathers ok = no_fault ok
    by_entry (Waiting call) false there gathers ok = no_fault ok
    by_entry (Done request reply) true there gathers ok = no_fault ok
    by_entry (Done request reply) false there gathers ok = no_fault ok
    by_entry (LocateDone request reply) true there gathers ok = no_fault ok
    by_entry (LocateDone request reply) false there gathers ok = no_fault ok
    by_entry (Undecoded call fault) true there gathers ok = no_fault ok
    by_entry (Undecoded call fault) false there gathers ok = no_fault ok
    by_entry (OnewaySent request) true there gathers ok = no_fault ok
    by_entry (OnewaySent request) false there gathers ok = no_fault ok

-- each message that a client's end hears
pub steps : (interface : Interface) (m : Msg) (slot : Option (Slot ClientEntry)) (held : Option Pieces) (pieces : List Piece) (uses : ℕ)
    → client_breaks m ≡ None → Gathers (entry_of slot) pieces held → Accepts interface m slot held pieces uses (seen m)
    → Steps interface m slot held pieces uses (seen m)
steps interface m slot held pieces uses unbroken gathers ok = by_kind m.kind refl unbroken
  where
    of_one : (one : Message) → seen m ≡ one → (Accepts interface m slot held pieces uses one → Steps interface m slot held pieces uses one)
        → Steps interface m slot held pieces uses (seen m)
    of_one one is so = subst (Steps interface m slot held pieces uses) (sym is) (so (subst (Accepts interface m slot held pieces uses) is ok))

    opened : (k : CallKind) → m.kind ≡ replies k → Steps interface m slot held pieces uses (seen m)
    opened k is =
        of_one (Opens k m.version (not m.more) m) (replied_seen k m m.more is refl) (opens interface m slot held pieces uses k m.more is refl)

    by_kind : (of_kind : Kind) → m.kind ≡ of_kind → breaks_by of_kind ≡ None → Steps interface m slot held pieces uses (seen m)
    by_kind message.Reply is unbroken = opened kind.Request is
    by_kind message.LocateReply is unbroken = opened kind.Locate is
    by_kind message.Fragment is unbroken =
        of_one (Continues (not m.more) m) (fragment_seen m m.more is refl)
        (continues interface m slot held pieces uses m.more is refl gathers)
    by_kind message.Request is unbroken = absurd cc
    by_kind message.LocateRequest is unbroken = absurd cc
    by_kind message.CancelRequest is unbroken = absurd cc
    by_kind message.CloseConnection is unbroken = absurd cc
    by_kind message.MessageError is unbroken = absurd cc
