-- What a message does to a call at a server is what the event of its lane does.
use Rattle.std.proofs.Common.{◌≡◌, ℕ, ◌≤◌, Bool, true, false, not, cond, List, [], ◌∷◌, ◌++◌, length, Option, Some, None, is_some, IsOk, refl, sym, ap, subst, ◌∙◌, length-drop, arith}
use Rattle.giop_types.specs.declared.interfaces.interface.Interface.{Interface}
use Rattle.giop_frag.specs.Gathered.{Pieces}
use Rattle.giop_msg.specs.declared.kind.Kind.{Kind}
use Rattle.giop_msg.specs.declared.kind.Kind.TheVariants as message
use Rattle.giop_msg.specs.declared.msg.Msg.{Msg}
use Rattle.giop_mux.specs.Faults.{no_fault}
use Rattle.giop_calls.specs.Lane.{Continues, Cut, Message, Opens, Piece, Stops, gathered, in_order, pieces_of, server_event}
use Rattle.giop_calls.specs.Messages.{is_oneway}
use Rattle.giop_calls.specs.ServerTable.{ServerStep, arrived, becomes_if, cancel, server_step}
use Rattle.giop_calls.specs.declared.fault.CallFault.{CallFault}
use Rattle.giop_calls.specs.declared.fault.CallFault.TheVariants.{OrderDiffers}
use Rattle.giop_calls.specs.declared.kind.CallKind.{CallKind}
use Rattle.giop_calls.specs.declared.kind.CallKind.TheVariants as kind
use Rattle.giop_calls.specs.declared.server.entry.ServerEntry.{ServerEntry}
use Rattle.giop_calls.specs.declared.server.entry.ServerEntry.TheVariants.{Gathering, Asked, Undecoded, LocateAsked, Answered, LocateAnswered, Delivered, Cancelled}
use Rattle.giop_calls.specs.declared.server.event.ServerEvent.{ServerEvent}
use Rattle.giop_calls.specs.declared.server.event.ServerEvent.TheVariants as event
use Rattle.giop_calls.specs.declared.server.heard.HeardCall.{HeardCall}
use Rattle.giop_calls.specs.declared.server.heard.HeardCall.TheVariants as heard_as
use Rattle.giop_table.specs.declared.slot.Slot.{Slot}
use Rattle.giop_table.specs.CallTable.{Brings, Call, First, Hears, More, Nothing, brought}
use Rattle.giop_session.specs.Worlds.Coding.{coding}
use Rattle.giop_end.specs.Hearing.Heard.{behind_id, silently}
use Rattle.giop_session.specs.Worlds.LaneAtEnds.{gathered_in, seen, seen_as}
use Rattle.giop_table.specs.Sending.{entry_of}
use Rattle.giop_session.specs.Items.ServerCarries.{asks}
use Rattle.giop_end.specs.Hearing.ServerHears.{breaks_by, server_act, server_breaks}
use Rattle.giop_session.proofs.OnLanes.HearsNext.{same_orders}
use Rattle.giop_session.proofs.OnLanes.LaneAtEndsLemmas as ends
use Rattle.giop_session.proofs.OnLanes.LaneEventLemmas.{asked_seen, fragment_seen}
use Rattle.giop_session.proofs.OnLimits.LimitLemmas.{brought_by}
use Rattle.giop_session.proofs.OnItems.ServerItemLemmas as items

-- ---- plain facts

same_kind : (one other : CallKind) → ◌≡◌ {A = Option ServerEntry} (Some (Gathering one)) (Some (Gathering other)) → one ≡ other
same_kind one other is = cc

-- what came whole isn't gathered
not_gathered : (call : HeardCall) (k : CallKind) → ◌≡◌ {A = Option ServerEntry} (Some (arrived call)) (Some (Gathering k)) → ⊥
not_gathered (heard_as.Request request) k is = by_test (is_oneway request) is
  where
    by_test : (b : Bool) → ◌≡◌ {A = Option ServerEntry} (Some (cond b (Delivered request) (Asked request))) (Some (Gathering k)) → ⊥
    by_test true is = cc
    by_test false is = cc
not_gathered (heard_as.Locate request) k is = cc
not_gathered (heard_as.Undecoded call) k is = cc

-- nor is what was cancelled
not_behind_cancel : (entry : Option ServerEntry) (k : CallKind) → (cancel entry).entry ≡ Some (Gathering k) → ⊥
not_behind_cancel None k is = cc
not_behind_cancel (Some (Gathering kind)) k is = cc
not_behind_cancel (Some (Asked request)) k is = cc
not_behind_cancel (Some (LocateAsked request)) k is = cc
not_behind_cancel (Some (Undecoded call)) k is = by_test (is_some call.expects) is
  where
    by_test : (b : Bool) → ◌≡◌ {A = Option ServerEntry} (Some (cond b (Cancelled false 0) (Undecoded call))) (Some (Gathering k)) → ⊥
    by_test true is = cc
    by_test false is = cc
not_behind_cancel (Some (Answered asked reply left)) k is = cc
not_behind_cancel (Some (LocateAnswered target here)) k is = cc
not_behind_cancel (Some (Delivered request)) k is = cc
not_behind_cancel (Some (Cancelled answered left)) k is = cc

-- a cancel leaves what stands there
cancel_stays : (entry : Option ServerEntry) → is_some entry ≡ true → is_some (cancel entry).entry ≡ true
cancel_stays None there = there
cancel_stays (Some (Gathering kind)) there = refl
cancel_stays (Some (Asked request)) there = refl
cancel_stays (Some (LocateAsked request)) there = refl
cancel_stays (Some (Undecoded call)) there = refl
cancel_stays (Some (Answered asked reply left)) there = refl
cancel_stays (Some (LocateAnswered target here)) there = refl
cancel_stays (Some (Delivered request)) there = refl
cancel_stays (Some (Cancelled answered left)) there = refl

-- a test that was passed
passed : (b : Bool) (before after : ServerEntry) (fault : CallFault) → IsOk (becomes_if b before after fault).outcome → b ≡ true
passed true before after fault ok = refl
passed false before after fault ok = no_fault ok

-- ---- what a message does to a call is its lane's step

-- where a message is gathered, these are its pieces
abbrev pub Gathers : Option ServerEntry → List Piece → Option Pieces → Type 0
Gathers entry pieces held = (k : CallKind) → entry ≡ Some (Gathering k)
    → (cut : Cut) × (cut.first.kind ≡ asks k) × (pieces ≡ pieces_of cut) × (held ≡ gathered_in cut)

module _ (interface : Interface) (m : Msg) (slot : Option (Slot ServerEntry)) (held : Option Pieces) (pieces : List Piece) where
  abbrev pub stored_call : Call ServerEntry
  stored_call = record { slot = slot; pieces = held }

  -- the step of an event under the id
  abbrev pub stepped : ServerEvent → ServerStep
  stepped what = server_step (entry_of slot) what

  -- the message acts on the call by an event that does what the lane's does, and leaves its pieces
  pub record Steps (one : Message) : Type 0 where
    pub what : ServerEvent
    pub brings : Brings
    pub act_by : server_act interface m stored_call ≡ Hears (silently what) brings
    pub small : brought_by brings ≤ length m.payload
    pub same : stepped what ≡ stepped (server_event (coding interface) pieces one)
    pub stays : is_some (entry_of slot) ≡ true → is_some (stepped what).entry ≡ true
    pub gathers : Gathers (stepped what).entry (gathered pieces one) (brought brings held)

  -- the lane's event is accepted
  abbrev pub Accepts : Message → Type 0
  Accepts one = IsOk (stepped (server_event (coding interface) pieces one)).outcome

  -- a call comes, its first piece or all of it
  opens : (k : CallKind) (more : Bool) → m.kind ≡ asks k → m.more ≡ more → Accepts (Opens k m.version (not more) m)
      → Steps (Opens k m.version (not more) m)
  opens k true is there ok =
      let now = items.begun (entry_of slot) (Gathering k) ok in record {
        what = event.First k;
        brings = First m.order m.payload;
        act_by = ends.first_call interface k m stored_call is there;
        small = omega arith;
        same = refl;
        stays = λ had. ap (λ one. is_some one) now;
        gathers = λ other stands. (
          record { first = m; rest = [] },
          is ∙ ap asks (same_kind k other (sym now ∙ stands)),
          refl,
          ends.begun m held,
        );
      }
  opens k false is there ok =
      let call_read = (coding interface).read_call (m ∷ []) in
      let now = items.begun (entry_of slot) (arrived call_read) ok in record {
        what = event.Whole call_read;
        brings = Nothing;
        act_by = ends.whole_call interface k m stored_call is there;
        small = omega arith;
        same = refl;
        stays = λ had. ap (λ one. is_some one) now;
        gathers = λ other stands. absurd (not_gathered call_read other (sym now ∙ stands));
      }

  -- a CancelRequest comes
  stops : m.kind ≡ message.CancelRequest → Steps Stops
  stops is = record {
    what = event.Cancel;
    brings = Nothing;
    act_by = items.cancel_act interface m stored_call is;
    small = omega arith;
    same = refl;
    stays = cancel_stays (entry_of slot);
    gathers = λ other stands. absurd (not_behind_cancel (entry_of slot) other stands);
  }

-- a Fragment comes to a message that is gathered
module _ (interface : Interface) (m : Msg) (k : CallKind) (unsent : List Msg) (held : Option Pieces) (pieces : List Piece) (cut : Cut)
    (kind_is : cut.first.kind ≡ asks k) (came_so : pieces ≡ pieces_of cut) (joined_so : held ≡ gathered_in cut)
    (fragment : m.kind ≡ message.Fragment) (ordered : in_order pieces m ≡ true) where
  abbrev gathering_slot : Option (Slot ServerEntry)
  gathering_slot = Some (record { entry = Gathering k; unsent = unsent })

  order : m.order ≡ cut.first.order
  order = same_orders m.order cut.first.order (ap (λ ps. in_order ps m) (sym came_so) ∙ ordered)

  behind_is_small : length (behind_id m) ≤ length m.payload
  behind_is_small = omega (arith, length-drop 4 m.payload)

  more_of_it : m.more ≡ true → Steps interface m gathering_slot held pieces (Continues false m)
  more_of_it more = record {
    what = event.More true;
    brings = More (behind_id m);
    act_by =
        ap (λ pieces. server_act interface m (record { slot = gathering_slot; pieces = pieces })) joined_so
        ∙ ends.more_call interface k cut m unsent fragment more order;
    small = behind_is_small;
    same = ap (λ b. server_step (Some (Gathering k)) (event.More b)) (sym ordered);
    stays = λ had. refl;
    gathers = λ other stands. (
      record cut { rest = cut.rest ++ m ∷ [] },
      kind_is ∙ ap asks (same_kind k other stands),
      ap (λ ps. ps ++ m ∷ []) came_so,
      ap (brought (More (behind_id m))) joined_so ∙ ends.longer cut m,
    );
  }

  last_of_it : m.more ≡ false → Steps interface m gathering_slot held pieces (Continues true m)
  last_of_it more = record {
    what = event.Last true ((coding interface).read_call (pieces_of cut ++ m ∷ []));
    brings = More (behind_id m);
    act_by =
        ap (λ pieces. server_act interface m (record { slot = gathering_slot; pieces = pieces })) joined_so
        ∙ ends.last_call interface k cut m unsent kind_is fragment more order;
    small = behind_is_small;
    same = λ i. server_step (Some (Gathering k)) (event.Last (sym ordered i) ((coding interface).read_call (sym came_so i ++ m ∷ [])));
    stays = λ had. refl;
    gathers = λ other stands. absurd (not_gathered ((coding interface).read_call (pieces_of cut ++ m ∷ [])) other stands);
  }

-- a Fragment comes behind a cancel
late : (interface : Interface) (m : Msg) (answered : Bool) (left : ℕ) (unsent : List Msg) (held : Option Pieces) (pieces : List Piece) (last : Bool)
    → m.kind ≡ message.Fragment → Steps interface m (Some (record { entry = Cancelled answered left; unsent = unsent })) held pieces (Continues last m)
late interface m answered left unsent held pieces last is = record {
  what = event.More false;
  brings = Nothing;
  act_by = items.fragment_act interface answered left m unsent held is;
  small = omega arith;
  same = by_last last;
  stays = λ had. refl;
  gathers = λ other stands. absurd (apart other stands);
}
  where
    by_last : (last : Bool) → server_step (Some (Cancelled answered left)) (event.More false)
        ≡ server_step (Some (Cancelled answered left)) (server_event (coding interface) pieces (Continues last m))
    by_last true = refl
    by_last false = refl

    apart : (k : CallKind) → ◌≡◌ {A = Option ServerEntry} (Some (Cancelled answered left)) (Some (Gathering k)) → ⊥
    apart k is = cc

-- a Fragment comes
continues : (interface : Interface) (m : Msg) (slot : Option (Slot ServerEntry)) (held : Option Pieces) (pieces : List Piece) (more : Bool)
    → m.kind ≡ message.Fragment → m.more ≡ more → Gathers (entry_of slot) pieces held → Accepts interface m slot held pieces (Continues (not more) m)
    → Steps interface m slot held pieces (Continues (not more) m)
continues interface m None held pieces true is there gathers ok = no_fault ok
continues interface m None held pieces false is there gathers ok = no_fault ok
continues interface m (Some slot) held pieces more is there gathers ok = by_entry slot.entry more there gathers ok
  where
    going_on : (k : CallKind) (more : Bool) → m.more ≡ more
        → (cut : Cut) × (cut.first.kind ≡ asks k) × (pieces ≡ pieces_of cut) × (held ≡ gathered_in cut)
        → Accepts interface m (Some (record { entry = Gathering k; unsent = slot.unsent })) held pieces (Continues (not more) m)
        → Steps interface m (Some (record { entry = Gathering k; unsent = slot.unsent })) held pieces (Continues (not more) m)
    going_on k true there (cut, kind_is, came_so, joined_so) ok =
        more_of_it interface m k slot.unsent held pieces cut kind_is came_so joined_so is
        (passed (in_order pieces m) (Gathering k) (Gathering k) OrderDiffers ok) there
    going_on k false there (cut, kind_is, came_so, joined_so) ok =
        last_of_it interface m k slot.unsent held pieces cut kind_is came_so joined_so is
        (passed (in_order pieces m) (Gathering k) (arrived ((coding interface).read_call (pieces ++ m ∷ []))) OrderDiffers ok) there

    by_entry : (entry : ServerEntry) (more : Bool) → m.more ≡ more → Gathers (Some entry) pieces held
        → Accepts interface m (Some (record { entry = entry; unsent = slot.unsent })) held pieces (Continues (not more) m)
        → Steps interface m (Some (record { entry = entry; unsent = slot.unsent })) held pieces (Continues (not more) m)
    by_entry (Gathering k) more there gathers ok = going_on k more there (gathers k refl) ok
    by_entry (Cancelled answered left) more there gathers ok = late interface m answered left slot.unsent held pieces (not more) is
    by_entry (Asked request) true there gathers ok = no_fault ok
    by_entry (Asked request) false there gathers ok = no_fault ok
    by_entry (Undecoded call) true there gathers ok = no_fault ok
    by_entry (Undecoded call) false there gathers ok = no_fault ok
    by_entry (LocateAsked request) true there gathers ok = no_fault ok
    by_entry (LocateAsked request) false there gathers ok = no_fault ok
    by_entry (Answered asked reply left) true there gathers ok = no_fault ok
    by_entry (Answered asked reply left) false there gathers ok = no_fault ok
    by_entry (LocateAnswered target here) true there gathers ok = no_fault ok
    by_entry (LocateAnswered target here) false there gathers ok = no_fault ok
    by_entry (Delivered request) true there gathers ok = no_fault ok
    by_entry (Delivered request) false there gathers ok = no_fault ok

-- a cancel on its lane
cancel_seen : (m : Msg) → m.kind ≡ message.CancelRequest → seen m ≡ Stops
cancel_seen m is = λ i. seen_as (is i) m.version m.more m

-- each message that a server's end hears
pub steps : (interface : Interface) (m : Msg) (slot : Option (Slot ServerEntry)) (held : Option Pieces) (pieces : List Piece) → server_breaks m ≡ None
    → Gathers (entry_of slot) pieces held → Accepts interface m slot held pieces (seen m) → Steps interface m slot held pieces (seen m)
steps interface m slot held pieces unbroken gathers ok = by_kind m.kind refl unbroken
  where
    of_one : (one : Message) → seen m ≡ one → (Accepts interface m slot held pieces one → Steps interface m slot held pieces one)
        → Steps interface m slot held pieces (seen m)
    of_one one is so = subst (Steps interface m slot held pieces) (sym is) (so (subst (Accepts interface m slot held pieces) is ok))

    opened : (k : CallKind) → m.kind ≡ asks k → Steps interface m slot held pieces (seen m)
    opened k is = of_one (Opens k m.version (not m.more) m) (asked_seen k m m.more is refl) (opens interface m slot held pieces k m.more is refl)

    by_kind : (of_kind : Kind) → m.kind ≡ of_kind → breaks_by of_kind ≡ None → Steps interface m slot held pieces (seen m)
    by_kind message.Request is unbroken = opened kind.Request is
    by_kind message.LocateRequest is unbroken = opened kind.Locate is
    by_kind message.CancelRequest is unbroken =
        of_one Stops (cancel_seen m is) (λ accepts. stops interface m slot held pieces is)
    by_kind message.Fragment is unbroken =
        of_one (Continues (not m.more) m) (fragment_seen m m.more is refl) (continues interface m slot held pieces m.more is refl gathers)
    by_kind message.Reply is unbroken = absurd cc
    by_kind message.LocateReply is unbroken = absurd cc
    by_kind message.CloseConnection is unbroken = absurd cc
    by_kind message.MessageError is unbroken = absurd cc
