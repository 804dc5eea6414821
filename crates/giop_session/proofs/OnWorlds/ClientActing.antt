-- What a client's own program does in a world is an act of the lane of its id.
use Rattle.std.proofs.Common.{◌≡◌, ℕ, ◌+◌, ◌-◌, ◌==◌, ◌^◌, ◌<◌, Bool, true, false, if◌then◌else◌, List, [], ◌∷◌, ◌++◌, map, Option, Some, None, Result, Ok, Err, IsOk, refl, sym, ap, subst, ◌∙◌}
use Rattle.std.specs.FinMap as finite
use Rattle.std.specs.List.{AllByRecursion}
use Rattle.giop_cdr.specs.declared.order.Order.{Order}
use Rattle.giop_types.specs.declared.interfaces.interface.Interface.{Interface}
use Rattle.giop_msg.specs.Locate.{AnyLocateRequest}
use Rattle.giop_msg.specs.declared.messages.request.Request.{Request}
use Rattle.giop_msg.specs.declared.msg.Msg.{Msg}
use Rattle.giop_msg.specs.declared.version.Version.{Version}
use Rattle.giop_calls.specs.ClientTable.{client_step, is_free, is_gathering, sending, sent}
use Rattle.giop_calls.specs.ClientTable as client_table
use Rattle.giop_calls.specs.Lane.{Cut, Lane, Stops, count, fragments, is_last, later, next, pieces_of, tried}
use Rattle.giop_calls.specs.Lane as lanes
use Rattle.giop_calls.specs.Messages.{is_oneway}
use Rattle.giop_calls.specs.declared.client.call.Call.{Call}
use Rattle.giop_calls.specs.declared.client.call.Call.TheVariants as asked
use Rattle.giop_calls.specs.declared.client.entry.ClientEntry.{ClientEntry}
use Rattle.giop_calls.specs.declared.client.entry.ClientEntry.TheVariants as entries
use Rattle.giop_calls.specs.declared.client.event.ClientEvent.{ClientEvent}
use Rattle.giop_calls.specs.declared.client.event.ClientEvent.TheVariants as at_client
use Rattle.giop_calls.specs.declared.client.late.Late.TheVariants as late
use Rattle.giop_calls.specs.declared.client.rule.ClientRule.{ClientRule}
use Rattle.giop_calls.specs.declared.fault.CallFault.{CallFault}
use Rattle.giop_calls.specs.declared.fault.CallFault.TheVariants.{IdInUse}
use Rattle.giop_session.specs.declared.laws.inputs.CheckedForm.{CheckedForm}
use Rattle.giop_session.specs.declared.laws.inputs.ClientInput.TheVariants as given
use Rattle.giop_end.specs.declared.limits.Limits.{Limits}
use Rattle.giop_table.specs.declared.plan.Plan.TheVariants.{Next}
use Rattle.giop_table.specs.declared.plan.Planned.{Planned}
use Rattle.giop_session.specs.Acts.Acting.{IsAccepted}
use Rattle.giop_table.specs.CallTable.{Held, at, entry_at}
use Rattle.giop_end.specs.Acts.ClientCalls.{IsCall, IsCancel, IsLocate, call_fault, cancel_fault, locate_fault, open_version}
use Rattle.giop_session.specs.Worlds.LaneAtEnds.{seen}
use Rattle.giop_session.specs.Worlds.OnTheWay.{id_of}
use Rattle.giop_session.specs.Worlds.OwnLane.{PlansCall, sends_cut}
use Rattle.giop_table.specs.Sending.{entry_of, message_of, slot_of, unsent_after, unsent_of}
use Rattle.giop_end.specs.Acts.Sent.{cancel_request, sends_one}
use Rattle.giop_session.specs.Worlds.Tracks.{ClientShows, IsToServer}
use Rattle.giop_table.specs.Unsent.{first_of}
use Rattle.giop_session.specs.Worlds.World.{AtClient, Returned, WorldState}
use Rattle.giop_session.proofs.OnWorlds.Acted.{ClientActs, client_puts_on, listed}
use Rattle.giop_session.proofs.OnLanes.CodingLemmas.{call_read, own_suits}
use Rattle.giop_session.proofs.OnLanes.LaneAtEndsLemmas.{call_seen}
use Rattle.giop_session.proofs.OnWorlds.SentMessages.{call_for, cancel_for}
use Rattle.giop_session.proofs.OnWorlds.WorldTracks.{Tracks}

-- ---- what stands after an act

-- an entry stands, and gathers nothing
record StandsStill (entry : Option ClientEntry) : Type 0 where
  one : ClientEntry
  is : entry ≡ Some one
  still : is_gathering one ≡ false

sent_still : (call : Call) → is_gathering (sent call) ≡ false
sent_still (asked.Request q) = by_oneway (is_oneway q)
  where
    by_oneway : (oneway : Bool) → is_gathering (if oneway then entries.OnewaySent q else entries.Waiting (asked.Request q)) ≡ false
    by_oneway true = refl
    by_oneway false = refl
sent_still (asked.Locate q) = refl

sending_still : (call : Call) (left : ℕ) → is_gathering (sending call left) ≡ false
sending_still call left = by_left (left == 0)
  where
    by_left : (none : Bool) → is_gathering (if none then sent call else entries.Sending call left) ≡ false
    by_left true = sent_still call
    by_left false = refl

either_stands : (free : Bool) (before : Option ClientEntry) (after : ClientEntry) → is_gathering after ≡ false
    → IsOk (if free then client_table.becomes after else client_table.refused before IdInUse).outcome
    → StandsStill (if free then client_table.becomes after else client_table.refused before IdInUse).entry
either_stands true before after still ok = record { one = after; is = refl; still = still }
either_stands false before after still ok = absurd cc

call_stands : (entry : Option ClientEntry) (call : Call) (n : ℕ) → IsOk (client_step entry (at_client.Call call n)).outcome
    → StandsStill (client_step entry (at_client.Call call n)).entry
call_stands entry call n ok = either_stands (is_free entry) entry (sending call (n - 1)) (sending_still call (n - 1)) ok

send_stands : (entry : Option ClientEntry) → IsOk (client_step entry at_client.Send).outcome → StandsStill (client_step entry at_client.Send).entry
send_stands None ok = absurd cc
send_stands (Some (entries.Sending call left)) ok =
    record { one = sending call (left - 1); is = refl; still = sending_still call (left - 1) }
send_stands (Some (entries.Waiting call)) ok = absurd cc
send_stands (Some (entries.Gathering call)) ok = absurd cc
send_stands (Some (entries.Done q r)) ok = absurd cc
send_stands (Some (entries.LocateDone q r)) ok = absurd cc
send_stands (Some (entries.Undecoded call fault)) ok = absurd cc
send_stands (Some (entries.OnewaySent q)) ok = absurd cc
send_stands (Some (entries.Cancelled came)) ok = absurd cc

cancel_stands : (entry : Option ClientEntry) → IsOk (client_step entry at_client.Cancel).outcome → StandsStill (client_step entry at_client.Cancel).entry
cancel_stands None ok = absurd cc
cancel_stands (Some (entries.Sending call left)) ok = record { one = entries.Cancelled late.None; is = refl; still = refl }
cancel_stands (Some (entries.Waiting call)) ok = record { one = entries.Cancelled late.None; is = refl; still = refl }
cancel_stands (Some (entries.Gathering call)) ok = record { one = entries.Cancelled late.Begun; is = refl; still = refl }
cancel_stands (Some (entries.Done q r)) ok = absurd cc
cancel_stands (Some (entries.LocateDone q r)) ok = absurd cc
cancel_stands (Some (entries.Undecoded call fault)) ok = absurd cc
cancel_stands (Some (entries.OnewaySent q)) ok = absurd cc
cancel_stands (Some (entries.Cancelled came)) ok = absurd cc

abbrev gathers_now : Option ClientEntry → Bool
gathers_now None = false
gathers_now (Some entry) = is_gathering entry

-- ---- one act

pub tried_so : (outcome : Result (Unit {0}) CallFault) (before after : Lane) → IsOk outcome → tried outcome before after ≡ Some after
tried_so (Ok done) before after ok = refl
tried_so (Err why) before after ok = absurd cc

-- the first of what is unsent, and the others, as the lane has them
pub first_seen : (unsent : List Msg) → map seen (listed (first_of unsent)) ≡ next (map seen unsent)
first_seen [] = refl
first_seen (m ∷ unsent) = refl

pub others_seen : (unsent : List Msg) → map seen (unsent_after Next unsent) ≡ later (map seen unsent)
others_seen [] = refl
others_seen (m ∷ unsent) = refl

pub others_are : (P : Msg → Type 0) (unsent : List Msg) → AllByRecursion P unsent → AllByRecursion P (unsent_after Next unsent)
others_are P [] are = tt
others_are P (m ∷ unsent) (is, are) = are

pub first_is : (P : Msg → Type 0) (unsent : List Msg) → AllByRecursion P unsent → AllByRecursion P (listed (first_of unsent))
first_is P [] are = tt
first_is P (m ∷ unsent) (is, are) = (is, tt)

module _ (interface : Interface) (id : ℕ) (h k : Held ClientRule ClientEntry) (out out' : List ℕ) (lane : Lane) (shows : ClientShows id (at h id) lane) where
  abbrev slot_before : List Msg
  slot_before = unsent_of (finite.get h.table id)

  -- what the end shows then
  shows_then : (planned : Planned ClientEvent) (after : Lane) → IsAccepted client_step id planned h out k out'
      → StandsStill (client_step lane.client.entry planned.event).entry → after.client.entry ≡ (client_step lane.client.entry planned.event).entry
      → map seen (unsent_after planned.plan slot_before) ≡ after.unsent
      → AllByRecursion (IsToServer id) (unsent_after planned.plan slot_before) → ClientShows id (at k id) after
  shows_then planned after is stands entered unsent each =
      let left = unsent_after planned.plan slot_before in
      let slot : finite.get k.table id ≡ Some (record { entry = stands.one; unsent = left }) =
      is.slot ∙ ap (λ entry. slot_of entry left) (ap (λ entry. (client_step entry planned.event).entry) shows.entry ∙ stands.is) in record {
        entry = ap entry_of slot ∙ sym stands.is ∙ sym entered;
        each = subst (AllByRecursion (IsToServer id)) (sym (ap unsent_of slot)) each;
        unsent = ap (map seen) (ap unsent_of slot) ∙ unsent;
        gathered = λ q gathers.
            let wrong : false ≡ true = sym stands.still ∙ ap gathers_now (sym stands.is ∙ sym entered ∙ gathers) in absurd cc;
      }

  -- what it accepts, the lane does
  accepts_too : (one : ClientEvent) → IsOk (client_step (entry_of (finite.get h.table id)) one).outcome → IsOk (client_step lane.client.entry one).outcome
  accepts_too one ok = subst (λ entry. IsOk (client_step entry one).outcome) shows.entry ok

  calls_cut : (call : Call) (cut : Cut) → id_of call ≡ id → PlansCall interface (entry_at h id) call (sends_cut (at_client.Call call) cut)
      → IsAccepted client_step id (sends_cut (at_client.Call call) cut) h out k out'
      → ClientActs interface id lane k (cut.first ∷ [])
  calls_cut call cut named plans is =
      let ok = accepts_too (at_client.Call call (count cut)) is.outcome in
      let step = client_step lane.client.entry (at_client.Call call (count cut)) in
      let sees = call_seen interface (entry_at h id) call cut plans in
      let each = subst (λ n. AllByRecursion (IsToServer n) (pieces_of cut)) named (call_for interface (entry_at h id) call cut plans) in
      let after : Lane = record lane {
        client = record lane.client { entry = step.entry; uses = lane.client.uses + 1 };
        to_server = lane.to_server ++ lanes.Opens (lanes.kind_of call) (lanes.version_of call) (is_last cut.rest) cut.first ∷ [];
        unsent = fragments cut.rest;
      } in record {
        act = lanes.Calls call cut;
        after = after;
        suits = own_suits interface lane (lanes.Calls call cut)
            (subst (λ entry. PlansCall interface entry call (sends_cut (at_client.Call call) cut)) shows.entry plans);
        stepped = tried_so step.outcome lane after ok;
        shows = shows_then (sends_cut (at_client.Call call) cut) after is (call_stands lane.client.entry call (count cut) ok) refl (ap later sees) each.1;
        server = refl;
        unanswered = refl;
        to_client = refl;
        to_server = ap (λ l. lane.to_server ++ l) (sym (ap next sees));
        each = (each.0, tt);
      }

  pub calls : (call : Call) (planned : Planned ClientEvent) → id_of call ≡ id → PlansCall interface (entry_at h id) call planned
      → IsAccepted client_step id planned h out k out' → ClientActs interface id lane k (listed (message_of planned.plan slot_before))
  calls call planned named plans is =
      let found = call_read interface (entry_at h id) call planned plans in
      subst (λ one. ClientActs interface id lane k (listed (message_of one.plan slot_before))) (sym found.1)
      (calls_cut call found.0 named (subst (PlansCall interface (entry_at h id) call) found.1 plans)
      (subst (λ one. IsAccepted client_step id one h out k out') found.1 is))

  pub sends : (planned : Planned ClientEvent) → planned ≡ record { event = at_client.Send; plan = Next }
      → IsAccepted client_step id planned h out k out' → ClientActs interface id lane k (listed (message_of planned.plan slot_before))
  sends planned plans is =
      let one : Planned ClientEvent = record { event = at_client.Send; plan = Next } in
      let accepted = subst (λ one. IsAccepted client_step id one h out k out') plans is in
      let ok = accepts_too at_client.Send accepted.outcome in
      let step = client_step lane.client.entry at_client.Send in
      let after : Lane = record lane {
        client = record lane.client { entry = step.entry };
        to_server = lane.to_server ++ next lane.unsent;
        unsent = later lane.unsent;
      } in
      subst (λ one. ClientActs interface id lane k (listed (message_of one.plan slot_before))) (sym plans) (record {
        act = lanes.Sends;
        after = after;
        suits = tt;
        stepped = tried_so step.outcome lane after ok;
        shows = shows_then one after accepted (send_stands lane.client.entry ok) refl (others_seen slot_before ∙ ap later shows.unsent)
            (others_are (IsToServer id) slot_before shows.each);
        server = refl;
        unanswered = refl;
        to_client = refl;
        to_server = ap (λ l. lane.to_server ++ l) (sym (first_seen slot_before ∙ ap next shows.unsent));
        each = first_is (IsToServer id) slot_before shows.each;
      })

  cancels_in : (order : Order) (version : Version) → id < 2 ^ 32
      → IsAccepted client_step id (sends_one at_client.Cancel (cancel_request version order id)) h out k out'
      → ClientActs interface id lane k (cancel_request version order id ∷ [])
  cancels_in order version small is =
      let ok = accepts_too at_client.Cancel is.outcome in
      let step = client_step lane.client.entry at_client.Cancel in
      let after : Lane = record lane {
        client = record lane.client { entry = step.entry };
        to_server = lane.to_server ++ Stops ∷ [];
        unsent = [];
      } in record {
        act = lanes.Cancels;
        after = after;
        suits = tt;
        stepped = tried_so step.outcome lane after ok;
        shows = shows_then (sends_one at_client.Cancel (cancel_request version order id)) after is (cancel_stands lane.client.entry ok) refl refl tt;
        server = refl;
        unanswered = refl;
        to_client = refl;
        to_server = refl;
        each = (cancel_for id order version (cancel_request version order id) (small, refl), tt);
      }

  pub cancels : (order : Order) (version : Option Version) (planned : Planned ClientEvent) → IsCancel id order version planned
      → IsAccepted client_step id planned h out k out' → ClientActs interface id lane k (listed (message_of planned.plan slot_before))
  cancels order None planned plans is = absurd plans
  cancels order (Some version) planned (small, plans) is =
      subst (λ one. ClientActs interface id lane k (listed (message_of one.plan slot_before))) (sym plans)
      (cancels_in order version small (subst (λ one. IsAccepted client_step id one h out k out') plans is))

-- ---- in a world

module _ (interface : Interface) (client_limits server_limits : Limits) where
  abbrev Tracked : WorldState → Type 0
  Tracked = Tracks interface client_limits server_limits

  pub client_calls : (w v : WorldState) (q : Request) (form : CheckedForm) (told : Returned) → Tracked w
      → AtClient interface client_limits server_limits w (given.Call q form) told v → Tracked v
  client_calls w v q form told tracks (answered, is, tells, same) =
      let id = q.head.id in
      let entry = entry_at w.client.calls id in
      client_puts_on interface client_limits server_limits w v
      id (call_fault interface client_limits entry q form.form) (IsCall interface q form.form) answered tracks is same
      (λ acted. calls interface id w.client.calls v.client.calls w.client.outgoing v.client.outgoing (tracks.shows id).lane (tracks.shows id).client
      (asked.Request q) acted.planned refl
      (record { limits = client_limits; form = form.form; is_form = form.sound; unrefused = acted.unrefused; plans = acted.plans })
      acted.is)

  pub client_locates : (w v : WorldState) (q : AnyLocateRequest) (form : CheckedForm) (told : Returned)
      → Tracked w → AtClient interface client_limits server_limits w (given.Locate q form) told v → Tracked v
  client_locates w v q form told tracks (answered, is, tells, same) =
      let id = q.id in
      let entry = entry_at w.client.calls id in
      client_puts_on interface client_limits server_limits w v
      id (locate_fault client_limits entry q form.form) (IsLocate q form.form) answered tracks is same
      (λ acted. calls interface id w.client.calls v.client.calls w.client.outgoing v.client.outgoing (tracks.shows id).lane (tracks.shows id).client
      (asked.Locate q) acted.planned refl
      (record { limits = client_limits; form = form.form; is_form = form.sound; unrefused = acted.unrefused; plans = acted.plans })
      acted.is)

  pub client_cancels : (w v : WorldState) (id : ℕ) (order : Order) (told : Returned) → Tracked w
      → AtClient interface client_limits server_limits w (given.Cancel id order) told v → Tracked v
  client_cancels w v id order told tracks (answered, is, tells, same) =
      let version = open_version (entry_at w.client.calls id) in
      client_puts_on interface client_limits server_limits w v
      id (cancel_fault version) (IsCancel id order version) answered tracks is same
      (λ acted. cancels interface id w.client.calls v.client.calls w.client.outgoing v.client.outgoing (tracks.shows id).lane (tracks.shows id).client
      order version acted.planned acted.plans acted.is)

  pub client_sends : (w v : WorldState) (id : ℕ) (told : Returned) → Tracked w
      → AtClient interface client_limits server_limits w (given.Send id) told v → Tracked v
  client_sends w v id told tracks (answered, is, tells, same) =
      client_puts_on interface client_limits server_limits w v
      id None (λ planned. planned ≡ record { event = at_client.Send; plan = Next }) answered tracks is same
      (λ acted. sends interface id w.client.calls v.client.calls w.client.outgoing v.client.outgoing (tracks.shows id).lane (tracks.shows id).client
      acted.planned acted.plans acted.is)
