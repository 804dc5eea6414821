-- An act of an end's own changes nothing, or is an act of the lane of its id; and so a world stays tracked.
use Rattle.std.proofs.Common.{◌≡◌, ◌≢◌, ℕ, Bool, List, [], ◌∷◌, ◌++◌, map, Option, Some, None, Result, Ok, Err, refl, sym, ap, subst, ◌∙◌, ◌⊎◌, inl, inr, append-nil}
use Rattle.std.proofs.lemmas.List.{map-append}
use Rattle.std.specs.FinMap as finite
use Rattle.std.specs.List.{AllByRecursion, flat_map}
use Rattle.giop_ids.specs.Runs.{Does}
use Rattle.giop_types.specs.declared.interfaces.interface.Interface.{Interface}
use Rattle.giop_msg.specs.Msg.{message_octets}
use Rattle.giop_msg.specs.declared.msg.Msg.{Msg}
use Rattle.giop_mux.specs.declared.step.Step.{Step}
use Rattle.giop_calls.specs.Lane.{Act, Lane, Suits, step}
use Rattle.giop_calls.specs.ClientTable as client_table
use Rattle.giop_calls.specs.ServerTable as server_table
use Rattle.giop_calls.specs.declared.client.entry.ClientEntry.{ClientEntry}
use Rattle.giop_calls.specs.declared.client.event.ClientEvent.{ClientEvent}
use Rattle.giop_calls.specs.declared.client.rule.ClientRule.{ClientRule}
use Rattle.giop_calls.specs.declared.fault.CallFault.{CallFault}
use Rattle.giop_calls.specs.declared.server.entry.ServerEntry.{ServerEntry}
use Rattle.giop_calls.specs.declared.server.event.ServerEvent.{ServerEvent}
use Rattle.giop_calls.specs.declared.server.rule.ServerRule.{ServerRule}
use Rattle.giop_session.specs.declared.laws.inputs.Answered.{Answered}
use Rattle.giop_session.specs.declared.laws.inputs.Answered.TheVariants as answer
use Rattle.giop_end.specs.declared.limits.Limits.{Limits}
use Rattle.giop_table.specs.declared.plan.Planned.{Planned}
use Rattle.giop_end.specs.declared.session_fault.SessionFault.{SessionFault}
use Rattle.giop_table.specs.declared.table_fault.TableFault.{TableFault}
use Rattle.giop_session.specs.Acts.Acting.{IsAccepted}
use Rattle.giop_session.specs.Runs.Alone.{own_messages}
use Rattle.giop_table.specs.CallTable.{Call, Held, Hears, Nothing, at, event_reply, rules_of, turn}
use Rattle.giop_table.specs.Sending.{Sends, message_of, unsent_of}
use Rattle.giop_end.specs.Hearing.ClientHears.{client_breaks, client_side}
use Rattle.giop_end.specs.Hearing.Heard.{SideOf, in_call, rules_at}
use Rattle.giop_session.specs.Runs.Driven.{IsDoneBy, IsGiven, IsGivenBy, PutsOut}
use Rattle.giop_end.specs.Ends.Begun.{EndState}
use Rattle.giop_session.specs.Worlds.Coding.{coding}
use Rattle.giop_session.specs.Worlds.LaneAtEnds.{seen}
use Rattle.giop_session.specs.Worlds.OnTheWay.{Names}
use Rattle.giop_end.specs.Acts.Putting.{Puts, octets_of}
use Rattle.giop_end.specs.Hearing.ServerHears.{server_breaks, server_side}
use Rattle.giop_session.specs.Worlds.Tracks.{ClientShows, IsToClient, IsToServer, ServerShows, Shows}
use Rattle.giop_session.specs.Worlds.World.{WorldState}
use Rattle.giop_ids.specs.Runs.{left}
use Rattle.giop_session.proofs.OnActs.ActingLemmas.{accepted, refused}
use Rattle.giop_session.proofs.OnLanes.NextHeard.{IsBeside}
use Rattle.giop_session.proofs.OnWorlds.OwnMessages.{own_left, own_sent}
use Rattle.giop_session.proofs.OnWorlds.WorldTracks.{IsAnswered, IsAsked, Tracks, all_named, at_each, put_beside, reached_beside, reached_more, runs_more, same_beside}

-- ---- what an act of an end's own comes to

-- the message that is sent, if one is
abbrev pub listed : Option Msg → List Msg
listed None = []
listed (Some m) = m ∷ []

pub octets_listed : (sent : Option Msg) → octets_of sent ≡ flat_map message_octets (listed sent)
octets_listed None = refl
octets_listed (Some m) = sym (append-nil (message_octets m))

module _ {R E V A F : Type 0} (next : Option E → V → Step E A F) (closed gathering : E → Bool) (of_rule : ℕ → F → SessionFault) where
  -- it is accepted, as planned, and no other id changes
  pub record Acted (id : ℕ) (refusal : Option F) (Plans : Planned V → Type 0) (h : Held R E) (out : List ℕ) (k : Held R E) (out' : List ℕ)
      : Type 0 where
    pub planned : Planned V
    pub unrefused : refusal ≡ None
    pub plans : Plans planned
    pub is : IsAccepted next id planned h out k out'
    pub beside : IsBeside id h k

  beside : (id : ℕ) (planned : Planned V) (h k : Held R E) (answered : Result (Sends A) (TableFault F))
      → Does (rules_of next closed gathering) h (record { id = id; what = Hears planned Nothing }) (event_reply answered) k → IsBeside id h k
  beside id planned h k (Ok sends) does =
      subst (IsBeside id h) (sym does.leaves) (put_beside id h (left (at h id) (turn next closed gathering (at h id) (Hears planned Nothing))))
  beside id planned h k (Err why) does = subst (IsBeside id h) (sym does.leaves) (same_beside id h)

  pub comes_to : (id : ℕ) (refusal : Option F) (Plans : Planned V → Type 0) (h k : Held R E) (out out' : List ℕ)
      (result : Result (Unit {0}) SessionFault) → Puts (rules_of next closed gathering) of_rule id refusal Plans h out result k out'
      → ((k ≡ h) × (out' ≡ out)) ⊎ Acted id refusal Plans h out k out'
  comes_to id refusal Plans h k out out' result (inl (wanting, calls, is)) = inl (calls, is)
  comes_to id (Some why) Plans h k out out' result (inr (told, calls, is)) = inl (calls, is)
  comes_to id None Plans h k out out' (Err why) (inr (planned, plans, on_call)) =
      inl (refused next closed gathering of_rule id planned h out why k out' on_call)
  comes_to id None Plans h k out out' (Ok done) (inr (planned, plans, on_call)) = inr (record {
    planned = planned;
    unrefused = refl;
    plans = plans;
    is = accepted next closed gathering of_rule id planned h out k out' on_call;
    beside = beside id planned h k on_call.answered on_call.does;
  })

-- what an end's program does leaves it as it was, or is an act that is accepted; so whatever holds of it as it was, and behind such an act, holds
-- of what it leaves
module _ {R E V A F : Type 0} (side : SideOf R E V A F) where
  pub act_given : (P : EndState (Held R E) → Type 0) (id : ℕ) (refusal : Option F) (Plans : Planned V → Type 0) (s t : EndState (Held R E))
      (answered : Answered E) → IsGiven side (PutsOut id refusal Plans) s answered t → P s
      → (s.fault ≡ None → (acted : Acted (side.next s.calls.rule) (side.closed s.calls.rule) side.gathering side.of_rule id refusal Plans
      s.calls s.outgoing t.calls t.outgoing) → P (record s {
        calls = t.calls;
        outgoing = s.outgoing ++ flat_map message_octets (listed (message_of acted.planned.plan (unsent_of (finite.get s.calls.table id))));
      })) → P t
  act_given P id refusal Plans s t answered (memory, given) before acts = by_fault s.fault refl given
    where
      by_what : s.fault ≡ None → t ≡ record s { calls = t.calls; outgoing = t.outgoing }
          → ((t.calls ≡ s.calls) × (t.outgoing ≡ s.outgoing))
          ⊎ Acted (side.next s.calls.rule) (side.closed s.calls.rule) side.gathering side.of_rule id refusal Plans s.calls s.outgoing t.calls t.outgoing
          → P t
      by_what sound rest (inl (calls, outgoing)) =
          subst P (sym (rest ∙ (λ i. record s { calls = calls i; outgoing = outgoing i }))) before
      by_what sound rest (inr acted) =
          let message = message_of acted.planned.plan (unsent_of (finite.get s.calls.table id)) in
          subst P (ap (λ octets. record s { calls = t.calls; outgoing = octets })
          (ap (λ l. s.outgoing ++ l) (sym (octets_listed message)) ∙ sym acted.is.puts) ∙ sym rest) (acts sound acted)

      by_result : (result : Result (Unit {0}) SessionFault) → s.fault ≡ None
          → Puts (rules_at side s.calls.rule) side.of_rule id refusal Plans s.calls s.outgoing result t.calls t.outgoing
          → t ≡ record s { calls = t.calls; outgoing = t.outgoing } → P t
      by_result result sound puts rest = by_what sound rest
          (comes_to (side.next s.calls.rule) (side.closed s.calls.rule) side.gathering side.of_rule id refusal Plans s.calls t.calls s.outgoing t.outgoing
          result puts)

      by_answer : (one : Answered E) → s.fault ≡ None → IsDoneBy side (PutsOut id refusal Plans) s one t → P t
      by_answer answer.Done sound (puts, rest) = by_result (Ok tt) sound puts rest
      by_answer (answer.Refused why) sound (puts, rest) = by_result (Err why) sound puts rest
      by_answer (answer.Taken entry) sound done = absurd done

      by_fault : (fault : Option SessionFault) → s.fault ≡ fault → IsGivenBy side fault (PutsOut id refusal Plans) s answered t → P t
      by_fault (Some why) failed (refused, stays) = subst P (sym stays) before
      by_fault None sound done = by_answer answered sound done

-- ---- what an end shows of a lane, it shows of one that is the same there

pub client_shows_as : (id : ℕ) (call : Call ClientEntry) (lane after : Lane) → after.client ≡ lane.client → after.unsent ≡ lane.unsent
    → ClientShows id call lane → ClientShows id call after
client_shows_as id call lane after same unsent shows = record {
  entry = shows.entry ∙ ap (λ s. s.entry) (sym same);
  each = shows.each;
  unsent = shows.unsent ∙ sym unsent;
  gathered = λ q is. let found = shows.gathered q (ap (λ s. s.entry) (sym same) ∙ is) in
      (found.0, ap (λ s. s.pieces) same ∙ found.1, found.2);
}

pub server_shows_as : (id : ℕ) (call : Call ServerEntry) (lane after : Lane) → after.server ≡ lane.server → after.unanswered ≡ lane.unanswered
    → ServerShows id call lane → ServerShows id call after
server_shows_as id call lane after same unsent shows = record {
  entry = shows.entry ∙ ap (λ s. s.entry) (sym same);
  each = shows.each;
  unsent = shows.unsent ∙ sym unsent;
  gathered = λ k is. let found = shows.gathered k (ap (λ s. s.entry) (sym same) ∙ is) in
      (found.0, found.1, ap (λ s. s.pieces) same ∙ found.2, found.3);
}

-- ---- the client's

-- the lane of an id takes an act that leaves these calls at the client, and sends these messages
pub record ClientActs (interface : Interface) (id : ℕ) (lane : Lane) (k : Held ClientRule ClientEntry) (sent : List Msg) : Type 0 where
  pub act : Act
  pub after : Lane
  pub suits : Suits (coding interface) lane act
  pub stepped : step (coding interface) lane act ≡ Some after
  pub shows : ClientShows id (at k id) after
  pub server : after.server ≡ lane.server
  pub unanswered : after.unanswered ≡ lane.unanswered
  pub to_client : after.to_client ≡ lane.to_client
  pub to_server : after.to_server ≡ lane.to_server ++ map seen sent
  pub each : AllByRecursion (IsToServer id) sent

-- the world then
abbrev pub client_after : WorldState → Held ClientRule ClientEntry → List Msg → WorldState
client_after w k sent =
    record w { client = record w.client { calls = k; outgoing = w.client.outgoing ++ flat_map message_octets sent } }

module _ (interface : Interface) (client_limits server_limits : Limits) where
  client_goes_on : (w : WorldState) (id : ℕ) (k : Held ClientRule ClientEntry) (sent : List Msg) → w.client.fault ≡ None
      → (tracks : Tracks interface client_limits server_limits w) → ClientActs interface id (tracks.shows id).lane k sent
      → IsBeside id w.client.calls k → Tracks interface client_limits server_limits (client_after w k sent)
  client_goes_on w id k sent sound tracks acts beside = record {
    asked = tracks.asked ++ sent;
    answered = tracks.answered;
    shows = at_each (λ n. Shows interface n (at k n) (at w.server.calls n) (tracks.asked ++ sent) tracks.answered) id here there;
    server = reached_more server_limits server_breaks id tracks.asked sent w.client.outgoing w.server.unread w.server.calls w.server.fault
        tracks.server acts.each;
    client = reached_beside client_limits IsAnswered id tracks.answered w.server.outgoing w.client.unread w.client.calls k w.client.fault sound beside
        tracks.client;
  }
    where
      named : AllByRecursion (Names id) sent
      named = all_named server_breaks id sent acts.each

      here : Shows interface id (at k id) (at w.server.calls id) (tracks.asked ++ sent) tracks.answered
      here = let s = tracks.shows id in record {
        acts = s.acts ++ acts.act ∷ [];
        lane = acts.after;
        runs = runs_more (coding interface) _ s.lane acts.after s.acts acts.act s.runs acts.suits acts.stepped;
        client = acts.shows;
        server = server_shows_as id (at w.server.calls id) s.lane acts.after acts.server acts.unanswered s.server;
        to_server = acts.to_server
            ∙ ap (λ l. l ++ map seen sent) s.to_server
            ∙ sym (map-append seen (own_messages id tracks.asked) sent)
            ∙ ap (map seen) (sym (own_sent id tracks.asked sent named));
        to_client = acts.to_client ∙ s.to_client;
      }

      there : (other : ℕ) → other ≢ id → Shows interface other (at k other) (at w.server.calls other) (tracks.asked ++ sent) tracks.answered
      there other differs = let s = tracks.shows other in record {
        acts = s.acts;
        lane = s.lane;
        runs = s.runs;
        client = subst (λ call. ClientShows other call s.lane) (sym (beside.others other differs)) s.client;
        server = s.server;
        to_server = s.to_server ∙ ap (map seen) (sym (own_left id other tracks.asked sent named differs));
        to_client = s.to_client;
      }

  -- an act of the client's own that the lane of its id takes leaves a world tracked
  pub client_puts_on : (w v : WorldState) (id : ℕ) (refusal : Option CallFault) (Plans : Planned ClientEvent → Type 0) (answered : Answered ClientEntry)
      (tracks : Tracks interface client_limits server_limits w) → IsGiven (client_side interface) (PutsOut id refusal Plans) w.client answered v.client
      → v.server ≡ w.server
      → ((acted : Acted client_table.client_step client_table.is_closed client_table.is_gathering in_call id refusal Plans
      w.client.calls w.client.outgoing v.client.calls v.client.outgoing)
      → ClientActs interface id (tracks.shows id).lane v.client.calls
      (listed (message_of acted.planned.plan (unsent_of (finite.get w.client.calls.table id)))))
      → Tracks interface client_limits server_limits v
  client_puts_on w v id refusal Plans answered tracks given same acts =
      act_given (client_side interface) (λ e. Tracks interface client_limits server_limits (record { client = e; server = v.server }))
      id refusal Plans w.client v.client answered given
      (subst (λ e. Tracks interface client_limits server_limits (record { client = w.client; server = e })) (sym same) tracks)
      (λ sound acted.
      let sent = listed (message_of acted.planned.plan (unsent_of (finite.get w.client.calls.table id))) in
      subst (λ e. Tracks interface client_limits server_limits (record { client = (client_after w v.client.calls sent).client; server = e })) (sym same)
      (client_goes_on w id v.client.calls sent sound tracks (acts acted) acted.beside))

-- ---- and the server's

pub record ServerActs (interface : Interface) (id : ℕ) (lane : Lane) (k : Held ServerRule ServerEntry) (sent : List Msg) : Type 0 where
  pub act : Act
  pub after : Lane
  pub suits : Suits (coding interface) lane act
  pub stepped : step (coding interface) lane act ≡ Some after
  pub shows : ServerShows id (at k id) after
  pub client : after.client ≡ lane.client
  pub unsent : after.unsent ≡ lane.unsent
  pub to_server : after.to_server ≡ lane.to_server
  pub to_client : after.to_client ≡ lane.to_client ++ map seen sent
  pub each : AllByRecursion (IsToClient id) sent

abbrev pub server_after : WorldState → Held ServerRule ServerEntry → List Msg → WorldState
server_after w k sent =
    record w { server = record w.server { calls = k; outgoing = w.server.outgoing ++ flat_map message_octets sent } }

module _ (interface : Interface) (client_limits server_limits : Limits) where
  server_goes_on : (w : WorldState) (id : ℕ) (k : Held ServerRule ServerEntry) (sent : List Msg) → w.server.fault ≡ None
      → (tracks : Tracks interface client_limits server_limits w) → ServerActs interface id (tracks.shows id).lane k sent
      → IsBeside id w.server.calls k → Tracks interface client_limits server_limits (server_after w k sent)
  server_goes_on w id k sent sound tracks acts beside = record {
    asked = tracks.asked;
    answered = tracks.answered ++ sent;
    shows = at_each (λ n. Shows interface n (at w.client.calls n) (at k n) tracks.asked (tracks.answered ++ sent)) id here there;
    server = reached_beside server_limits IsAsked id tracks.asked w.client.outgoing w.server.unread w.server.calls k w.server.fault sound beside
        tracks.server;
    client = reached_more client_limits client_breaks id tracks.answered sent w.server.outgoing w.client.unread w.client.calls w.client.fault
        tracks.client acts.each;
  }
    where
      named : AllByRecursion (Names id) sent
      named = all_named client_breaks id sent acts.each

      here : Shows interface id (at w.client.calls id) (at k id) tracks.asked (tracks.answered ++ sent)
      here = let s = tracks.shows id in record {
        acts = s.acts ++ acts.act ∷ [];
        lane = acts.after;
        runs = runs_more (coding interface) _ s.lane acts.after s.acts acts.act s.runs acts.suits acts.stepped;
        client = client_shows_as id (at w.client.calls id) s.lane acts.after acts.client acts.unsent s.client;
        server = acts.shows;
        to_server = acts.to_server ∙ s.to_server;
        to_client = acts.to_client
            ∙ ap (λ l. l ++ map seen sent) s.to_client
            ∙ sym (map-append seen (own_messages id tracks.answered) sent)
            ∙ ap (map seen) (sym (own_sent id tracks.answered sent named));
      }

      there : (other : ℕ) → other ≢ id → Shows interface other (at w.client.calls other) (at k other) tracks.asked (tracks.answered ++ sent)
      there other differs = let s = tracks.shows other in record {
        acts = s.acts;
        lane = s.lane;
        runs = s.runs;
        client = s.client;
        server = subst (λ call. ServerShows other call s.lane) (sym (beside.others other differs)) s.server;
        to_server = s.to_server;
        to_client = s.to_client ∙ ap (map seen) (sym (own_left id other tracks.answered sent named differs));
      }

  -- an act of the server's own that the lane of its id takes leaves a world tracked
  pub server_puts_on : (w v : WorldState) (id : ℕ) (refusal : Option CallFault) (Plans : Planned ServerEvent → Type 0) (answered : Answered ServerEntry)
      (tracks : Tracks interface client_limits server_limits w) → IsGiven (server_side interface) (PutsOut id refusal Plans) w.server answered v.server
      → v.client ≡ w.client
      → ((acted : Acted server_table.server_step server_table.is_closed server_table.is_gathering in_call id refusal Plans
      w.server.calls w.server.outgoing v.server.calls v.server.outgoing)
      → ServerActs interface id (tracks.shows id).lane v.server.calls
      (listed (message_of acted.planned.plan (unsent_of (finite.get w.server.calls.table id)))))
      → Tracks interface client_limits server_limits v
  server_puts_on w v id refusal Plans answered tracks given same acts =
      act_given (server_side interface) (λ e. Tracks interface client_limits server_limits (record { client = v.client; server = e }))
      id refusal Plans w.server v.server answered given
      (subst (λ e. Tracks interface client_limits server_limits (record { client = e; server = w.server })) (sym same) tracks)
      (λ sound acted.
      let sent = listed (message_of acted.planned.plan (unsent_of (finite.get w.server.calls.table id))) in
      subst (λ e. Tracks interface client_limits server_limits (record { client = e; server = (server_after w v.server.calls sent).server })) (sym same)
      (server_goes_on w id v.server.calls sent sound tracks (acts acted) acted.beside))
