-- A world that began is tracked, each event keeps it so, and the ends of a tracked world agree and fail at their limits alone.
use Rattle.std.proofs.Common.{◌≡◌, ℕ, length, List, [], ◌∷◌, map, None, refl, sym, ap, subst, ◌∙◌, arith, length-append}
use Rattle.std.specs.FinMap as finite
use Rattle.std.specs.List.{AllByRecursion}
use Rattle.std.specs.Option.{option_map}
use Rattle.std.specs.Ordering.{nat_cmp}
use Rattle.giop_types.specs.declared.interfaces.interface.Interface.{Interface}
use Rattle.giop_msg.specs.Stream.{Unread, Waits}
use Rattle.giop_msg.specs.Msg.{message_octets}
use Rattle.giop_msg.specs.declared.msg.Msg.{Msg}
use Rattle.giop_msg.proofs.StreamLemmas.{length-message_octets}
use Rattle.giop_calls.specs.ClientTable as client_table
use Rattle.giop_calls.specs.Lane.{Agrees, Codec, IsRight, IsRightLocate, IsSound, Lane, new}
use Rattle.giop_calls.specs.ServerTable as server_table
use Rattle.giop_calls.specs.declared.client.entry.ClientEntry.{ClientEntry}
use Rattle.giop_calls.specs.declared.server.entry.ServerEntry.{ServerEntry}
use Rattle.giop_session.specs.declared.laws.inputs.WorldEvent.{WorldEvent}
use Rattle.giop_session.specs.declared.laws.inputs.WorldEvent.TheVariants as event
use Rattle.giop_end.specs.declared.limits.Limits.{Limits}
use Rattle.giop_session.specs.Worlds.Agreement.{Agreed, FailsByLimits}
use Rattle.giop_end.specs.Ends.Begun.{no_calls}
use Rattle.giop_table.specs.CallTable.{Call}
use Rattle.giop_session.specs.Worlds.Coding.{coding}
use Rattle.giop_session.specs.Runs.Driven.{InTurn}
use Rattle.giop_end.specs.Hearing.Feeding.{nothing_unread}
use Rattle.giop_session.specs.Worlds.LaneAtEnds.{seen}
use Rattle.giop_session.specs.Worlds.OnTheWay.{OnTheWay}
use Rattle.giop_table.specs.Sending.{entry_of, unsent_of}
use Rattle.giop_session.specs.Runs.Alone.{own_messages}
use Rattle.giop_session.specs.Worlds.Tracks.{ClientShows, IsToClient, IsToServer, ServerShows}
use Rattle.giop_session.specs.Worlds.World.{Happens, Returned, WorldRuns, WorldState, new_world}
use Rattle.giop_session.proofs.OnWorlds.Arriving.{at_client, at_server}
use Rattle.giop_session.proofs.OnWorlds.ClientActing.{client_calls, client_cancels, client_locates, client_sends}
use Rattle.giop_session.proofs.OnLanes.OnTheWayLemmas.{nothing_left}
use Rattle.giop_session.proofs.OnWorlds.ServerActing.{server_answers, server_locates, server_sends}
use Rattle.giop_session.proofs.OnWorlds.WorldTracks.{AreSound, IsAnswered, IsAsked, IsReached, Tracks}

-- ---- a new world

-- nothing waits for more
nothing_waits : (unread : Unread) → unread.octets ≡ [] → Waits unread
nothing_waits unread none = record {
  no_message = λ begins. let (m, more, is, octets) = begins in
      absurd (omega (arith, ap length (sym none ∙ octets), length-append (message_octets m) more, length-message_octets m));
  no_fault = λ e begins. absurd (omega (arith, ap length none, begins.0));
}

nothing_on_its_way : (limit : ℕ) → OnTheWay (record { limit = limit; octets = [] }) [] []
nothing_on_its_way limit = record {
  each = λ k d within. absurd (omega arith);
  octets = refl;
  waits = nothing_waits (record { limit = limit; octets = [] }) refl;
}

-- an id without a call shows a new lane
new_client : (id : ℕ) (call : Call ClientEntry) → call.slot ≡ None → ClientShows id call new
new_client id call none = record {
  entry = ap entry_of none;
  each = subst (λ slot. AllByRecursion (IsToServer id) (unsent_of slot)) (sym none) tt;
  unsent = ap (λ slot. map seen (unsent_of slot)) none;
  gathered = λ q is. absurd cc;
}

new_server : (id : ℕ) (call : Call ServerEntry) → call.slot ≡ None → ServerShows id call new
new_server id call none = record {
  entry = ap entry_of none;
  each = subst (λ slot. AllByRecursion (IsToClient id) (unsent_of slot)) (sym none) tt;
  unsent = ap (λ slot. map seen (unsent_of slot)) none;
  gathered = λ k is. absurd cc;
}

-- nothing is on its way to a new end
nothing_reaches : {R E : Type 0} (Is : Msg → Type 0) (rule : R) (limits : Limits)
    → IsReached {R = R} {E = E} limits Is [] [] (nothing_unread limits.message) (no_calls rule limits) None
nothing_reaches Is rule limits = record {
  are = tt;
  way = λ sound. nothing_on_its_way limits.message;
  within = record { message = refl; calls = refl; room = refl };
  met = λ why failed. absurd cc;
}

module _ (interface : Interface) (are_sound : AreSound interface) (client_limits server_limits : Limits) where
  abbrev Tracked : WorldState → Type 0
  Tracked = Tracks interface client_limits server_limits

  begins : Tracked (new_world client_limits server_limits)
  begins = record {
    asked = [];
    answered = [];
    shows = λ id. record {
      acts = [];
      lane = new;
      runs = refl;
      client = new_client id _ (finite.get-empty nat_cmp id);
      server = new_server id _ (finite.get-empty nat_cmp id);
      to_server = refl;
      to_client = refl;
    };
    server = nothing_reaches IsAsked (record {}) server_limits;
    client = nothing_reaches IsAnswered (record {}) client_limits;
  }

  -- ---- each event

  happens : (w v : WorldState) (happened : WorldEvent) (told : Returned) → Tracked w
      → Happens interface client_limits server_limits w happened told v → Tracked v
  happens w v (event.Call q form) told tracks is = client_calls interface client_limits server_limits w v q form told tracks is
  happens w v (event.Locate q form) told tracks is = client_locates interface client_limits server_limits w v q form told tracks is
  happens w v (event.Cancel id order) told tracks is = client_cancels interface client_limits server_limits w v id order told tracks is
  happens w v (event.SendClient id) told tracks is = client_sends interface client_limits server_limits w v id told tracks is
  happens w v (event.Answer r form) told tracks is =
      server_answers interface client_limits server_limits are_sound w v r form told tracks is
  happens w v (event.AnswerLocate id here order) told tracks is =
      server_locates interface client_limits server_limits are_sound w v id here order told tracks is
  happens w v (event.SendServer id) told tracks is = server_sends interface client_limits server_limits are_sound w v id told tracks is
  happens w v (event.ToServer n) told tracks is = at_server interface are_sound client_limits server_limits w v n told tracks is
  happens w v (event.ToClient n) told tracks is = at_client interface are_sound client_limits server_limits w v n told tracks is

  goes_on : (w v : WorldState) (schedule : List WorldEvent) (told : List Returned) → Tracked w
      → InTurn (Happens interface client_limits server_limits) w schedule told v → Tracked v
  goes_on w v [] [] tracks run = subst Tracked (sym run) tracks
  goes_on w v [] (one ∷ told) tracks run = absurd run
  goes_on w v (happened ∷ schedule) [] tracks run = absurd run
  goes_on w v (happened ∷ schedule) (one ∷ told) tracks (mid, is, rest) =
      goes_on mid v schedule told (happens w mid happened one tracks is) rest

  tracked : (w : WorldState) (schedule : List WorldEvent) (told : List Returned)
      → WorldRuns interface client_limits server_limits schedule told w → Tracked w
  tracked w schedule told run = goes_on (new_world client_limits server_limits) w schedule told begins run

  -- ---- what follows

  agrees : (codec : Codec) (lane : Lane) → IsSound codec lane → Agrees lane
  agrees codec lane (agreed, right, located, read, heard) = agreed

  is_right : (codec : Codec) (lane : Lane) → IsSound codec lane → IsRight lane
  is_right codec lane (agreed, right, located, read, heard) = right

  is_right_locate : (codec : Codec) (lane : Lane) → IsSound codec lane → IsRightLocate lane
  is_right_locate codec lane (agreed, right, located, read, heard) = located

  pub ends_agree : (w : WorldState) (schedule : List WorldEvent) (told : List Returned)
      → WorldRuns interface client_limits server_limits schedule told w
      → w.client.fault ≡ None → w.server.fault ≡ None → Agreed w
  ends_agree w schedule told run client_goes server_goes =
      let tracks = tracked w schedule told run in record {
        outcomes = λ none_out none_back id.
            let s = tracks.shows id in
            let no_asked = nothing_left w.server.unread tracks.asked (subst (OnTheWay w.server.unread tracks.asked) none_out (tracks.server.way server_goes)) in
            let no_answered = nothing_left w.client.unread tracks.answered
            (subst (OnTheWay w.client.unread tracks.answered) none_back (tracks.client.way client_goes)) in
            ap (option_map client_table.outcome) s.client.entry
            ∙ agrees (coding interface) s.lane (are_sound s.acts s.lane s.runs)
            (s.to_server ∙ ap (λ l. map seen (own_messages id l)) no_asked) (s.to_client ∙ ap (λ l. map seen (own_messages id l)) no_answered)
            ∙ ap (option_map server_table.outcome) (sym s.server.entry);
        replied = λ id q r done.
            let s = tracks.shows id in
            s.server.entry ∙ (is_right (coding interface) s.lane (are_sound s.acts s.lane s.runs) q r (sym s.client.entry ∙ done)).0;
        located = λ id q r done.
            let s = tracks.shows id in
            let (here, stands, status, none, uses) =
            is_right_locate (coding interface) s.lane (are_sound s.acts s.lane s.runs) q r (sym s.client.entry ∙ done) in
            (here, s.server.entry ∙ stands, status, none);
      }

  pub ends_fail_by_limits : (w : WorldState) (schedule : List WorldEvent) (told : List Returned)
      → WorldRuns interface client_limits server_limits schedule told w → FailsByLimits client_limits server_limits w
  ends_fail_by_limits w schedule told run =
      let tracks = tracked w schedule told run in record { client = tracks.client.met; server = tracks.server.met }
