-- Octets that arrive at an end of a world are acts of the lanes that their messages are on, and then a limit is met, if one is.
use Rattle.std.proofs.Common.{◌≡◌, ◌≢◌, ◌⊎◌, ℕ, List, [], ◌∷◌, ◌++◌, map, take, drop, Option, Some, None, Result, Ok, Err, refl, sym, ap, subst, inl, inr, ◌∙◌}
use Rattle.std.proofs.lemmas.List.{take-append-drop}
use Rattle.std.specs.Option.{option_map}
use Rattle.giop_types.specs.declared.interfaces.interface.Interface.{Interface}
use Rattle.giop_msg.specs.declared.msg.Msg.{Msg}
use Rattle.giop_calls.specs.Lane.{Codec, Lane, Message, Standing, ToClient, ToServer, later}
use Rattle.giop_calls.specs.Lane as lanes
use Rattle.giop_calls.specs.declared.client.entry.ClientEntry.{ClientEntry}
use Rattle.giop_calls.specs.declared.client.rule.ClientRule.{ClientRule}
use Rattle.giop_calls.specs.declared.server.entry.ServerEntry.{ServerEntry}
use Rattle.giop_calls.specs.declared.server.rule.ServerRule.{ServerRule}
use Rattle.giop_session.specs.declared.laws.inputs.Answered.{Answered}
use Rattle.giop_end.specs.declared.limits.Limits.{Limits}
use Rattle.giop_end.specs.declared.session_fault.SessionFault.{SessionFault}
use Rattle.giop_end.specs.declared.session_fault.SessionFault.TheVariants.{NoMemory}
use Rattle.giop_session.specs.Runs.Alone.{own_messages}
use Rattle.giop_table.specs.CallTable.{Held, at}
use Rattle.giop_end.specs.Hearing.ClientHears.{client_side}
use Rattle.giop_session.specs.Worlds.Coding.{coding}
use Rattle.giop_end.specs.Hearing.Feeding.{standing}
use Rattle.giop_end.specs.Hearing.Heard.{SideOf, hears}
use Rattle.giop_session.specs.Runs.Driven.{Feeds, IsGiven}
use Rattle.giop_end.specs.Ends.Begun.{EndState}
use Rattle.giop_session.specs.Worlds.LaneAtEnds.{seen}
use Rattle.giop_session.specs.Worlds.OnTheWay.{IsFramed}
use Rattle.giop_end.specs.Hearing.ServerHears.{server_side}
use Rattle.giop_session.specs.Worlds.Tracks.{ClientShows, ServerShows, Shows}
use Rattle.giop_session.specs.Worlds.World.{ArriveAtClient, ArriveAtServer, Returned, WorldState}
use Rattle.giop_session.proofs.OnWorlds.Acted.{client_shows_as, server_shows_as}
use Rattle.giop_session.proofs.OnLanes.ClientHearsNext.{client_hears_next}
use Rattle.giop_session.proofs.OnWorlds.Feeds.{GoesBy, fed}
use Rattle.giop_session.proofs.OnLanes.NextHeard.{ClientHearsIt, IsFull, ServerHearsIt}
use Rattle.giop_session.proofs.OnWorlds.OwnMessages.{own_first, own_passed}
use Rattle.giop_session.proofs.OnRuns.SeenLemmas.{IsFedSo, fed_or_failed}
use Rattle.giop_session.proofs.OnLanes.ServerHearsNext.{server_hears_next}
use Rattle.giop_session.proofs.OnWorlds.WorldTracks.{AreSound, IsAnswered, IsAsked, IsReached, Tracks, at_each, runs_more}

same_lane : (one other : Lane) → Some one ≡ Some other → one ≡ other
same_lane one other is = cc

-- ---- what a lane has once its next message arrived

-- at the server: all but what stands there
record AtServer (lane after : Lane) (rest : List Message) : Type 0 where
  to_server : after.to_server ≡ rest
  client : after.client ≡ lane.client
  unsent : after.unsent ≡ lane.unsent
  to_client : after.to_client ≡ lane.to_client

came_to_server : (codec : Codec) (lane after : Lane) (all : List Message) (m : Message) (rest : List Message) → all ≡ m ∷ rest
    → lanes.to_server codec lane all ≡ Some after → AtServer lane after rest
came_to_server codec lane after [] m rest is stepped = absurd cc
came_to_server codec lane after (n ∷ others) m rest is stepped = by_served (lanes.served codec lane.server n) stepped
  where
    by_served : (found : Option (Standing ServerEntry)) → option_map (λ s. record lane { server = s; to_server = others }) found ≡ Some after
        → AtServer lane after rest
    by_served None none = absurd cc
    by_served (Some s) some =
        let same = same_lane (record lane { server = s; to_server = others }) after some in record {
          to_server = ap (λ one. one.to_server) (sym same) ∙ ap later is;
          client = ap (λ one. one.client) (sym same);
          unsent = ap (λ one. one.unsent) (sym same);
          to_client = ap (λ one. one.to_client) (sym same);
        }

-- and at the client
record AtClient (lane after : Lane) (rest : List Message) : Type 0 where
  to_client : after.to_client ≡ rest
  server : after.server ≡ lane.server
  unanswered : after.unanswered ≡ lane.unanswered
  to_server : after.to_server ≡ lane.to_server

came_to_client : (codec : Codec) (lane after : Lane) (all : List Message) (m : Message) (rest : List Message) → all ≡ m ∷ rest
    → lanes.to_client codec lane all ≡ Some after → AtClient lane after rest
came_to_client codec lane after [] m rest is stepped = absurd cc
came_to_client codec lane after (n ∷ others) m rest is stepped =
    by_heard (lanes.hears codec lane.client n (lanes.client_event codec lane.client n)) stepped
  where
    by_heard : (found : Option (Standing ClientEntry)) → option_map (λ c. record lane { client = c; to_client = others }) found ≡ Some after
        → AtClient lane after rest
    by_heard None none = absurd cc
    by_heard (Some c) some =
        let same = same_lane (record lane { client = c; to_client = others }) after some in record {
          to_client = ap (λ one. one.to_client) (sym same) ∙ ap later is;
          server = ap (λ one. one.server) (sym same);
          unanswered = ap (λ one. one.unanswered) (sym same);
          to_server = ap (λ one. one.to_server) (sym same);
        }

-- ---- octets arrive at an end, the first of those that are outgoing at the other

module _ {R E V A F : Type 0} (side : SideOf R E V A F) (Is : Msg → Type 0) (Knows : Held R E → List Msg → Type 0)
    (framed : (m : Msg) → Is m → IsFramed m)
    (hears_one : (h k : Held R E) (m : Msg) (rest : List Msg) → Is m → Knows h (m ∷ rest) → hears side m h (Ok tt) k → GoesBy Knows h k rest)
    (refuses_one : (h : Held R E) (m : Msg) (rest : List Msg) (fault : SessionFault) → Is m → Knows h (m ∷ rest) → fault ≢ NoMemory
    → hears side m h (Err fault) h → IsFull m h fault) where
  -- what is on its way to it then, behind which these octets are outgoing
  record Reaches (limits : Limits) (behind : List ℕ) (t : EndState (Held R E)) : Type 0 where
    rest : List Msg
    knows : Knows t.calls rest
    reached : IsReached limits Is rest behind t.unread t.calls t.fault

  -- an end that failed stays, and any other is fed
  arrive : (limits : Limits) (s t : EndState (Held R E)) (n : ℕ) (messages : List Msg) (outgoing : List ℕ) (answered : Answered E)
      → IsGiven side (Feeds (take n outgoing)) s answered t → Knows s.calls messages
      → IsReached limits Is messages outgoing s.unread s.calls s.fault → Reaches limits (drop n outgoing) t × (t.outgoing ≡ s.outgoing)
  arrive limits s t n messages outgoing answered given knows reached = by_case (fed_or_failed side s t (take n outgoing) answered given)
    where
      by_case : ((why : SessionFault) × (s.fault ≡ Some why) × (t ≡ s)) ⊎ IsFedSo side s (take n outgoing) t
          → Reaches limits (drop n outgoing) t × (t.outgoing ≡ s.outgoing)
      by_case (inl (why, failed, stays)) =
          let lost : Reaches limits (drop n outgoing) s = record {
            rest = messages;
            knows = knows;
            reached = record {
              are = reached.are;
              way = λ sound. let wrong : None ≡ Some why = sym sound ∙ failed in absurd cc;
              within = reached.within;
              met = reached.met;
            };
          } in
          subst (λ e. Reaches limits (drop n outgoing) e × (e.outgoing ≡ s.outgoing)) (sym stays) (lost, refl)
      by_case (inr so) =
          let a = fed (hears side) Is Knows framed hears_one refuses_one limits so.result t.unread t.calls (drop n outgoing) s.unread messages s.calls
          (take n outgoing) outgoing reached.are knows reached.within (reached.way so.sound) (sym (take-append-drop n outgoing)) so.wanting so.fed in
          let now : Reaches limits (drop n outgoing) (record s { unread = t.unread; calls = t.calls; fault = standing so.result }) = record {
            rest = a.rest;
            knows = a.knows;
            reached = record { are = a.are; way = a.way; within = a.within; met = a.met };
          } in
          subst (λ e. Reaches limits (drop n outgoing) e × (e.outgoing ≡ s.outgoing)) (sym so.rest) (now, refl)

asked_framed : (m : Msg) → IsAsked m → IsFramed m
asked_framed m (id, is) = is.framed

answered_framed : (m : Msg) → IsAnswered m → IsFramed m
answered_framed m (id, is) = is.framed

module _ (interface : Interface) (are_sound : AreSound interface) where
  -- ---- one message at a server

  -- what both ends have, with these on their way
  abbrev ServerKnows : Held ClientRule ClientEntry → List Msg → Held ServerRule ServerEntry → List Msg → Type 0
  ServerKnows c answered h asked = (id : ℕ) → Shows interface id (at c id) (at h id) asked answered

  server_hears : (c : Held ClientRule ClientEntry) (answered : List Msg) (h k : Held ServerRule ServerEntry) (m : Msg) (rest : List Msg) → IsAsked m
      → ServerKnows c answered h (m ∷ rest) → ServerHearsIt interface m h (Ok tt) k → GoesBy (ServerKnows c answered) h k rest
  server_hears c answered h k m rest (id, is) knows hears =
      let s = knows id in
      let comes : s.lane.to_server ≡ seen m ∷ map seen (own_messages id rest) = s.to_server ∙ ap (map seen) (own_first id m rest is.names) in
      let went = server_hears_next interface s.lane id m (map seen (own_messages id rest)) h k (Ok tt) (are_sound s.acts s.lane s.runs) comes s.server is
      (λ wrong. absurd cc) hears in
      let then_so = came_to_server (coding interface) s.lane went.after s.lane.to_server (seen m) (map seen (own_messages id rest)) comes went.stepped in
      let here : Shows interface id (at c id) (at k id) rest answered = record {
        acts = s.acts ++ ToServer ∷ [];
        lane = went.after;
        runs = runs_more (coding interface) lanes.new s.lane went.after s.acts ToServer s.runs tt went.stepped;
        client = client_shows_as id (at c id) s.lane went.after then_so.client then_so.unsent s.client;
        server = went.shows;
        to_server = then_so.to_server;
        to_client = then_so.to_client ∙ s.to_client;
      } in record {
        knows = at_each (λ n. Shows interface n (at c n) (at k n) rest answered) id here (λ other differs.
            let o = knows other in record {
              acts = o.acts;
              lane = o.lane;
              runs = o.runs;
              client = o.client;
              server = subst (λ call. ServerShows other call o.lane) (sym (went.beside.others other differs)) o.server;
              to_server = o.to_server ∙ ap (map seen) (own_passed id other m rest is.names differs);
              to_client = o.to_client;
            });
        calls = went.beside.calls;
        room = went.beside.room;
      }

  server_refuses : (c : Held ClientRule ClientEntry) (answered : List Msg) (h : Held ServerRule ServerEntry) (m : Msg) (rest : List Msg)
      (fault : SessionFault) → IsAsked m → ServerKnows c answered h (m ∷ rest) → fault ≢ NoMemory → ServerHearsIt interface m h (Err fault) h
      → IsFull m h fault
  server_refuses c answered h m rest fault (id, is) knows memory hears =
      let s = knows id in
      (server_hears_next interface s.lane id m (map seen (own_messages id rest)) h h (Err fault) (are_sound s.acts s.lane s.runs)
      (s.to_server ∙ ap (map seen) (own_first id m rest is.names)) s.server is
      (λ wrong. memory (same_fault fault wrong)) hears).1
    where
      same_fault : (fault : SessionFault) → ◌≡◌ {A = Result (Unit {0}) SessionFault} (Err fault) (Err NoMemory) → fault ≡ NoMemory
      same_fault fault is = cc

  -- ---- and at a client

  abbrev ClientKnows : Held ServerRule ServerEntry → List Msg → Held ClientRule ClientEntry → List Msg → Type 0
  ClientKnows c asked h answered = (id : ℕ) → Shows interface id (at h id) (at c id) asked answered

  client_hears : (c : Held ServerRule ServerEntry) (asked : List Msg) (h k : Held ClientRule ClientEntry) (m : Msg) (rest : List Msg) → IsAnswered m
      → ClientKnows c asked h (m ∷ rest) → ClientHearsIt interface m h (Ok tt) k → GoesBy (ClientKnows c asked) h k rest
  client_hears c asked h k m rest (id, is) knows hears =
      let s = knows id in
      let comes : s.lane.to_client ≡ seen m ∷ map seen (own_messages id rest) = s.to_client ∙ ap (map seen) (own_first id m rest is.names) in
      let went = client_hears_next interface s.lane id m (map seen (own_messages id rest)) h k (Ok tt) (are_sound s.acts s.lane s.runs) comes s.client is
      (λ wrong. absurd cc) hears in
      let then_so = came_to_client (coding interface) s.lane went.after s.lane.to_client (seen m) (map seen (own_messages id rest)) comes went.stepped in
      let here : Shows interface id (at k id) (at c id) asked rest = record {
        acts = s.acts ++ ToClient ∷ [];
        lane = went.after;
        runs = runs_more (coding interface) lanes.new s.lane went.after s.acts ToClient s.runs tt went.stepped;
        client = went.shows;
        server = server_shows_as id (at c id) s.lane went.after then_so.server then_so.unanswered s.server;
        to_server = then_so.to_server ∙ s.to_server;
        to_client = then_so.to_client;
      } in record {
        knows = at_each (λ n. Shows interface n (at k n) (at c n) asked rest) id here (λ other differs.
            let o = knows other in record {
              acts = o.acts;
              lane = o.lane;
              runs = o.runs;
              client = subst (λ call. ClientShows other call o.lane) (sym (went.beside.others other differs)) o.client;
              server = o.server;
              to_server = o.to_server;
              to_client = o.to_client ∙ ap (map seen) (own_passed id other m rest is.names differs);
            });
        calls = went.beside.calls;
        room = went.beside.room;
      }

  client_refuses : (c : Held ServerRule ServerEntry) (asked : List Msg) (h : Held ClientRule ClientEntry) (m : Msg) (rest : List Msg)
      (fault : SessionFault) → IsAnswered m → ClientKnows c asked h (m ∷ rest) → fault ≢ NoMemory → ClientHearsIt interface m h (Err fault) h
      → IsFull m h fault
  client_refuses c asked h m rest fault (id, is) knows memory hears =
      let s = knows id in
      (client_hears_next interface s.lane id m (map seen (own_messages id rest)) h h (Err fault) (are_sound s.acts s.lane s.runs)
      (s.to_client ∙ ap (map seen) (own_first id m rest is.names)) s.client is
      (λ wrong. memory (same_fault fault wrong)) hears).1
    where
      same_fault : (fault : SessionFault) → ◌≡◌ {A = Result (Unit {0}) SessionFault} (Err fault) (Err NoMemory) → fault ≡ NoMemory
      same_fault fault is = cc

  -- ---- in a world

  module _ (client_limits server_limits : Limits) where
    abbrev Tracked : WorldState → Type 0
    Tracked = Tracks interface client_limits server_limits

    pub at_server : (w v : WorldState) (n : ℕ) (told : Returned) → Tracked w → ArriveAtServer interface client_limits server_limits w n told v → Tracked v
    at_server w v n told tracks (answered, is, tells, gone) =
        let a = arrive (server_side interface) IsAsked (ServerKnows w.client.calls tracks.answered) asked_framed
        (server_hears w.client.calls tracks.answered) (server_refuses w.client.calls tracks.answered) server_limits w.server v.server n tracks.asked
        w.client.outgoing answered is tracks.shows tracks.server in
        let now : Tracked (record { client = record w.client { outgoing = drop n w.client.outgoing }; server = v.server }) = record {
          asked = a.0.rest;
          answered = tracks.answered;
          shows = a.0.knows;
          server = a.0.reached;
          client = subst (λ out. IsReached client_limits IsAnswered tracks.answered out w.client.unread w.client.calls w.client.fault) (sym a.1) tracks.client;
        } in
        subst Tracked (λ i. record { client = sym gone i; server = v.server }) now

    pub at_client : (w v : WorldState) (n : ℕ) (told : Returned) → Tracked w → ArriveAtClient interface client_limits server_limits w n told v → Tracked v
    at_client w v n told tracks (answered, is, tells, gone) =
        let a = arrive (client_side interface) IsAnswered (ClientKnows w.server.calls tracks.asked) answered_framed
        (client_hears w.server.calls tracks.asked) (client_refuses w.server.calls tracks.asked) client_limits w.client v.client n tracks.answered
        w.server.outgoing answered is tracks.shows tracks.client in
        let now : Tracked (record { client = v.client; server = record w.server { outgoing = drop n w.server.outgoing } }) = record {
          asked = tracks.asked;
          answered = a.0.rest;
          shows = a.0.knows;
          server = subst (λ out. IsReached server_limits IsAsked tracks.asked out w.server.unread w.server.calls w.server.fault) (sym a.1) tracks.server;
          client = a.0.reached;
        } in
        subst Tracked (λ i. record { client = v.client; server = sym gone i }) now
