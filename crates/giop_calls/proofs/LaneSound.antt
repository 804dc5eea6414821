-- Both ends of a lane agree, whatever happens on it.
use Rattle.std.specs.Prelude.{◌≡◌, ℕ, ◌==◌, Bool, true, false, if◌then◌else◌, List, [], ◌∷◌, ◌++◌, length, Option, Some, None, refl}
use Rattle.std.specs.Option.{option_map}
use Rattle.std.proofs.Common.{sym, subst, ap, ◌∙◌, inl, inr}
use Rattle.giop_msg.specs.declared.messages.request.Request.{Request}
use Rattle.giop_calls.specs.declared.outcome.Outcome.TheVariants as ended
use Rattle.giop_calls.specs.declared.client.call.Call.{Call}
use Rattle.giop_calls.specs.declared.client.call.Call.TheVariants as asked
use Rattle.giop_calls.specs.declared.client.entry.ClientEntry.{ClientEntry}
use Rattle.giop_calls.specs.declared.client.entry.ClientEntry.TheVariants as at_client
use Rattle.giop_calls.specs.declared.server.entry.ServerEntry.TheVariants as at_server
use Rattle.giop_calls.specs.declared.server.undecoded.UndecodedCall.{UndecodedCall}
use Rattle.giop_calls.specs.Messages.{is_oneway}
use Rattle.giop_calls.specs.ClientTable as client
use Rattle.giop_calls.specs.ServerTable as server
use Rattle.giop_calls.specs.Lane.{Piece, Message, Stops, Codec, Lane, Act, Calls, Sends, Cancels, Answers, Locates, SendsReply, ToServer, ToClient, new, step, Suits, Runs, IsRight, IsRightLocate, IsRead, NextIsHeard, IsSound}
use Rattle.giop_calls.proofs.LaneStands.{is_still, Server, at, read_at, Given, Replied, Located, answered, Reaches, HasLeft, Replying, Stopping, Stopped, Crossing, Crossed, Phase, Stands, Goes}
use Rattle.giop_calls.proofs.LaneServer as server_acts
use Rattle.giop_calls.proofs.LaneClient as client_acts
use Rattle.giop_calls.proofs.LanePipes as pipes

-- what both came to
abbrev Same : Option ClientEntry → Server → Type 0
Same c s = option_map client.outcome c ≡ option_map server.outcome s.entry

module _ (codec : Codec) where
  keeps : (lane : Lane) (act : Act) → Suits codec lane act → Stands codec lane → Goes codec (step codec lane act)
  keeps lane (Calls call n) fit st = client_acts.keeps_call codec lane call n fit st
  keeps lane Sends fit st = client_acts.keeps_send codec lane st
  keeps lane Cancels fit st = client_acts.keeps_cancel codec lane st
  keeps lane (Answers reply n) fit st = server_acts.keeps_answer codec lane reply n fit st
  keeps lane (Locates here piece) fit st = server_acts.keeps_locate codec lane here piece fit st
  keeps lane SendsReply fit st = server_acts.keeps_send codec lane st
  keeps lane ToServer fit st = pipes.keeps_to_server codec lane st
  keeps lane ToClient fit st = pipes.keeps_to_client codec lane st

  goes_to : (o : Option Lane) (after : Lane) → o ≡ Some after → Goes codec o → Stands codec after
  goes_to o after e st = subst (λ x. Goes codec x) e st

  runs : (acts : List Act) (lane end : Lane) → Stands codec lane → Runs codec lane acts end → Stands codec end
  runs [] lane end st r = subst (λ x. Stands codec x) r st
  runs (act ∷ acts) lane end st (fit, (after, e, r)) = runs acts after end (goes_to _ after e (keeps lane act fit st)) r

  -- a call that waits is asked at the server
  asked_pending : (q : Request) (b : Bool) → b ≡ false
      → ended.Pending ≡ server.outcome (if b then at_server.Delivered q else at_server.Asked q)
  asked_pending q true h = absurd cc
  asked_pending q false h = refl

  oneway_same : (q : Request) (b : Bool) → b ≡ true
      → ended.OneWay ≡ server.outcome (if b then at_server.Delivered q else at_server.Asked q)
  oneway_same q true h = refl
  oneway_same q false h = absurd cc

  waiting_same : (call : Call) (uses : ℕ) → client.sent call ≡ at_client.Waiting call → Same (Some (at_client.Waiting call)) (read_at call uses)
  waiting_same (asked.Request q) uses w = ap (λ x. Some x) (asked_pending q (is_oneway q) (server_acts.waits q (is_oneway q) w))
  waiting_same (asked.Locate q) uses w = refl

  -- all of an answer came
  all_came : (g : Given) (s : Server) (ws tc : List Message) (uses : ℕ) → Replying codec g s ws tc uses [] → s ≡ at (answered g 0) [] uses
  all_came g s ws tc uses r = r.stands ∙ ap (λ x. at (answered g x) [] uses)
      (server_acts.no_length ws r.left (client_acts.none_left tc ws r.coming).1 r.rest)

  -- an answer that didn't begin to come, or not to its end, is pending at the server
  unsent_pending : (g : Given) (left uses : ℕ) → HasLeft g left → (left == 0) ≡ false
      → Some ended.Pending ≡ option_map server.outcome (Some (answered g left))
  unsent_pending (Replied q r n) left uses h z = subst (λ b. Some ended.Pending ≡ Some (if b then ended.Replied r else ended.Pending)) (sym z) refl
  unsent_pending (Located q here piece told) left uses h z = never (subst (λ x. (x == 0) ≡ false) h z)
    where
      never : {P : Type 0} → true ≡ false → P
      never e = absurd cc

  more_left : (m : Message) (ms tc ws : List Message) (left : ℕ) → tc ≡ [] → tc ++ ws ≡ m ∷ ms → length ws ≡ left → (left == 0) ≡ false
  more_left m ms [] [] left t e l = absurd cc
  more_left m ms [] (x ∷ ws) left t e l = server_acts.not_none x ws left l
  more_left m ms (x ∷ tc) ws left t e l = absurd cc

  in_part : (g : Given) (m : Message) (ms : List Message) (s : Server) (ws tc : List Message) (uses : ℕ) → tc ≡ []
      → Replying codec g s ws tc uses (m ∷ ms) → Some ended.Pending ≡ option_map server.outcome s.entry
  in_part g m ms s ws tc uses d r = subst (λ z. Some ended.Pending ≡ option_map server.outcome z.entry) (sym r.stands)
      (unsent_pending g r.left uses r.has (more_left m ms tc ws r.left d r.coming r.rest))

  arrived_all : (s t : Server) (ts : List Message) → ts ≡ [] → Reaches codec s ts t → s ≡ t
  arrived_all s t [] e r = r
  arrived_all s t (m ∷ ts) e r = absurd cc

  not_stops : {P : Type 0} (before ts : List Message) → ts ≡ [] → ts ≡ before ++ Stops ∷ [] → P
  not_stops [] ts t e = absurd cc
  not_stops (m ∷ before) ts t e = absurd cc

  agree : (c : Option ClientEntry) (got : List Piece) (uses : ℕ) (us ts : List Message) (s : Server) (ws tc : List Message)
      → Phase codec c got uses us ts s ws tc → ts ≡ [] → tc ≡ [] → Same c s
  agree None got uses us ts s ws tc (u, (x, y, r)) b e = subst (λ z. Same None z) (sym (arrived_all s _ ts b r)) refl
  agree (Some (at_client.Sending call left)) got uses us ts s ws tc (n, fit, bef, rest, i, u, l, z, (x, y, r)) b e =
      subst (λ z. Same (Some (at_client.Sending call left)) z) (sym (arrived_all s _ ts b r)) refl
  agree (Some (at_client.Waiting call)) got uses us ts s ws tc (u, w, inl (x, y, r)) b e =
      subst (λ z. Same (Some (at_client.Waiting call)) z) (sym (arrived_all s _ ts b r)) (waiting_same call uses w)
  agree (Some (at_client.Waiting call)) got uses us ts s ws tc (u, w, inr (g, i, t, r)) b e = in_part g _ _ s ws tc uses e r
  agree (Some (at_client.Gathering call)) got uses us ts s ws tc (u, g, i, t, p, rest, k, r) b e = in_part g _ _ s ws tc uses e r
  agree (Some (at_client.Done q r)) got uses us ts s ws tc (u, t, n, is) b e =
      subst (λ z. Same (Some (at_client.Done q r)) z) (sym (all_came (Replied q r n) s ws tc uses is)) refl
  agree (Some (at_client.LocateDone q r)) got uses us ts s ws tc (u, t, here, i, is) b e =
      subst (λ z. Same (Some (at_client.LocateDone q r)) z) (sym (all_came (Located q here i r) s ws tc uses is))
      (ap (λ z. Some (ended.Located z)) is.fits.status)
  agree (Some (at_client.Undecoded call fault)) got uses us ts s ws tc st b e = absurd st
  agree (Some (at_client.OnewaySent q)) got uses us ts s ws tc (u, o, (x, y, r)) b e =
      subst (λ z. Same (Some (at_client.OnewaySent q)) z) (sym (arrived_all s _ ts b r)) (ap (λ x. Some x) (oneway_same q (is_oneway q) o))
  agree (Some (at_client.Cancelled l)) got uses us ts s ws tc (u, Stopping before t i k may r) b e = not_stops before ts b k
  agree (Some (at_client.Cancelled l)) got uses us ts s ws tc (u, Stopped i k x y is) b e =
      subst (λ z. Same (Some (at_client.Cancelled l)) z) (sym is) refl
  agree (Some (at_client.Cancelled l)) got uses us ts s ws tc (u, Crossing g ms k r c) b e = not_stops [] ts b k
  agree (Some (at_client.Cancelled l)) got uses us ts s ws tc (u, Crossed left k is x c) b e =
      subst (λ z. Same (Some (at_client.Cancelled l)) z) (sym is) refl

  right : (lane : Lane) → Stands codec lane → IsRight lane
  right lane st q r e = let one = subst (λ c. Phase codec c lane.client.pieces lane.client.uses
      lane.unsent lane.to_server lane.server lane.unanswered lane.to_client) e st in
      let same = all_came (Replied q r one.2) lane.server lane.unanswered lane.to_client lane.client.uses one.3 in
      (ap (λ s. s.entry) same, ap (λ s. s.uses) same)

  right_locate : (lane : Lane) → Stands codec lane → IsRightLocate lane
  right_locate lane st q r e = let one = subst (λ c. Phase codec c lane.client.pieces lane.client.uses
      lane.unsent lane.to_server lane.server lane.unanswered lane.to_client) e st in
      let same = all_came (Located q one.2 one.3 r) lane.server lane.unanswered lane.to_client lane.client.uses one.4 in (
        one.2,
        ap (λ s. s.entry) same,
        one.4.fits.status,
        one.4.fits.no_rest,
        ap (λ s. s.uses) same,
      )

  -- where the server is still, it doesn't stand before a call that it couldn't read
  still_read : (s : Server) (call : UndecodedCall) → is_still s.entry ≡ true → s.entry ≡ Some (at_server.Undecoded call) → ⊥
  still_read s call h e = never (subst (λ x. is_still x ≡ true) e h)
    where
      never : false ≡ true → ⊥
      never e = absurd cc

  asked_read : (q : Request) (b : Bool) (call : UndecodedCall)
      → Some (if b then at_server.Delivered q else at_server.Asked q) ≡ Some (at_server.Undecoded call) → ⊥
  asked_read q true call e = absurd cc
  asked_read q false call e = absurd cc

  call_read : (one : Call) (uses : ℕ) (call : UndecodedCall) → (read_at one uses).entry ≡ Some (at_server.Undecoded call) → ⊥
  call_read (asked.Request q) uses call e = asked_read q (is_oneway q) call e
  call_read (asked.Locate q) uses call e = absurd cc

  given_read : (g : Given) (left : ℕ) (call : UndecodedCall) → Some (answered g left) ≡ Some (at_server.Undecoded call) → ⊥
  given_read (Replied q r n) left call e = absurd cc
  given_read (Located q here piece told) left call e = absurd cc

  -- a server that comes to an entry that is no unread call is at none
  reach_read : (s t : Server) (ts : List Message) (call : UndecodedCall) → Reaches codec s ts t
      → (t.entry ≡ Some (at_server.Undecoded call) → ⊥) → s.entry ≡ Some (at_server.Undecoded call) → ⊥
  reach_read s t [] call r k e = k (subst (λ x. x.entry ≡ Some (at_server.Undecoded call)) r e)
  reach_read s t (m ∷ ts) call r k e = still_read s call r.0 e

  replying_read : (g : Given) (s : Server) (ws tc : List Message) (uses : ℕ) (ms : List Message) (call : UndecodedCall)
      → Replying codec g s ws tc uses ms → s.entry ≡ Some (at_server.Undecoded call) → ⊥
  replying_read g s ws tc uses ms call r e = given_read g r.left call (subst (λ x. x.entry ≡ Some (at_server.Undecoded call)) r.stands e)

  stopped_read : (was : Bool) (left : ℕ) (s : Server) (uses : ℕ) (call : UndecodedCall) → s ≡ at (at_server.Cancelled was left) [] uses
      → s.entry ≡ Some (at_server.Undecoded call) → ⊥
  stopped_read was left s uses call is e = never (subst (λ x. x.entry ≡ Some (at_server.Undecoded call)) is e)
    where
      never : Some (at_server.Cancelled was left) ≡ Some (at_server.Undecoded call) → ⊥
      never e = absurd cc

  server_read : (c : Option ClientEntry) (got : List Piece) (uses : ℕ) (us ts : List Message) (s : Server) (ws tc : List Message)
      (call : UndecodedCall) → Phase codec c got uses us ts s ws tc → s.entry ≡ Some (at_server.Undecoded call) → ⊥
  server_read None got uses us ts s ws tc call (u, (x, y, r)) e = reach_read s _ ts call r (λ i. absurd cc) e
  server_read (Some (at_client.Sending one left)) got uses us ts s ws tc call (n, fit, bef, rest, i, u, l, z, (x, y, r)) e =
      reach_read s _ ts call r (λ i. absurd cc) e
  server_read (Some (at_client.Waiting one)) got uses us ts s ws tc call (u, w, inl (x, y, r)) e =
      reach_read s _ ts call r (call_read one uses call) e
  server_read (Some (at_client.Waiting one)) got uses us ts s ws tc call (u, w, inr (g, i, t, r)) e = replying_read g s ws tc uses _ call r e
  server_read (Some (at_client.Gathering one)) got uses us ts s ws tc call (u, g, i, t, p, rest, k, r) e = replying_read g s ws tc uses _ call r e
  server_read (Some (at_client.Done q r)) got uses us ts s ws tc call (u, t, n, is) e = replying_read _ s ws tc uses _ call is e
  server_read (Some (at_client.LocateDone q r)) got uses us ts s ws tc call (u, t, here, i, is) e = replying_read _ s ws tc uses _ call is e
  server_read (Some (at_client.Undecoded one fault)) got uses us ts s ws tc call st e = absurd st
  server_read (Some (at_client.OnewaySent q)) got uses us ts s ws tc call (u, o, (x, y, r)) e =
      reach_read s _ ts call r (call_read (asked.Request q) uses call) e
  server_read (Some (at_client.Cancelled l)) got uses us ts s ws tc call (u, Stopping before t i k (inl (kind, ps, is)) (x, y, r)) e =
      reach_read s t before call r (λ f. none_read kind (subst (λ x. x.entry ≡ Some (at_server.Undecoded call)) is f)) e
    where
      none_read : (kind : _) → Some (at_server.Gathering kind) ≡ Some (at_server.Undecoded call) → ⊥
      none_read kind e = absurd cc
  server_read (Some (at_client.Cancelled l)) got uses us ts s ws tc call (u, Stopping before t i k (inr (one, w, is)) (x, y, r)) e =
      reach_read s t before call r (λ f. call_read one uses call (subst (λ x. x.entry ≡ Some (at_server.Undecoded call)) is f)) e
  server_read (Some (at_client.Cancelled l)) got uses us ts s ws tc call (u, Stopped i k x y is) e = stopped_read false 0 s uses call is e
  server_read (Some (at_client.Cancelled l)) got uses us ts s ws tc call (u, Crossing g ms k r c) e = replying_read g s ws tc uses _ call r e
  server_read (Some (at_client.Cancelled l)) got uses us ts s ws tc call (u, Crossed left k is x c) e = stopped_read true left s uses call is e

  client_read : (lane : Lane) (call : Call) (fault : _) → Stands codec lane → lane.client.entry ≡ Some (at_client.Undecoded call fault) → ⊥
  client_read lane call fault st e = subst (λ c. Phase codec c lane.client.pieces lane.client.uses
      lane.unsent lane.to_server lane.server lane.unanswered lane.to_client) e st

  read : (lane : Lane) → Stands codec lane → IsRead lane
  read lane st = (
    λ call fault e. client_read lane call fault st e,
    λ call e. server_read lane.client.entry lane.client.pieces lane.client.uses lane.unsent lane.to_server lane.server
        lane.unanswered lane.to_client call st e,
  )

  -- a step that goes on leads to a lane
  leads : (o : Option Lane) → Goes codec o → (after : Lane) × (o ≡ Some after)
  leads None st = absurd st
  leads (Some lane) st = (lane, refl)

  heard : (lane : Lane) → Stands codec lane → NextIsHeard codec lane
  heard lane st = (leads _ (keeps lane ToServer tt st), leads _ (keeps lane ToClient tt st))

  -- the law
  pub sound : (acts : List Act) (lane : Lane) → Runs codec new acts lane → IsSound codec lane
  sound acts lane r = let st = runs acts new lane (refl, (refl, refl, refl)) r in (
    agree lane.client.entry lane.client.pieces lane.client.uses lane.unsent lane.to_server lane.server
        lane.unanswered lane.to_client st,
    right lane st,
    right_locate lane st,
    read lane st,
    heard lane st,
  )
