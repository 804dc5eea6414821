-- What stands on a lane stands behind every message that arrives, and none is refused.
use Rattle.std.specs.Prelude.{◌≡◌, ℕ, ◌==◌, Bool, true, false, if◌then◌else◌, List, [], ◌∷◌, ◌++◌, Option, Some, None, refl}
use Rattle.std.specs.Option.{option_map}
use Rattle.std.proofs.Common.{arith, sym, subst, ap, ◌∙◌, inl, inr, append_assoc}
use Rattle.std.proofs.lemmas.Bool.Decides.{nat_tests}
use Rattle.giop_cdr.specs.declared.order.Order.{Order}
use Rattle.giop_msg.specs.Version.{minor_of}
use Rattle.giop_msg.specs.declared.version.Version.{Version}
use Rattle.giop_msg.specs.declared.messages.request.Request.{Request}
use Rattle.giop_calls.specs.declared.kind.CallKind.{CallKind}
use Rattle.giop_calls.specs.declared.client.call.Call.{Call}
use Rattle.giop_calls.specs.declared.client.call.Call.TheVariants as asked
use Rattle.giop_calls.specs.declared.client.heard.HeardReply.{HeardReply}
use Rattle.giop_calls.specs.declared.client.heard.HeardReply.TheVariants as heard
use Rattle.giop_calls.specs.declared.client.late.Late.{Late}
use Rattle.giop_calls.specs.declared.client.late.Late.TheVariants as late
use Rattle.giop_calls.specs.declared.client.entry.ClientEntry.{ClientEntry}
use Rattle.giop_calls.specs.declared.client.entry.ClientEntry.TheVariants as at_client
use Rattle.giop_calls.specs.declared.server.entry.ServerEntry.TheVariants as at_server
use Rattle.giop_calls.specs.Messages.{is_oneway}
use Rattle.giop_calls.specs.ClientTable as client
use Rattle.giop_calls.specs.Lane.{Piece, Message, Opens, Continues, Stops, AreIn, in_order, Codec, Standing, Lane, kind_of, is_last, fragments, taken, later, served, hears, client_event, to_server, to_client}
use Rattle.giop_calls.proofs.LaneStands.{Server, at, read_at, Coming, Given, Replied, Located, call_of, answer_version, answered, HasLeft, first_of, rest_of, Fits, done_by, Replying, MayStop, Stopping, Stopped, Crossing, Crossed, Phase, Stands, Goes, lane_of}
use Rattle.giop_calls.proofs.LaneServer.{waits, piece_in_order}

same_is : (n : ℕ) → (n == n) ≡ true
same_is n = grind (arith, nat_tests)

-- the first of a list, or else this
head_or : Message → List Message → Message
head_or m [] = m
head_or m (x ∷ xs) = x

head_is : (m x : Message) (ms xs : List Message) → m ∷ ms ≡ x ∷ xs → m ≡ x
unfolding head_or
head_is m x ms xs e = ap (λ l. head_or m l) e

rest_is : (m x : Message) (ms xs : List Message) → m ∷ ms ≡ x ∷ xs → ms ≡ xs
rest_is m x ms xs e = ap later e

module _ (codec : Codec) where
  -- the server reads a message
  arrives : (c : Option ClientEntry) (got : List Piece) (uses : ℕ) (us all : List Message) (s mid : Server) (ws tc : List Message)
      (m : Message) (rest : List Message) → served codec s m ≡ Some mid → Phase codec c got uses us rest mid ws tc
      → Goes codec (to_server codec (lane_of c got uses us all s ws tc) (m ∷ rest))
  arrives c got uses us all s mid ws tc m rest e st =
      subst (λ o. Goes codec (option_map (λ x. record (lane_of c got uses us all s ws tc) { server = x; to_server = rest }) o)) (sym e) st

  stops_asked : (q : Request) (uses : ℕ) (b : Bool) → b ≡ false
      → served codec (at (if b then at_server.Delivered q else at_server.Asked q) [] uses) Stops ≡ Some (at (at_server.Cancelled false 0) [] uses)
  stops_asked q uses true h = absurd cc
  stops_asked q uses false h = refl

  stops_read : (call : Call) (uses : ℕ) → client.sent call ≡ at_client.Waiting call
      → served codec (read_at call uses) Stops ≡ Some (at (at_server.Cancelled false 0) [] uses)
  stops_read (asked.Request q) uses w = stops_asked q uses (is_oneway q) (waits q (is_oneway q) w)
  stops_read (asked.Locate q) uses w = refl

  stops : (t : Server) (uses : ℕ) → MayStop codec t uses → served codec t Stops ≡ Some (at (at_server.Cancelled false 0) [] uses)
  stops t uses (inl (k, ps, is)) = subst (λ x. served codec x Stops ≡ Some (at (at_server.Cancelled false 0) [] uses)) (sym is) refl
  stops t uses (inr (call, w, is)) =
      subst (λ x. served codec x Stops ≡ Some (at (at_server.Cancelled false 0) [] uses)) (sym is) (stops_read call uses w)

  pub stops_given : (g : Given) (left uses : ℕ) → HasLeft g left
      → served codec (at (answered g left) [] uses) Stops ≡ Some (at (at_server.Cancelled true left) [] uses)
  stops_given (Replied q r n) left uses h = refl
  stops_given (Located q here piece told) left uses h = ap (λ x. Some (at (at_server.Cancelled true x) [] uses)) (sym h)

  server_hears : (c : Option ClientEntry) (got : List Piece) (uses : ℕ) (us ts : List Message) (s : Server) (ws tc : List Message)
      → Phase codec c got uses us ts s ws tc → Goes codec (to_server codec (lane_of c got uses us ts s ws tc) ts)
  server_hears c got uses us [] s ws tc st = st
  server_hears None got uses us (m ∷ ts) s ws tc (u, (x, y, (h, (mid, e, r)))) =
      arrives None got uses us (m ∷ ts) s mid ws tc m ts e (u, (x, y, r))
  server_hears (Some (at_client.Sending call left)) got uses us (m ∷ ts) s ws tc (n, fit, b, rest, a, u, l, z, (x, y, (h, (mid, e, r)))) =
      arrives _ got uses us (m ∷ ts) s mid ws tc m ts e (n, fit, b, rest, a, u, l, z, (x, y, r))
  server_hears (Some (at_client.Waiting call)) got uses us (m ∷ ts) s ws tc (u, w, inl (x, y, (h, (mid, e, r)))) =
      arrives _ got uses us (m ∷ ts) s mid ws tc m ts e (u, w, inl (x, y, r))
  server_hears (Some (at_client.Waiting call)) got uses us (m ∷ ts) s ws tc (u, w, inr (g, e, t, r)) = absurd cc
  server_hears (Some (at_client.Gathering call)) got uses us (m ∷ ts) s ws tc (u, g, e, t, p, rest, a, r) = absurd cc
  server_hears (Some (at_client.Done q r)) got uses us (m ∷ ts) s ws tc (u, t, n, is) = absurd cc
  server_hears (Some (at_client.LocateDone q r)) got uses us (m ∷ ts) s ws tc (u, t, here, e, is) = absurd cc
  server_hears (Some (at_client.Undecoded call fault)) got uses us (m ∷ ts) s ws tc st = absurd st
  server_hears (Some (at_client.OnewaySent q)) got uses us (m ∷ ts) s ws tc (u, o, (x, y, (h, (mid, e, r)))) =
      arrives _ got uses us (m ∷ ts) s mid ws tc m ts e (u, o, (x, y, r))
  server_hears (Some (at_client.Cancelled l)) got uses us (m ∷ ts) s ws tc (u, Stopping [] t e a may (x, y, r)) =
      arrives _ got uses us (m ∷ ts) s (at (at_server.Cancelled false 0) [] uses) ws tc m ts
      (subst (λ z. served codec s z ≡ Some (at (at_server.Cancelled false 0) [] uses)) (sym (head_is m Stops ts [] a))
      (subst (λ z. served codec z Stops ≡ Some (at (at_server.Cancelled false 0) [] uses)) (sym r) (stops t uses may)))
      (u, Stopped e (rest_is m Stops ts [] a) x y refl)
  server_hears (Some (at_client.Cancelled l)) got uses us (m ∷ ts) s ws tc (u, Stopping (b ∷ bs) t e a may (x, y, (h, (mid, is, r)))) =
      arrives _ got uses us (m ∷ ts) s mid ws tc m ts
      (subst (λ z. served codec s z ≡ Some mid) (sym (head_is m b ts (bs ++ Stops ∷ []) a)) is)
      (u, Stopping bs t e (rest_is m b ts (bs ++ Stops ∷ []) a) may (x, y, r))
  server_hears (Some (at_client.Cancelled l)) got uses us (m ∷ ts) s ws tc (u, Stopped e a x y is) = absurd cc
  server_hears (Some (at_client.Cancelled l)) got uses us (m ∷ ts) s ws tc (u, Crossing g ms a r c) =
      arrives _ got uses us (m ∷ ts) s (at (at_server.Cancelled true r.left) [] uses) ws tc m ts
      (subst (λ z. served codec s z ≡ Some (at (at_server.Cancelled true r.left) [] uses)) (sym (head_is m Stops ts [] a))
      (subst (λ z. served codec z Stops ≡ Some (at (at_server.Cancelled true r.left) [] uses)) (sym r.stands) (stops_given g r.left uses r.has)))
      (u, Crossed r.left (rest_is m Stops ts [] a) refl r.rest (subst (λ z. Coming l z) (sym r.coming) c))
  server_hears (Some (at_client.Cancelled l)) got uses us (m ∷ ts) s ws tc (u, Crossed left a is x c) = absurd cc

  pub keeps_to_server : (lane : Lane) → Stands codec lane → Goes codec (to_server codec lane lane.to_server)
  keeps_to_server lane st = server_hears lane.client.entry lane.client.pieces lane.client.uses
      lane.unsent lane.to_server lane.server lane.unanswered lane.to_client st

  -- what the client hears of an answer
  heard_by : Given → HeardReply
  heard_by (Replied q r n) = heard.Reply r
  heard_by (Located q here piece told) = heard.Locate told

  reads : (g : Given) → Fits codec g → codec.read_reply (call_of g) (first_of g ∷ rest_of g) ≡ heard_by g
  unfolding heard_by
  reads (Replied q r n) f = f.0.read
  reads (Located q here piece told) f = f.read

  order_of : (g : Given) → Fits codec g → (order : Order) × AreIn order (first_of g ∷ rest_of g)
  order_of (Replied q r n) f = (f.0.order, f.0.one_order)
  order_of (Located q here piece told) f = (piece.order, (refl, tt))

  answers_it : (g : Given) → Fits codec g → client.answers (kind_of (call_of g)) (answer_version g) (call_of g) ≡ true
  answers_it (Replied q r n) f = f.1
  answers_it (Located q here piece told) f = same_is (minor_of q.version)

  settled : (g : Given) (before : ClientEntry) → client.settles before (call_of g) (heard_by g) ≡ client.becomes (done_by g)
  unfolding heard_by
  settled (Replied q r n) before = refl
  settled (Located q here piece told) before = refl

  done_stands : (g : Given) (got : List Piece) (uses : ℕ) (us ts : List Message) (s : Server) (ws tc : List Message)
      → us ≡ [] → ts ≡ [] → Replying codec g s ws tc uses [] → Phase codec (Some (done_by g)) got uses us ts s ws tc
  done_stands (Replied q r n) got uses us ts s ws tc u t is = (u, t, n, is)
  done_stands (Located q here piece told) got uses us ts s ws tc u t is = (u, t, here, piece, is)

  comes_on : (g : Given) (s : Server) (ws tc : List Message) (uses : ℕ) (m x : Message) (ms : List Message)
      → Replying codec g s ws (m ∷ tc) uses (x ∷ ms) → Replying codec g s ws tc uses ms
  comes_on g s ws tc uses m x ms r = record {
    fits = r.fits;
    left = r.left;
    stands = r.stands;
    has = r.has;
    rest = r.rest;
    coming = rest_is m x (tc ++ ws) ms r.coming;
  }

  -- the client hears a message, which is this one and by which its entry comes to that
  comes : (c : ClientEntry) (next : ClientEntry) (got pieces : List Piece) (uses : ℕ) (us ts all : List Message) (s : Server) (ws : List Message)
      (m x : Message) (rest : List Message) → m ≡ x
      → hears codec (record { entry = Some c; pieces = got; uses = uses }) x (client_event codec (record { entry = Some c; pieces = got; uses = uses }) x)
      ≡ Some (record { entry = Some next; pieces = pieces; uses = uses })
      → Phase codec (Some next) pieces uses us ts s ws rest
      → Goes codec (to_client codec (lane_of (Some c) got uses us ts s ws all) (m ∷ rest))
  comes c next got pieces uses us ts all s ws m x rest is e st =
      subst (λ z. Goes codec (to_client codec (lane_of (Some c) got uses us ts s ws all) (z ∷ rest))) (sym is)
      (subst (λ o. Goes codec (option_map (λ y. record (lane_of (Some c) got uses us ts s ws all) { client = y; to_client = rest }) o)) (sym e) st)

  -- a step that becomes that
  became : (step : client.ClientStep) (next : ClientEntry) (pieces : List Piece) (uses : ℕ) → step ≡ client.becomes next
      → taken {A = Standing ClientEntry} step.outcome (record { entry = step.entry; pieces = pieces; uses = uses })
      ≡ Some (record { entry = Some next; pieces = pieces; uses = uses })
  became step next pieces uses e = subst (λ y. taken {A = Standing ClientEntry} y.outcome (record { entry = y.entry; pieces = pieces; uses = uses })
      ≡ Some (record { entry = Some next; pieces = pieces; uses = uses })) (sym e) refl

  chosen : (b : Bool) (one other : client.ClientStep) → b ≡ true → (if b then one else other) ≡ one
  chosen true one other h = refl
  chosen false one other h = absurd cc

  whole_comes : (g : Given) (x : HeardReply) → Fits codec g → x ≡ heard_by g
      → client.whole (Some (at_client.Waiting (call_of g))) (kind_of (call_of g)) (answer_version g) x ≡ client.becomes (done_by g)
  whole_comes g x f e = chosen (client.answers (kind_of (call_of g)) (answer_version g) (call_of g)) _ _ (answers_it g f)
      ∙ ap (λ y. client.settles (at_client.Waiting (call_of g)) (call_of g) y) e ∙ settled g _

  first_comes : (g : Given) → Fits codec g
      → client.first (Some (at_client.Waiting (call_of g))) (kind_of (call_of g)) (answer_version g) ≡ client.becomes (at_client.Gathering (call_of g))
  first_comes g f = chosen (client.answers (kind_of (call_of g)) (answer_version g) (call_of g)) _ _ (answers_it g f)

  -- the first piece of the reply
  first_heard : (g : Given) (got : List Piece) (uses : ℕ) (us ts : List Message) (s : Server) (ws : List Message) (m : Message) (tc : List Message)
      (rest : List Piece) → rest_of g ≡ rest → us ≡ [] → ts ≡ []
      → Replying codec g s ws (m ∷ tc) uses (Opens (kind_of (call_of g)) (answer_version g) (is_last rest) (first_of g) ∷ fragments rest)
      → Goes codec (to_client codec (lane_of (Some (at_client.Waiting (call_of g))) got uses us ts s ws (m ∷ tc)) (m ∷ tc))
  first_heard g got uses us ts s ws m tc [] e u t r = comes (at_client.Waiting (call_of g)) (done_by g) got [] uses us ts (m ∷ tc) s ws m _ tc
      (head_is m _ (tc ++ ws) _ r.coming)
      (became _ _ [] uses (whole_comes g _ r.fits
      (subst (λ l. codec.read_reply (call_of g) (first_of g ∷ l) ≡ heard_by g) e (reads g r.fits))))
      (done_stands g [] uses us ts s ws tc u t (comes_on g s ws tc uses m _ _ r))
  first_heard g got uses us ts s ws m tc (p ∷ rest) e u t r =
      comes (at_client.Waiting (call_of g)) (at_client.Gathering (call_of g)) got (first_of g ∷ []) uses us ts (m ∷ tc) s ws m _ tc
      (head_is m _ (tc ++ ws) _ r.coming) (became _ _ _ uses (first_comes g r.fits))
      (u, g, refl, t, p, rest, ap (λ l. first_of g ∷ l) (sym e), comes_on g s ws tc uses m _ _ r)

  -- a further piece
  in_its_order : (g : Given) (got : List Piece) (p : Piece) (rest : List Piece) → Fits codec g → got ++ p ∷ rest ≡ first_of g ∷ rest_of g
      → in_order got p ≡ true
  in_its_order g got p rest f a = let o = order_of g f in piece_in_order o.0 got p rest _ a o.1

  further_heard : (g : Given) (got : List Piece) (uses : ℕ) (us ts : List Message) (s : Server) (ws : List Message) (m : Message) (tc : List Message)
      (p : Piece) (rest : List Piece) → us ≡ [] → ts ≡ [] → got ++ p ∷ rest ≡ first_of g ∷ rest_of g
      → Replying codec g s ws (m ∷ tc) uses (fragments (p ∷ rest))
      → Goes codec (to_client codec (lane_of (Some (at_client.Gathering (call_of g))) got uses us ts s ws (m ∷ tc)) (m ∷ tc))
  further_heard g got uses us ts s ws m tc p [] u t a r = comes (at_client.Gathering (call_of g)) (done_by g) got [] uses us ts (m ∷ tc) s ws m _ tc
      (head_is m _ (tc ++ ws) _ r.coming)
      (became _ _ [] uses (chosen (in_order got p) _ _ (in_its_order g got p [] r.fits a)
      ∙ ap (λ y. client.settles (at_client.Gathering (call_of g)) (call_of g) y) (ap (λ l. codec.read_reply (call_of g) l) a ∙ reads g r.fits) ∙ settled g _))
      (done_stands g [] uses us ts s ws tc u t (comes_on g s ws tc uses m _ _ r))
  further_heard g got uses us ts s ws m tc p (x ∷ rest) u t a r =
      comes (at_client.Gathering (call_of g)) (at_client.Gathering (call_of g)) got (got ++ p ∷ []) uses us ts (m ∷ tc) s ws m _ tc
      (head_is m _ (tc ++ ws) _ r.coming) (became _ _ _ uses (chosen (in_order got p) _ _ (in_its_order g got p (x ∷ rest) r.fits a)))
      (u, g, refl, t, x, rest, append_assoc got (p ∷ []) (x ∷ rest) ∙ a, comes_on g s ws tc uses m _ _ r)

  -- a late reply
  record Later (l : Late) (got : List Piece) (uses : ℕ) (m : Message) (ms : List Message) : Type 0 where
    now : Late
    pieces : List Piece
    heard : hears codec (record { entry = Some (at_client.Cancelled l); pieces = got; uses = uses }) m
        (client_event codec (record { entry = Some (at_client.Cancelled l); pieces = got; uses = uses }) m)
        ≡ Some (record { entry = Some (at_client.Cancelled now); pieces = pieces; uses = uses })
    coming : Coming now ms

  late_opens : (got : List Piece) (uses : ℕ) (ms : List Message) (k : CallKind) (v : Version) (p : Piece) (rest : List Piece)
      → ms ≡ fragments rest → Later late.None got uses (Opens k v (is_last rest) p) ms
  late_opens got uses ms k v p [] e = record { now = late.Seen; pieces = []; heard = refl; coming = e }
  late_opens got uses ms k v p (x ∷ rest) e = record { now = late.Begun; pieces = p ∷ []; heard = refl; coming = (x, rest, e) }

  late_continues : (got : List Piece) (uses : ℕ) (ms : List Message) (p : Piece) (rest : List Piece)
      → ms ≡ fragments rest → Later late.Begun got uses (Continues (is_last rest) p) ms
  late_continues got uses ms p [] e = record { now = late.Seen; pieces = []; heard = refl; coming = e }
  late_continues got uses ms p (x ∷ rest) e = record { now = late.Begun; pieces = got ++ p ∷ []; heard = refl; coming = (x, rest, e) }

  late_heard : (l : Late) (got : List Piece) (uses : ℕ) (m : Message) (ms : List Message) → Coming l (m ∷ ms) → Later l got uses m ms
  late_heard late.None got uses m ms (k, v, p, rest, e) = subst (λ z. Later late.None got uses z ms) (sym (head_is m _ ms _ e))
      (late_opens got uses ms k v p rest (rest_is m _ ms _ e))
  late_heard late.Begun got uses m ms (p, rest, e) = subst (λ z. Later late.Begun got uses z ms) (sym (head_is m _ ms _ e))
      (late_continues got uses ms p rest (rest_is m _ ms _ e))
  late_heard late.Seen got uses m ms e = absurd cc

  late_comes : (l : Late) (got : List Piece) (uses : ℕ) (us ts : List Message) (s : Server) (ws : List Message) (m : Message) (tc : List Message)
      (x : Later l got uses m (tc ++ ws)) → Phase codec (Some (at_client.Cancelled x.now)) x.pieces uses us ts s ws tc
      → Goes codec (to_client codec (lane_of (Some (at_client.Cancelled l)) got uses us ts s ws (m ∷ tc)) (m ∷ tc))
  late_comes l got uses us ts s ws m tc x st = comes (at_client.Cancelled l) (at_client.Cancelled x.now)
      got x.pieces uses us ts (m ∷ tc) s ws m m tc refl x.heard st

  client_hears : (c : Option ClientEntry) (got : List Piece) (uses : ℕ) (us ts : List Message) (s : Server) (ws tc : List Message)
      → Phase codec c got uses us ts s ws tc → Goes codec (to_client codec (lane_of c got uses us ts s ws tc) tc)
  client_hears c got uses us ts s ws [] st = st
  client_hears None got uses us ts s ws (m ∷ tc) (u, (x, y, r)) = absurd cc
  client_hears (Some (at_client.Sending call left)) got uses us ts s ws (m ∷ tc) (n, fit, b, rest, a, u, l, z, (x, y, r)) = absurd cc
  client_hears (Some (at_client.Waiting call)) got uses us ts s ws (m ∷ tc) (u, w, inl (x, y, r)) = absurd cc
  client_hears (Some (at_client.Waiting call)) got uses us ts s ws (m ∷ tc) (u, w, inr (g, e, t, r)) =
      subst (λ z. Goes codec (to_client codec (lane_of (Some (at_client.Waiting z)) got uses us ts s ws (m ∷ tc)) (m ∷ tc))) e
      (first_heard g got uses us ts s ws m tc (rest_of g) refl u t r)
  client_hears (Some (at_client.Gathering call)) got uses us ts s ws (m ∷ tc) (u, g, e, t, p, rest, a, r) =
      subst (λ z. Goes codec (to_client codec (lane_of (Some (at_client.Gathering z)) got uses us ts s ws (m ∷ tc)) (m ∷ tc))) e
      (further_heard g got uses us ts s ws m tc p rest u t a r)
  client_hears (Some (at_client.Done q r)) got uses us ts s ws (m ∷ tc) (u, t, n, is) = nothing_left is.coming
    where
      nothing_left : {P : Type 0} → m ∷ (tc ++ ws) ≡ [] → P
      nothing_left e = absurd cc
  client_hears (Some (at_client.LocateDone q r)) got uses us ts s ws (m ∷ tc) (u, t, here, e, is) = nothing_left is.coming
    where
      nothing_left : {P : Type 0} → m ∷ (tc ++ ws) ≡ [] → P
      nothing_left e = absurd cc
  client_hears (Some (at_client.Undecoded call fault)) got uses us ts s ws (m ∷ tc) st = absurd st
  client_hears (Some (at_client.OnewaySent q)) got uses us ts s ws (m ∷ tc) (u, o, (x, y, r)) = absurd cc
  client_hears (Some (at_client.Cancelled l)) got uses us ts s ws (m ∷ tc) (u, Stopping before t e a may (x, y, r)) = absurd cc
  client_hears (Some (at_client.Cancelled l)) got uses us ts s ws (m ∷ tc) (u, Stopped e a x y is) = absurd cc
  client_hears (Some (at_client.Cancelled l)) got uses us ts s ws (m ∷ tc) (u, Crossing g ms a r c) =
      let x = late_heard l got uses m (tc ++ ws) (subst (λ z. Coming l z) (sym r.coming) c) in
      late_comes l got uses us ts s ws m tc x (
        u,
        Crossing g (tc ++ ws) a (record {
          fits = r.fits;
          left = r.left;
          stands = r.stands;
          has = r.has;
          rest = r.rest;
          coming = refl;
        }) x.coming,
      )
  client_hears (Some (at_client.Cancelled l)) got uses us ts s ws (m ∷ tc) (u, Crossed left a is h c) =
      let x = late_heard l got uses m (tc ++ ws) c in
      late_comes l got uses us ts s ws m tc x (u, Crossed left a is h x.coming)

  pub keeps_to_client : (lane : Lane) → Stands codec lane → Goes codec (to_client codec lane lane.to_client)
  keeps_to_client lane st = client_hears lane.client.entry lane.client.pieces lane.client.uses
      lane.unsent lane.to_server lane.server lane.unanswered lane.to_client st
