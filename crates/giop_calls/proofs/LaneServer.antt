-- What stands on a lane stands behind every act of the server.
use Rattle.std.specs.Prelude.{◌≡◌, ◌⊎◌, ℕ, suc, ◌-◌, ◌==◌, Bool, true, false, if◌then◌else◌, List, [], ◌∷◌, ◌++◌, length, Option, Some, None, refl}
use Rattle.std.proofs.Common.{sym, subst, ap, ◌∙◌, inl, inr, arith, append_assoc}
use Rattle.std.proofs.Math.Dec.{eqb-suc-zero}
use Rattle.giop_cdr.specs.declared.order.Order.{Order}
use Rattle.giop_cdr.specs.declared.order.Order.TheVariants.{Big, Little}
use Rattle.giop_msg.specs.declared.messages.reply.Reply.{Reply}
use Rattle.giop_msg.specs.declared.messages.locate_reply.LocateReply.{LocateReply}
use Rattle.giop_msg.specs.declared.messages.request.Request.{Request}
use Rattle.giop_calls.specs.declared.kind.CallKind.TheVariants as kind
use Rattle.giop_calls.specs.declared.fault.CallFault.TheVariants.{NothingToSend, Unfit}
use Rattle.giop_calls.specs.declared.client.call.Call.{Call}
use Rattle.giop_calls.specs.declared.client.call.Call.TheVariants as asked
use Rattle.giop_calls.specs.declared.client.entry.ClientEntry.{ClientEntry}
use Rattle.giop_calls.specs.declared.client.entry.ClientEntry.TheVariants as at_client
use Rattle.giop_calls.specs.declared.server.question.Question.TheVariants as question
use Rattle.giop_calls.specs.declared.server.entry.ServerEntry.{ServerEntry}
use Rattle.giop_calls.specs.declared.server.entry.ServerEntry.TheVariants as at_server
use Rattle.giop_calls.specs.declared.server.event.ServerEvent.TheVariants as event
use Rattle.giop_calls.specs.Messages.{is_oneway, is_same_version, is_same_order}
use Rattle.giop_calls.specs.ClientTable.{sent}
use Rattle.giop_calls.specs.ServerTable.{server_step, send, becomes, refused, left_of}
use Rattle.giop_calls.specs.Lane.{Piece, Message, Opens, Stops, Cut, pieces_of, count, AreIn, in_order, Codec, CutsReply, CutsLocated, Lane, is_last, fragments, tried, next, later, Suits, step, Act, Answers, Locates, SendsReply}
use Rattle.giop_calls.proofs.LaneStands.{is_still, Server, at, read_at, Coming, Given, Replied, Located, call_of, answered, told_by, Reaches, Quiet, Replying, Stopping, Stopped, Crossing, Crossed, Phase, Stands, Goes, lane_of}

-- a call that the server could answer
abbrev is_open : Option ServerEntry → Bool
is_open (Some (at_server.Asked request)) = true
is_open (Some (at_server.Undecoded call)) = true
is_open (Some (at_server.LocateAsked request)) = true
is_open _ = false

still_shut : (e : Option ServerEntry) → is_still e ≡ true → is_open e ≡ false
still_shut None h = refl
still_shut (Some (at_server.Gathering kind)) h = refl
still_shut (Some (at_server.Asked request)) h = absurd cc
still_shut (Some (at_server.Undecoded call)) h = absurd cc
still_shut (Some (at_server.LocateAsked request)) h = absurd cc
still_shut (Some (at_server.Answered asked reply left)) h = refl
still_shut (Some (at_server.LocateAnswered target here)) h = refl
still_shut (Some (at_server.Delivered request)) h = refl
still_shut (Some (at_server.Cancelled was left)) h = refl

still_silent : (e : Option ServerEntry) → is_still e ≡ true → (e ≡ None) ⊎ ((one : ServerEntry) × (e ≡ Some one) × ((left_of one == 0) ≡ true))
still_silent None h = inl refl
still_silent (Some (at_server.Gathering kind)) h = inr (_, refl, refl)
still_silent (Some (at_server.Asked request)) h = absurd cc
still_silent (Some (at_server.Undecoded call)) h = absurd cc
still_silent (Some (at_server.LocateAsked request)) h = absurd cc
still_silent (Some (at_server.Answered asked reply left)) h = inr (_, refl, h)
still_silent (Some (at_server.LocateAnswered target here)) h = inr (_, refl, refl)
still_silent (Some (at_server.Delivered request)) h = inr (_, refl, refl)
still_silent (Some (at_server.Cancelled was left)) h = inr (_, refl, h)

-- a call whose reply is waited for is asked at the server
pub waits : (q : Request) (b : Bool)
    → (if b then at_client.OnewaySent q else at_client.Waiting (asked.Request q)) ≡ at_client.Waiting (asked.Request q) → b ≡ false
waits q true e = absurd cc
waits q false e = refl

length_of : (pieces : List Piece) → length (fragments pieces) ≡ length pieces
length_of [] = refl
length_of (piece ∷ pieces) = ap (λ n. suc n) (length_of pieces)

pub not_none : {A : Type 0} (a : A) (l : List A) (n : ℕ) → length (a ∷ l) ≡ n → (n == 0) ≡ false
not_none a l n e = subst (λ x. (x == 0) ≡ false) e (eqb-suc-zero (length l))

pub one_less : {A : Type 0} (a : A) (l : List A) (n : ℕ) → length (a ∷ l) ≡ n → length l ≡ n - 1
one_less a l n e = omega arith

pub no_length : {A : Type 0} (l : List A) (n : ℕ) → l ≡ [] → length l ≡ n → n ≡ 0
no_length l n e h = sym (subst (λ x. length x ≡ n) e h)

-- in pieces of one byte order each comes in the order of the first
order_of_it : (order : Order) (before : List Piece) (p : Piece) (rest : List Piece) → AreIn order (before ++ p ∷ rest) → p.order ≡ order
order_of_it order [] p rest h = h.0
order_of_it order (b ∷ before) p rest h = order_of_it order before p rest h.1

order_is : (order : Order) → is_same_order order order ≡ true
order_is Big = refl
order_is Little = refl

in_one_order : (order : Order) (before : List Piece) (p : Piece) (rest : List Piece) → AreIn order (before ++ p ∷ rest) → in_order before p ≡ true
in_one_order order [] p rest h = refl
in_one_order order (b ∷ before) p rest h = subst (λ x. is_same_order x b.order ≡ true) (sym (order_of_it order before p rest h.1))
    (subst (λ x. is_same_order order x ≡ true) (sym h.0) (order_is order))

pub piece_in_order : (order : Order) (before : List Piece) (p : Piece) (rest all : List Piece) → before ++ p ∷ rest ≡ all
    → AreIn order all → in_order before p ≡ true
piece_in_order order before p rest all a h = in_one_order order before p rest (subst (λ l. AreIn order l) (sym a) h)

module _ (codec : Codec) where
  -- an act that is refused changes nothing
  shut_answer : (e : Option ServerEntry) (reply : Reply) (n : ℕ) (lane after : Lane) → is_open e ≡ false
      → Stands codec lane → Goes codec (tried (server_step e (event.Answer reply n)).outcome lane after)
  shut_answer None reply n lane after h st = st
  shut_answer (Some (at_server.Gathering kind)) reply n lane after h st = st
  shut_answer (Some (at_server.Asked request)) reply n lane after h st = absurd cc
  shut_answer (Some (at_server.Undecoded call)) reply n lane after h st = absurd cc
  shut_answer (Some (at_server.LocateAsked request)) reply n lane after h st = absurd cc
  shut_answer (Some (at_server.Answered asked r left)) reply n lane after h st = st
  shut_answer (Some (at_server.LocateAnswered target here)) reply n lane after h st = st
  shut_answer (Some (at_server.Delivered request)) reply n lane after h st = st
  shut_answer (Some (at_server.Cancelled was left)) reply n lane after h st = st

  shut_locate : (e : Option ServerEntry) (here : Bool) (lane after : Lane) → is_open e ≡ false
      → Stands codec lane → Goes codec (tried (server_step e (event.AnswerLocate here)).outcome lane after)
  shut_locate None here lane after h st = st
  shut_locate (Some (at_server.Gathering kind)) here lane after h st = st
  shut_locate (Some (at_server.Asked request)) here lane after h st = absurd cc
  shut_locate (Some (at_server.Undecoded call)) here lane after h st = absurd cc
  shut_locate (Some (at_server.LocateAsked request)) here lane after h st = absurd cc
  shut_locate (Some (at_server.Answered asked r left)) here lane after h st = st
  shut_locate (Some (at_server.LocateAnswered target h)) here lane after e st = st
  shut_locate (Some (at_server.Delivered request)) here lane after h st = st
  shut_locate (Some (at_server.Cancelled was left)) here lane after h st = st

  denied : (b : Bool) (e : Option ServerEntry) (one : ServerEntry) (lane after : Lane) → b ≡ true → Stands codec lane
      → Goes codec (tried (if b then refused e NothingToSend else becomes one).outcome lane after)
  denied true e one lane after h st = st
  denied false e one lane after h st = absurd cc

  silent_send : (e : ServerEntry) (lane after : Lane) → (left_of e == 0) ≡ true
      → Stands codec lane → Goes codec (tried (send (Some e)).outcome lane after)
  silent_send (at_server.Gathering kind) lane after h st = st
  silent_send (at_server.Asked request) lane after h st = st
  silent_send (at_server.Undecoded call) lane after h st = st
  silent_send (at_server.LocateAsked request) lane after h st = st
  silent_send (at_server.Answered asked r left) lane after h st = denied (left == 0) _ _ lane after h st
  silent_send (at_server.LocateAnswered target here) lane after h st = st
  silent_send (at_server.Delivered request) lane after h st = st
  silent_send (at_server.Cancelled was left) lane after h st = denied (left == 0) _ _ lane after h st

  -- where the server ends still, it is still
  reach_still : (s : Server) (ts : List Message) (t : Server) → Reaches codec s ts t → is_still t.entry ≡ true → is_still s.entry ≡ true
  reach_still s [] t r h = subst (λ x. is_still x.entry ≡ true) (sym r) h
  reach_still s (m ∷ ts) t r h = r.0

  -- the server has a call before it that it may answer, and what stands once it did
  record Asks (c : Option ClientEntry) (got : List Piece) (uses : ℕ) (us ts : List Message) (s : Server) (ws tc : List Message) : Type 0 where
    call : Call
    waits : sent call ≡ at_client.Waiting call
    at_it : s ≡ read_at call uses
    no_rest : ws ≡ []
    no_pipe : tc ≡ []
    then_stands : (g : Given) (t : Server) (xs ys : List Message) → call_of g ≡ call
        → Replying codec g t xs ys uses (told_by g) → Phase codec c got uses us ts t xs ys

  asks_or_shut : (call : Call) (c : Option ClientEntry) (got : List Piece) (uses : ℕ) (us before ts : List Message) (s : Server) (ws tc : List Message)
      → sent call ≡ at_client.Waiting call → Quiet codec s before ws tc (read_at call uses)
      → (before ≡ [] → (g : Given) (t : Server) (xs ys : List Message) → call_of g ≡ call
      → Replying codec g t xs ys uses (told_by g) → Phase codec c got uses us ts t xs ys)
      → (is_open s.entry ≡ false) ⊎ Asks c got uses us ts s ws tc
  asks_or_shut call c got uses us [] ts s ws tc w (e, f, r) k = inr (record {
    call = call;
    waits = w;
    at_it = r;
    no_rest = e;
    no_pipe = f;
    then_stands = k refl;
  })
  asks_or_shut call c got uses us (m ∷ before) ts s ws tc w (e, f, r) k = inl (still_shut s.entry r.0)

  replying_shut : (g : Given) (s : Server) (ws tc : List Message) (uses : ℕ) (ms : List Message)
      → Replying codec g s ws tc uses ms → is_open s.entry ≡ false
  replying_shut g s ws tc uses ms r = subst (λ x. is_open x.entry ≡ false) (sym r.stands) (by g r.left)
    where
      by : (g : Given) (left : ℕ) → is_open (Some (answered g left)) ≡ false
      by (Replied q r n) left = refl
      by (Located q here piece told) left = refl

  oneway_still : (q : Request) (b : Bool) → b ≡ true → is_still (Some (if b then at_server.Delivered q else at_server.Asked q)) ≡ true
  oneway_still q true h = refl
  oneway_still q false h = absurd cc

  open_or_shut : (c : Option ClientEntry) (got : List Piece) (uses : ℕ) (us ts : List Message) (s : Server) (ws tc : List Message)
      → Phase codec c got uses us ts s ws tc → (is_open s.entry ≡ false) ⊎ Asks c got uses us ts s ws tc
  open_or_shut None got uses us ts s ws tc (u, (e, f, r)) = inl (still_shut _ (reach_still s ts _ r refl))
  open_or_shut (Some (at_client.Sending call left)) got uses us ts s ws tc (n, fit, b, rest, e, u, l, z, (x, y, r)) =
      inl (still_shut _ (reach_still s ts _ r refl))
  open_or_shut (Some (at_client.Waiting call)) got uses us ts s ws tc (u, w, inl q) =
      asks_or_shut call _ got uses us ts ts s ws tc w q (λ none g t xs ys e r. (u, w, inr (g, e, none, r)))
  open_or_shut (Some (at_client.Waiting call)) got uses us ts s ws tc (u, w, inr (g, e, t, r)) = inl (replying_shut g s ws tc uses _ r)
  open_or_shut (Some (at_client.Gathering call)) got uses us ts s ws tc (u, g, e, t, p, rest, a, r) = inl (replying_shut g s ws tc uses _ r)
  open_or_shut (Some (at_client.Done q r)) got uses us ts s ws tc (u, t, n, is) = inl (replying_shut _ s ws tc uses _ is)
  open_or_shut (Some (at_client.LocateDone q r)) got uses us ts s ws tc (u, t, here, e, is) = inl (replying_shut _ s ws tc uses _ is)
  open_or_shut (Some (at_client.Undecoded call fault)) got uses us ts s ws tc st = absurd st
  open_or_shut (Some (at_client.OnewaySent q)) got uses us ts s ws tc (u, o, (x, y, r)) =
      inl (still_shut _ (reach_still s ts _ r (oneway_still q (is_oneway q) o)))
  open_or_shut (Some (at_client.Cancelled l)) got uses us ts s ws tc (u, Stopping before t e a (inl (k, ps, is)) (x, y, r)) =
      inl (still_shut _ (reach_still s before t r (rw is refl)))
  open_or_shut (Some (at_client.Cancelled l)) got uses us ts s ws tc (u, Stopping before t e a (inr (call, w, is)) q) =
      asks_or_shut call _ got uses us before ts s ws tc w (subst (λ x. Quiet codec s before ws tc x) is q)
      (λ none g t xs ys c r. (
        u,
        Crossing g (told_by g) (a ∙ ap (λ l. l ++ Stops ∷ []) none) r
            (subst (λ x. Coming x (told_by g)) (sym e) (_, _, _, _, refl)),
      ))
  open_or_shut (Some (at_client.Cancelled l)) got uses us ts s ws tc (u, Stopped e a x y is) = inl (rw is refl)
  open_or_shut (Some (at_client.Cancelled l)) got uses us ts s ws tc (u, Crossing g ms a r c) = inl (replying_shut g s ws tc uses _ r)
  open_or_shut (Some (at_client.Cancelled l)) got uses us ts s ws tc (u, Crossed left a is x c) = inl (rw is refl)

  -- the server answers a Request
  fit_answer : (c : Option ClientEntry) (got : List Piece) (uses : ℕ) (us ts : List Message) (q : Request) (reply : Reply) (n : Cut)
      (b : Bool) → is_same_version q.head.version reply.version ≡ b → CutsReply codec q reply (pieces_of n)
      → Phase codec c got uses us ts (at (at_server.Asked q) [] uses) [] []
      → ((g : Given) (t : Server) (xs ys : List Message) → call_of g ≡ asked.Request q
      → Replying codec g t xs ys uses (told_by g) → Phase codec c got uses us ts t xs ys)
      → Goes codec (let one = (if b then becomes (at_server.Answered (question.Request q) reply (count n - 1))
      else refused (Some (at_server.Asked q)) Unfit) in
      tried one.outcome (lane_of c got uses us ts (at (at_server.Asked q) [] uses) [] [])
      (lane_of c got uses us ts (record { entry = one.entry; pieces = []; uses = uses })
      (fragments n.rest) (Opens kind.Request reply.version (is_last n.rest) n.first ∷ [])))
  fit_answer c got uses us ts q reply n true same fit st k = k (Replied q reply n) _ _ _ refl (record {
    fits = (fit, same);
    left = count n - 1;
    stands = refl;
    has = tt;
    rest = length_of n.rest ∙ one_less n.first n.rest (count n) refl;
    coming = refl;
  })
  fit_answer c got uses us ts q reply n false same fit st k = st

  request_answer : (c : Option ClientEntry) (got : List Piece) (uses : ℕ) (us ts : List Message) (q : Request) (reply : Reply) (n : Cut)
      (b : Bool) → b ≡ false
      → ((p : Request) → Some (if b then at_server.Delivered q else at_server.Asked q) ≡ Some (at_server.Asked p)
      → CutsReply codec p reply (pieces_of n))
      → Phase codec c got uses us ts (at (if b then at_server.Delivered q else at_server.Asked q) [] uses) [] []
      → ((g : Given) (t : Server) (xs ys : List Message) → call_of g ≡ asked.Request q
      → Replying codec g t xs ys uses (told_by g) → Phase codec c got uses us ts t xs ys)
      → Goes codec (step codec (lane_of c got uses us ts (at (if b then at_server.Delivered q else at_server.Asked q) [] uses) [] []) (Answers reply n))
  request_answer c got uses us ts q reply n true h fit st k = absurd cc
  request_answer c got uses us ts q reply n false h fit st k =
      fit_answer c got uses us ts q reply n (is_same_version q.head.version reply.version) refl (fit q refl) st k

  answer_at : (call : Call) (c : Option ClientEntry) (got : List Piece) (uses : ℕ) (us ts : List Message) (reply : Reply) (n : Cut)
      → sent call ≡ at_client.Waiting call
      → ((p : Request) → (read_at call uses).entry ≡ Some (at_server.Asked p) → CutsReply codec p reply (pieces_of n))
      → Phase codec c got uses us ts (read_at call uses) [] []
      → ((g : Given) (t : Server) (xs ys : List Message) → call_of g ≡ call
      → Replying codec g t xs ys uses (told_by g) → Phase codec c got uses us ts t xs ys)
      → Goes codec (step codec (lane_of c got uses us ts (read_at call uses) [] []) (Answers reply n))
  answer_at (asked.Request q) c got uses us ts reply n w fit st k =
      request_answer c got uses us ts q reply n (is_oneway q) (waits q (is_oneway q) w) fit st k
  answer_at (asked.Locate q) c got uses us ts reply n w fit st k = st

  -- and a LocateRequest
  request_locate : (c : Option ClientEntry) (got : List Piece) (uses : ℕ) (us ts : List Message) (q : Request) (here : Bool) (piece : Piece)
      (b : Bool) → b ≡ false
      → Phase codec c got uses us ts (at (if b then at_server.Delivered q else at_server.Asked q) [] uses) [] []
      → Goes codec (step codec (lane_of c got uses us ts (at (if b then at_server.Delivered q else at_server.Asked q) [] uses) [] []) (Locates here piece))
  request_locate c got uses us ts q here piece true h st = absurd cc
  request_locate c got uses us ts q here piece false h st = st

  locate_at : (call : Call) (c : Option ClientEntry) (got : List Piece) (uses : ℕ) (us ts : List Message) (here : Bool) (piece : Piece)
      → sent call ≡ at_client.Waiting call
      → ((p : _) → (read_at call uses).entry ≡ Some (at_server.LocateAsked p) → (told : LocateReply) × CutsLocated codec p here piece told)
      → Phase codec c got uses us ts (read_at call uses) [] []
      → ((g : Given) (t : Server) (xs ys : List Message) → call_of g ≡ call
      → Replying codec g t xs ys uses (told_by g) → Phase codec c got uses us ts t xs ys)
      → Goes codec (step codec (lane_of c got uses us ts (read_at call uses) [] []) (Locates here piece))
  locate_at (asked.Request q) c got uses us ts here piece w fit st k =
      request_locate c got uses us ts q here piece (is_oneway q) (waits q (is_oneway q) w) st
  locate_at (asked.Locate q) c got uses us ts here piece w fit st k = k (Located q here piece (fit q refl).0) _ _ _ refl (record {
    fits = (fit q refl).1;
    left = 0;
    stands = refl;
    has = refl;
    rest = refl;
    coming = refl;
  })

  -- a lane at which the server is asked, seen as one
  moved : (act : Act) (c : Option ClientEntry) (got : List Piece) (uses : ℕ) (us ts : List Message) (s t : Server) (ws tc : List Message)
      → s ≡ t → ws ≡ [] → tc ≡ [] → Phase codec c got uses us ts s ws tc
      → (Phase codec c got uses us ts t [] [] → Goes codec (step codec (lane_of c got uses us ts t [] []) act))
      → Goes codec (step codec (lane_of c got uses us ts s ws tc) act)
  moved act c got uses us ts s t ws tc e f h st k =
      subst (λ x. Goes codec (step codec (lane_of c got uses us ts x ws tc) act)) (sym e)
      (subst (λ x. Goes codec (step codec (lane_of c got uses us ts t x tc) act)) (sym f)
      (subst (λ x. Goes codec (step codec (lane_of c got uses us ts t [] x) act)) (sym h)
      (k (subst (λ x. Phase codec c got uses us ts t [] x) h (subst (λ x. Phase codec c got uses us ts t x tc) f
      (subst (λ x. Phase codec c got uses us ts x ws tc) e st))))))

  answer_by : (c : Option ClientEntry) (got : List Piece) (uses : ℕ) (us ts : List Message) (s : Server) (ws tc : List Message) (reply : Reply) (n : Cut)
      → ((p : Request) → s.entry ≡ Some (at_server.Asked p) → CutsReply codec p reply (pieces_of n))
      → Phase codec c got uses us ts s ws tc → (is_open s.entry ≡ false) ⊎ Asks c got uses us ts s ws tc
      → Goes codec (step codec (lane_of c got uses us ts s ws tc) (Answers reply n))
  answer_by c got uses us ts s ws tc reply n fit st (inl h) = shut_answer s.entry reply (count n) _ _ h st
  answer_by c got uses us ts s ws tc reply n fit st (inr a) = moved (Answers reply n) c got uses us ts s _ ws tc a.at_it a.no_rest a.no_pipe st
      (λ st. answer_at a.call c got uses us ts reply n a.waits
      (λ p e. fit p (subst (λ x. x.entry ≡ Some (at_server.Asked p)) (sym a.at_it) e)) st a.then_stands)

  locate_by : (c : Option ClientEntry) (got : List Piece) (uses : ℕ) (us ts : List Message) (s : Server) (ws tc : List Message) (here : Bool) (piece : Piece)
      → ((p : _) → s.entry ≡ Some (at_server.LocateAsked p) → (told : LocateReply) × CutsLocated codec p here piece told)
      → Phase codec c got uses us ts s ws tc → (is_open s.entry ≡ false) ⊎ Asks c got uses us ts s ws tc
      → Goes codec (step codec (lane_of c got uses us ts s ws tc) (Locates here piece))
  locate_by c got uses us ts s ws tc here piece fit st (inl h) = shut_locate s.entry here _ _ h st
  locate_by c got uses us ts s ws tc here piece fit st (inr a) = moved (Locates here piece) c got uses us ts s _ ws tc a.at_it a.no_rest a.no_pipe st
      (λ st. locate_at a.call c got uses us ts here piece a.waits
      (λ p e. fit p (subst (λ x. x.entry ≡ Some (at_server.LocateAsked p)) (sym a.at_it) e)) st a.then_stands)

  pub keeps_answer : (lane : Lane) (reply : Reply) (n : Cut) → Suits codec lane (Answers reply n) → Stands codec lane
      → Goes codec (step codec lane (Answers reply n))
  keeps_answer lane reply n fit st = answer_by _ _ _ _ _ _ _ _ reply n fit st (open_or_shut lane.client.entry lane.client.pieces lane.client.uses
      lane.unsent lane.to_server lane.server lane.unanswered lane.to_client st)

  pub keeps_locate : (lane : Lane) (here : Bool) (piece : Piece) → Suits codec lane (Locates here piece) → Stands codec lane
      → Goes codec (step codec lane (Locates here piece))
  keeps_locate lane here piece fit st = locate_by _ _ _ _ _ _ _ _ here piece fit st (open_or_shut lane.client.entry lane.client.pieces lane.client.uses
      lane.unsent lane.to_server lane.server lane.unanswered lane.to_client st)

  -- the server has nothing to send, or this is what it sends and what stands once it did
  Silent : Option ServerEntry → Type 0
  Silent e = (e ≡ None) ⊎ ((one : ServerEntry) × (e ≡ Some one) × ((left_of one == 0) ≡ true))

  record Sending (s : Server) (ws tc : List Message) (uses : ℕ) : Type 0 where
    before : ServerEntry
    now : ServerEntry
    message : Message
    rest : List Message
    at_it : s ≡ at before [] uses
    is : ws ≡ message ∷ rest
    sends : send (Some before) ≡ becomes now

  sends_left : (b : Bool) (before now : ServerEntry) → b ≡ false
      → (if b then refused (Some before) NothingToSend else becomes now) ≡ becomes now
  sends_left true before now h = absurd cc
  sends_left false before now h = refl

  silent_given : (g : Given) (left : ℕ) → 0 ≡ left → (left_of (answered g left) == 0) ≡ true
  silent_given (Replied q r n) left e = subst (λ x. (x == 0) ≡ true) e refl
  silent_given (Located q here piece told) left e = refl

  passes : (ws tc ms : List Message) (m : Message) (rest : List Message) → ws ≡ m ∷ rest → tc ++ ws ≡ ms → (tc ++ m ∷ []) ++ rest ≡ ms
  passes ws tc ms m rest e c = append_assoc tc (m ∷ []) rest ∙ ap (λ x. tc ++ x) (sym e) ∙ c

  replying_sends : (g : Given) (s : Server) (ws tc : List Message) (uses : ℕ) (ms : List Message)
      → Replying codec g s ws tc uses ms → Silent s.entry ⊎ ((x : Sending s ws tc uses)
      × Replying codec g (at x.now [] uses) x.rest (tc ++ x.message ∷ []) uses ms)
  unfolding Silent
  replying_sends g s [] tc uses ms r = inl (inr (answered g r.left, ap (λ x. x.entry) r.stands, silent_given g r.left r.rest))
  replying_sends (Located q here piece told) s (m ∷ rest) tc uses ms r =
      absurd (false_true (subst (λ x. (x == 0) ≡ false) r.has (not_none m rest r.left r.rest)))
    where
      false_true : true ≡ false → ⊥
      false_true e = absurd cc
  replying_sends (Replied q reply n) s (m ∷ rest) tc uses ms r = inr (
    record {
      before = at_server.Answered (question.Request q) reply r.left;
      now = at_server.Answered (question.Request q) reply (r.left - 1);
      message = m;
      rest = rest;
      at_it = r.stands;
      is = refl;
      sends = sends_left (r.left == 0) _ _ (not_none m rest r.left r.rest);
    },
    record {
      fits = r.fits;
      left = r.left - 1;
      stands = refl;
      has = tt;
      rest = one_less m rest r.left r.rest;
      coming = passes (m ∷ rest) tc ms m rest refl r.coming;
    },
  )

  crossed_sends : (left : ℕ) (s : Server) (ws tc : List Message) (uses : ℕ) → s ≡ at (at_server.Cancelled true left) [] uses
      → length ws ≡ left → Silent s.entry ⊎ ((x : Sending s ws tc uses) × (x.now ≡ at_server.Cancelled true (left - 1)) × (length x.rest ≡ left - 1))
  unfolding Silent
  crossed_sends left s [] tc uses e h = inl (inr (_, ap (λ x. x.entry) e, subst (λ x. (x == 0) ≡ true) h refl))
  crossed_sends left s (m ∷ rest) tc uses e h = inr (
    record {
      before = at_server.Cancelled true left;
      now = at_server.Cancelled true (left - 1);
      message = m;
      rest = rest;
      at_it = e;
      is = refl;
      sends = sends_left (left == 0) _ _ (not_none m rest left h);
    },
    refl,
    one_less m rest left h,
  )

  send_one : (c : Option ClientEntry) (got : List Piece) (uses : ℕ) (us ts : List Message) (s : Server) (ws tc : List Message)
      (x : Sending s ws tc uses) → Phase codec c got uses us ts (at x.now [] uses) x.rest (tc ++ x.message ∷ [])
      → Goes codec (step codec (lane_of c got uses us ts s ws tc) SendsReply)
  send_one c got uses us ts s ws tc x st =
      subst (λ y. Goes codec (step codec (lane_of c got uses us ts y ws tc) SendsReply)) (sym x.at_it)
      (subst (λ y. Goes codec (step codec (lane_of c got uses us ts (at x.before [] uses) y tc) SendsReply)) (sym x.is)
      (subst (λ y. Goes codec (tried y.outcome (lane_of c got uses us ts (at x.before [] uses) (x.message ∷ x.rest) tc)
      (lane_of c got uses us ts (record { entry = y.entry; pieces = []; uses = uses }) x.rest (tc ++ x.message ∷ [])))) (sym x.sends) st))

  no_send : (c : Option ClientEntry) (got : List Piece) (uses : ℕ) (us ts : List Message) (s : Server) (ws tc : List Message)
      → Silent s.entry → Phase codec c got uses us ts s ws tc
      → Goes codec (step codec (lane_of c got uses us ts s ws tc) SendsReply)
  unfolding Silent
  no_send c got uses us ts s ws tc (inl e) st = subst (λ y. Goes codec (tried (send y).outcome (lane_of c got uses us ts s ws tc)
      (record (lane_of c got uses us ts s ws tc) { server = record s { entry = (send y).entry }; to_client = tc ++ next ws; unanswered = later ws })))
      (sym e) st
  no_send c got uses us ts s ws tc (inr (one, e, h)) st = subst (λ y. Goes codec (tried (send y).outcome (lane_of c got uses us ts s ws tc)
      (record (lane_of c got uses us ts s ws tc) { server = record s { entry = (send y).entry }; to_client = tc ++ next ws; unanswered = later ws })))
      (sym e) (silent_send one _ _ h st)

  still_silent_send : (c : Option ClientEntry) (got : List Piece) (uses : ℕ) (us ts : List Message) (s : Server) (ws tc : List Message)
      → is_still s.entry ≡ true → Phase codec c got uses us ts s ws tc
      → Goes codec (step codec (lane_of c got uses us ts s ws tc) SendsReply)
  unfolding Silent
  still_silent_send c got uses us ts s ws tc h st = no_send c got uses us ts s ws tc (still_silent s.entry h) st

  asked_silent : (q : Request) (b : Bool) → (left_of (if b then at_server.Delivered q else at_server.Asked q) == 0) ≡ true
  asked_silent q true = refl
  asked_silent q false = refl

  read_silent : (call : Call) (uses : ℕ) (s : Server) → s ≡ read_at call uses → Silent s.entry
  unfolding Silent
  read_silent (asked.Request q) uses s e = inr (_, ap (λ x. x.entry) e, asked_silent q (is_oneway q))
  read_silent (asked.Locate q) uses s e = inr (_, ap (λ x. x.entry) e, refl)

  quiet_send : (call : Call) (c : Option ClientEntry) (got : List Piece) (uses : ℕ) (us before ts : List Message) (s : Server) (ws tc : List Message)
      → Reaches codec s before (read_at call uses) → Phase codec c got uses us ts s ws tc
      → Goes codec (step codec (lane_of c got uses us ts s ws tc) SendsReply)
  quiet_send call c got uses us [] ts s ws tc r st = no_send c got uses us ts s ws tc (read_silent call uses s r) st
  quiet_send call c got uses us (m ∷ before) ts s ws tc r st = still_silent_send c got uses us ts s ws tc r.0 st

  replying_send : (g : Given) (ms : List Message)
      (c : Option ClientEntry) (got : List Piece) (uses : ℕ) (us ts : List Message) (s : Server) (ws tc : List Message)
      → Phase codec c got uses us ts s ws tc
      → ((t : Server) (xs ys : List Message) → Replying codec g t xs ys uses ms → Phase codec c got uses us ts t xs ys)
      → Silent s.entry ⊎ ((x : Sending s ws tc uses) × Replying codec g (at x.now [] uses) x.rest (tc ++ x.message ∷ []) uses ms)
      → Goes codec (step codec (lane_of c got uses us ts s ws tc) SendsReply)
  replying_send g ms c got uses us ts s ws tc st k (inl h) = no_send c got uses us ts s ws tc h st
  replying_send g ms c got uses us ts s ws tc st k (inr (x, r)) = send_one c got uses us ts s ws tc x (k _ _ _ r)

  replied_send : (g : Given) (ms : List Message)
      (c : Option ClientEntry) (got : List Piece) (uses : ℕ) (us ts : List Message) (s : Server) (ws tc : List Message)
      → Replying codec g s ws tc uses ms → Phase codec c got uses us ts s ws tc
      → ((t : Server) (xs ys : List Message) → Replying codec g t xs ys uses ms → Phase codec c got uses us ts t xs ys)
      → Goes codec (step codec (lane_of c got uses us ts s ws tc) SendsReply)
  replied_send g ms c got uses us ts s ws tc r st k = replying_send g ms c got uses us ts s ws tc st k (replying_sends g s ws tc uses ms r)

  crossed_send : (l : _) (left : ℕ) (got : List Piece) (uses : ℕ) (us ts : List Message) (s : Server) (ws tc : List Message)
      → Phase codec (Some (at_client.Cancelled l)) got uses us ts s ws tc → us ≡ [] → ts ≡ [] → Coming l (tc ++ ws)
      → Silent s.entry ⊎ ((x : Sending s ws tc uses) × (x.now ≡ at_server.Cancelled true (left - 1)) × (length x.rest ≡ left - 1))
      → Goes codec (step codec (lane_of (Some (at_client.Cancelled l)) got uses us ts s ws tc) SendsReply)
  crossed_send l left got uses us ts s ws tc st u t c (inl h) = no_send _ got uses us ts s ws tc h st
  crossed_send l left got uses us ts s ws tc st u t c (inr (x, e, h)) = send_one _ got uses us ts s ws tc x (
    u,
    Crossed (left - 1) t
        (ap (λ y. at y [] uses) e) h (subst (λ y. Coming l y) (sym (passes ws tc (tc ++ ws) x.message x.rest x.is refl)) c),
  )

  send_by : (c : Option ClientEntry) (got : List Piece) (uses : ℕ) (us ts : List Message) (s : Server) (ws tc : List Message)
      → Phase codec c got uses us ts s ws tc → Goes codec (step codec (lane_of c got uses us ts s ws tc) SendsReply)
  send_by None got uses us ts s ws tc (u, (e, f, r)) = still_silent_send None got uses us ts s ws tc (reach_still s ts _ r refl) (u, (e, f, r))
  send_by (Some (at_client.Sending call left)) got uses us ts s ws tc (n, fit, b, rest, e, u, l, z, (x, y, r)) =
      still_silent_send _ got uses us ts s ws tc (reach_still s ts _ r refl) (n, fit, b, rest, e, u, l, z, (x, y, r))
  send_by (Some (at_client.Waiting call)) got uses us ts s ws tc (u, w, inl (x, y, r)) =
      quiet_send call _ got uses us ts ts s ws tc r (u, w, inl (x, y, r))
  send_by (Some (at_client.Waiting call)) got uses us ts s ws tc (u, w, inr (g, e, t, r)) =
      replied_send g _ _ got uses us ts s ws tc r (u, w, inr (g, e, t, r)) (λ s ws tc r. (u, w, inr (g, e, t, r)))
  send_by (Some (at_client.Gathering call)) got uses us ts s ws tc (u, g, e, t, p, rest, a, r) =
      replied_send g _ _ got uses us ts s ws tc r (u, g, e, t, p, rest, a, r) (λ s ws tc r. (u, g, e, t, p, rest, a, r))
  send_by (Some (at_client.Done q r)) got uses us ts s ws tc (u, t, n, is) =
      replied_send _ _ _ got uses us ts s ws tc is (u, t, n, is) (λ s ws tc is. (u, t, n, is))
  send_by (Some (at_client.LocateDone q r)) got uses us ts s ws tc (u, t, here, e, is) =
      replied_send _ _ _ got uses us ts s ws tc is (u, t, here, e, is) (λ s ws tc is. (u, t, here, e, is))
  send_by (Some (at_client.Undecoded call fault)) got uses us ts s ws tc st = absurd st
  send_by (Some (at_client.OnewaySent q)) got uses us ts s ws tc (u, o, (x, y, r)) = still_silent_send _ got uses us ts s ws tc
      (reach_still s ts _ r (oneway_still q (is_oneway q) o)) (u, o, (x, y, r))
  send_by (Some (at_client.Cancelled l)) got uses us ts s ws tc (u, Stopping before t e a (inl (k, ps, is)) (x, y, r)) =
      still_silent_send _ got uses us ts s ws tc (reach_still s before t r (rw is refl)) (u, Stopping before t e a (inl (k, ps, is)) (x, y, r))
  send_by (Some (at_client.Cancelled l)) got uses us ts s ws tc (u, Stopping before t e a (inr (call, w, is)) (x, y, r)) =
      quiet_send call _ got uses us before ts s ws tc (subst (λ x. Reaches codec s before x) is r)
      (u, Stopping before t e a (inr (call, w, is)) (x, y, r))
  send_by (Some (at_client.Cancelled l)) got uses us ts s ws tc (u, Stopped e a x y is) =
      still_silent_send _ got uses us ts s ws tc (rw is refl) (u, Stopped e a x y is)
  send_by (Some (at_client.Cancelled l)) got uses us ts s ws tc (u, Crossing g ms a r c) =
      replied_send g ms _ got uses us ts s ws tc r (u, Crossing g ms a r c) (λ s ws tc r. (u, Crossing g ms a r c))
  send_by (Some (at_client.Cancelled l)) got uses us ts s ws tc (u, Crossed left a is x c) =
      crossed_send l left got uses us ts s ws tc (u, Crossed left a is x c) u a c (crossed_sends left s ws tc uses is x)

  pub keeps_send : (lane : Lane) → Stands codec lane → Goes codec (step codec lane SendsReply)
  keeps_send lane st = send_by lane.client.entry lane.client.pieces lane.client.uses
      lane.unsent lane.to_server lane.server lane.unanswered lane.to_client st
