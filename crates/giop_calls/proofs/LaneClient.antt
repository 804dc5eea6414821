-- What stands on a lane stands behind every act of the client.
use Rattle.std.specs.Prelude.{◌≡◌, ℕ, ◌+◌, ◌-◌, ◌==◌, Bool, true, false, if◌then◌else◌, List, [], ◌∷◌, ◌++◌, length, Option, Some, None, refl}
use Rattle.std.proofs.Common.{sym, subst, ap, ◌∙◌, inl, inr, append_assoc}
use Rattle.giop_msg.specs.declared.messages.request.Request.{Request}
use Rattle.giop_calls.specs.declared.fault.CallFault.TheVariants.{IdInUse, OrderDiffers}
use Rattle.giop_calls.specs.declared.kind.CallKind.{CallKind}
use Rattle.giop_calls.specs.declared.client.call.Call.{Call}
use Rattle.giop_calls.specs.declared.client.call.Call.TheVariants as asked
use Rattle.giop_calls.specs.declared.client.late.Late.TheVariants as late
use Rattle.giop_calls.specs.declared.client.entry.ClientEntry.{ClientEntry}
use Rattle.giop_calls.specs.declared.client.entry.ClientEntry.TheVariants as at_client
use Rattle.giop_calls.specs.declared.server.entry.ServerEntry.{ServerEntry}
use Rattle.giop_calls.specs.declared.server.entry.ServerEntry.TheVariants as at_server
use Rattle.giop_calls.specs.Messages.{is_oneway}
use Rattle.giop_calls.specs.ClientTable as client
use Rattle.giop_calls.specs.ServerTable as server
use Rattle.giop_calls.specs.Lane.{Piece, Message, Opens, Continues, Stops, Cut, pieces_of, count, in_order, Codec, CutsCall, Lane, kind_of, version_of, heard_call, is_last, fragments, taken, served, Calls, step, calls, sends, cancels}
use Rattle.giop_calls.proofs.LaneStands.{is_still, Server, at, read_at, Given, Replied, Located, answered, told_by, Reaches, Quiet, Replying, Behind, Stopping, Stopped, Crossing, Crossed, Phase, Stands, Goes, lane_of}
use Rattle.giop_calls.proofs.LaneServer.{not_none, one_less, no_length, piece_in_order}
use Rattle.giop_calls.proofs.LanePipes.{stops_given}

pub none_left : (tc ws : List Message) → tc ++ ws ≡ [] → (tc ≡ []) × (ws ≡ [])
none_left [] ws e = (refl, e)
none_left (m ∷ tc) ws e = absurd cc

pub nothing : (n : ℕ) → 0 ≡ n → (n == 0) ≡ true
nothing n e = subst (λ x. (x == 0) ≡ true) e refl

module _ (codec : Codec) where
  -- the server reads a message more
  reach_on : (s : Server) (ts : List Message) (t mid : Server) (m : Message) → Reaches codec s ts t → is_still t.entry ≡ true
      → served codec t m ≡ Some mid → Reaches codec s (ts ++ m ∷ []) mid
  reach_on s [] t mid m r h e = (
    subst (λ x. is_still x.entry ≡ true) (sym r) h,
    (mid, subst (λ x. served codec x m ≡ Some mid) (sym r) e, refl),
  )
  reach_on s (x ∷ ts) t mid m (h', (one, e', r)) h e = (h', (one, e', reach_on one ts t mid m r h e))

  -- the id may be used again: the server comes to the end of the former call by what is on its way
  record Idle (uses : ℕ) (ts : List Message) (s : Server) (ws tc : List Message) : Type 0 where
    no_rest : ws ≡ []
    no_pipe : tc ≡ []
    comes_to : Server
    reaches : Reaches codec s ts comes_to
    still : is_still comes_to.entry ≡ true
    free : server.is_free comes_to.entry ≡ true
    used : comes_to.uses ≡ uses

  begin_by : (b : Bool) (v : Option ServerEntry) (one : ServerEntry) (pieces : List Piece) (n uses : ℕ) → b ≡ true → n ≡ uses
      → taken {A = Server} (if b then server.becomes one else server.refused v IdInUse).outcome
      (record { entry = (if b then server.becomes one else server.refused v IdInUse).entry; pieces = pieces; uses = n + 1 })
      ≡ Some (at one pieces (uses + 1))
  begin_by true v one pieces n uses h e = ap (λ x. Some (at one pieces (x + 1))) e
  begin_by false v one pieces n uses h e = absurd cc

  -- what stands for a call all of which was put out
  sent_request : (q : Request) (b : Bool) (got : List Piece) (uses : ℕ) (ts : List Message) (s : Server) (ws tc : List Message)
      → is_oneway q ≡ b → Quiet codec s ts ws tc (read_at (asked.Request q) uses)
      → Phase codec (Some (if b then at_client.OnewaySent q else at_client.Waiting (asked.Request q))) got uses [] ts s ws tc
  sent_request q true got uses ts s ws tc o r = (refl, o, r)
  sent_request q false got uses ts s ws tc o r = (refl, rw o refl, inl r)

  sent_phase : (call : Call) (got : List Piece) (uses : ℕ) (ts : List Message) (s : Server) (ws tc : List Message)
      → Quiet codec s ts ws tc (read_at call uses) → Phase codec (Some (client.sent call)) got uses [] ts s ws tc
  sent_phase (asked.Request q) got uses ts s ws tc r = sent_request q (is_oneway q) got uses ts s ws tc refl r
  sent_phase (asked.Locate q) got uses ts s ws tc r = (refl, refl, inl r)

  sending_phase : (b : Bool) (call : Call) (left : ℕ) (got : List Piece) (uses : ℕ) (us ts : List Message) (s : Server) (ws tc : List Message)
      → b ≡ false → Phase codec (Some (at_client.Sending call left)) got uses us ts s ws tc
      → Phase codec (Some (if b then client.sent call else at_client.Sending call left)) got uses us ts s ws tc
  sending_phase true call left got uses us ts s ws tc h st = absurd cc
  sending_phase false call left got uses us ts s ws tc h st = st

  -- a call begins
  begun_by : (call : Call) (n : Cut) (got : List Piece) (uses : ℕ) (ts : List Message) (s : Server) (ws tc : List Message) (rest : List Piece)
      → n.rest ≡ rest → length rest ≡ count n - 1 → CutsCall codec call (pieces_of n) → Idle uses ts s ws tc
      → Phase codec (Some (client.sending call (count n - 1))) got (uses + 1) (fragments rest)
      (ts ++ Opens (kind_of call) (version_of call) (is_last rest) n.first ∷ []) s ws tc
  begun_by call n got uses ts s ws tc [] e l fit i =
      subst (λ x. Phase codec (Some (client.sending call x)) got (uses + 1) []
      (ts ++ Opens (kind_of call) (version_of call) true n.first ∷ []) s ws tc) l
      (sent_phase call got (uses + 1) _ s ws tc (
        i.no_rest,
        i.no_pipe,
        reach_on s ts i.comes_to (read_at call (uses + 1)) _ i.reaches i.still
            (subst (λ x. served codec i.comes_to (Opens (kind_of call) (version_of call) true n.first)
            ≡ Some (at (server.arrived x) [] (uses + 1)))
            (subst (λ l. codec.read_call (n.first ∷ l) ≡ heard_call call) e (fit.read))
            (begin_by (server.is_free i.comes_to.entry) i.comes_to.entry _ [] i.comes_to.uses uses i.free i.used)),
      ))
  begun_by call n got uses ts s ws tc (p ∷ rest) e l fit i =
      sending_phase ((count n - 1) == 0) call (count n - 1) got (uses + 1) _ _ s ws tc (not_none p rest (count n - 1) l) (
        n,
        fit,
        n.first ∷ [],
        p ∷ rest,
        ap (λ l. n.first ∷ l) (sym e),
        refl,
        l,
        not_none p rest (count n - 1) l,
        (
          i.no_rest,
          i.no_pipe,
          reach_on s ts i.comes_to (at (at_server.Gathering (kind_of call)) (n.first ∷ []) (uses + 1)) _ i.reaches i.still
              (begin_by (server.is_free i.comes_to.entry) i.comes_to.entry _ _ i.comes_to.uses uses i.free i.used),
        ),
      )

  begun : (call : Call) (n : Cut) (got : List Piece) (uses : ℕ) (ts : List Message) (s : Server) (ws tc : List Message)
      → CutsCall codec call (pieces_of n) → Idle uses ts s ws tc
      → Phase codec (Some (client.sending call (count n - 1))) got (uses + 1) (fragments n.rest)
      (ts ++ Opens (kind_of call) (version_of call) (is_last n.rest) n.first ∷ []) s ws tc
  begun call n got uses ts s ws tc fit i = begun_by call n got uses ts s ws tc n.rest refl (one_less n.first n.rest (count n) refl) fit i

  -- an answer all of which came
  given_still : (g : Given) (left : ℕ) → 0 ≡ left → is_still (Some (answered g left)) ≡ true
  given_still (Replied q r n) left e = nothing left e
  given_still (Located q here piece told) left e = refl

  given_free : (g : Given) (left : ℕ) → 0 ≡ left → server.is_free (Some (answered g left)) ≡ true
  given_free (Replied q r n) left e = nothing left e
  given_free (Located q here piece told) left e = refl

  idle_given : (g : Given) (uses : ℕ) (ts : List Message) (s : Server) (ws tc : List Message)
      → ts ≡ [] → Replying codec g s ws tc uses [] → Idle uses ts s ws tc
  idle_given g uses ts s ws tc t r =
      let none = none_left tc ws r.coming in
      let zero = sym (no_length ws r.left none.1 r.rest) in record {
        no_rest = none.1;
        no_pipe = none.0;
        comes_to = at (answered g r.left) [] uses;
        reaches = subst (λ x. Reaches codec s x (at (answered g r.left) [] uses)) (sym t) r.stands;
        still = given_still g r.left zero;
        free = given_free g r.left zero;
        used = refl;
      }

  idle_crossing : (g : Given) (uses : ℕ) (ts : List Message) (s : Server) (ws tc : List Message)
      → ts ≡ Stops ∷ [] → Replying codec g s ws tc uses [] → Idle uses ts s ws tc
  idle_crossing g uses ts s ws tc t r =
      let none = none_left tc ws r.coming in
      let zero = sym (no_length ws r.left none.1 r.rest) in record {
        no_rest = none.1;
        no_pipe = none.0;
        comes_to = at (at_server.Cancelled true r.left) [] uses;
        reaches = subst (λ x. Reaches codec s x (at (at_server.Cancelled true r.left) [] uses)) (sym t) (
          subst (λ x. is_still x.entry ≡ true) (sym r.stands) (given_still g r.left zero),
          (
            at (at_server.Cancelled true r.left) [] uses,
            subst (λ x. served codec x Stops ≡ Some (at (at_server.Cancelled true r.left) [] uses)) (sym r.stands)
                (stops_given codec g r.left uses r.has),
            refl,
          ),
        );
        still = nothing r.left zero;
        free = nothing r.left zero;
        used = refl;
      }

  idle_crossed : (left uses : ℕ) (ts : List Message) (s : Server) (ws tc : List Message) → ts ≡ []
      → s ≡ at (at_server.Cancelled true left) [] uses → length ws ≡ left → tc ++ ws ≡ [] → Idle uses ts s ws tc
  idle_crossed left uses ts s ws tc t e l c =
      let none = none_left tc ws c in
      let zero = sym (no_length ws left none.1 l) in record {
        no_rest = none.1;
        no_pipe = none.0;
        comes_to = at (at_server.Cancelled true left) [] uses;
        reaches = subst (λ x. Reaches codec s x (at (at_server.Cancelled true left) [] uses)) (sym t) e;
        still = nothing left zero;
        free = nothing left zero;
        used = refl;
      }

  oneway_free : (q : Request) (b : Bool) → b ≡ true
      → (is_still (Some (if b then at_server.Delivered q else at_server.Asked q)) ≡ true)
      × (server.is_free (Some (if b then at_server.Delivered q else at_server.Asked q)) ≡ true)
  oneway_free q true h = (refl, refl)
  oneway_free q false h = absurd cc

  idle_oneway : (q : Request) (uses : ℕ) (ts : List Message) (s : Server) (ws tc : List Message) → is_oneway q ≡ true
      → Quiet codec s ts ws tc (read_at (asked.Request q) uses) → Idle uses ts s ws tc
  idle_oneway q uses ts s ws tc o (x, y, r) = record {
    no_rest = x;
    no_pipe = y;
    comes_to = read_at (asked.Request q) uses;
    reaches = r;
    still = (oneway_free q (is_oneway q) o).0;
    free = (oneway_free q (is_oneway q) o).1;
    used = refl;
  }

  idle_late : (uses : ℕ) (ts : List Message) (s : Server) (ws tc : List Message) → Behind codec late.Seen uses ts s ws tc → Idle uses ts s ws tc
  idle_late uses ts s ws tc (Stopping before t e a may q) = absurd cc
  idle_late uses ts s ws tc (Stopped e a x y is) = absurd cc
  idle_late uses ts s ws tc (Crossing g ms a r c) = idle_crossing g uses ts s ws tc a (subst (λ x. Replying codec g s ws tc uses x) c r)
  idle_late uses ts s ws tc (Crossed left a is x c) = idle_crossed left uses ts s ws tc a is x c

  call_by : (call : Call) (n : Cut) (c : Option ClientEntry) (got : List Piece) (uses : ℕ) (us ts : List Message) (s : Server) (ws tc : List Message)
      → CutsCall codec call (pieces_of n) → Phase codec c got uses us ts s ws tc → Goes codec (calls codec (lane_of c got uses us ts s ws tc) call n)
  call_by call n None got uses us ts s ws tc fit (u, (x, y, r)) = begun call n got uses ts s ws tc fit (record {
    no_rest = x;
    no_pipe = y;
    comes_to = record { entry = None; pieces = []; uses = uses };
    reaches = r;
    still = refl;
    free = refl;
    used = refl;
  })
  call_by call n (Some (at_client.Sending one left)) got uses us ts s ws tc fit st = st
  call_by call n (Some (at_client.Waiting one)) got uses us ts s ws tc fit st = st
  call_by call n (Some (at_client.Gathering one)) got uses us ts s ws tc fit st = st
  call_by call n (Some (at_client.Done q r)) got uses us ts s ws tc fit (u, t, m, is) = begun call n got uses ts s ws tc fit (idle_given _ uses ts s ws tc t is)
  call_by call n (Some (at_client.LocateDone q r)) got uses us ts s ws tc fit (u, t, here, e, is) =
      begun call n got uses ts s ws tc fit (idle_given _ uses ts s ws tc t is)
  call_by call n (Some (at_client.Undecoded one fault)) got uses us ts s ws tc fit st = absurd st
  call_by call n (Some (at_client.OnewaySent q)) got uses us ts s ws tc fit (u, o, r) = begun call n got uses ts s ws tc fit (idle_oneway q uses ts s ws tc o r)
  call_by call n (Some (at_client.Cancelled late.None)) got uses us ts s ws tc fit st = st
  call_by call n (Some (at_client.Cancelled late.Begun)) got uses us ts s ws tc fit st = st
  call_by call n (Some (at_client.Cancelled late.Seen)) got uses us ts s ws tc fit (u, b) = begun call n got uses ts s ws tc fit (idle_late uses ts s ws tc b)

  pub keeps_call : (lane : Lane) (call : Call) (n : Cut) → CutsCall codec call (pieces_of n) → Stands codec lane
      → Goes codec (step codec lane (Calls call n))
  keeps_call lane call n fit st = call_by call n lane.client.entry lane.client.pieces lane.client.uses
      lane.unsent lane.to_server lane.server lane.unanswered lane.to_client fit st

  -- a piece in order is gathered
  in_order_by : (b : Bool) (k : CallKind) (after : ServerEntry) (pieces : List Piece) (uses : ℕ) → b ≡ true
      → taken {A = Server} (server.becomes_if b (at_server.Gathering k) after OrderDiffers).outcome
      (record { entry = (server.becomes_if b (at_server.Gathering k) after OrderDiffers).entry; pieces = pieces; uses = uses })
      ≡ Some (at after pieces uses)
  in_order_by true k after pieces uses h = refl
  in_order_by false k after pieces uses h = absurd cc

  -- the next piece of the call goes out
  send_piece : (call : Call) (left : ℕ) (n : Cut) (before rest : List Piece) (p : Piece)
      (got : List Piece) (uses : ℕ) (ts : List Message) (s : Server) (ws tc : List Message)
      → CutsCall codec call (pieces_of n) → before ++ p ∷ rest ≡ n.first ∷ n.rest → length (p ∷ rest) ≡ left
      → Quiet codec s ts ws tc (at (at_server.Gathering (kind_of call)) before uses)
      → Phase codec (Some (client.sending call (left - 1))) got uses (fragments rest) (ts ++ Continues (is_last rest) p ∷ []) s ws tc
  send_piece call left n before [] p got uses ts s ws tc fit a l (x, y, r) =
      subst (λ z. Phase codec (Some (client.sending call z)) got uses [] (ts ++ Continues true p ∷ []) s ws tc) (one_less p [] left l)
      (sent_phase call got uses _ s ws tc (
        x,
        y,
        reach_on s ts _ (read_at call uses) (Continues true p) r refl
            (in_order_by (in_order before p) (kind_of call) _ [] uses (piece_in_order fit.order before p [] _ a fit.one_order)
            ∙ ap (λ z. Some (at (server.arrived z) [] uses)) (ap codec.read_call a ∙ fit.read)),
      ))
  send_piece call left n before (q ∷ rest) p got uses ts s ws tc fit a l (x, y, r) =
      sending_phase ((left - 1) == 0) call (left - 1) got uses _ _ s ws tc (not_none q rest (left - 1) (one_less p (q ∷ rest) left l)) (
        n,
        fit,
        before ++ p ∷ [],
        q ∷ rest,
        append_assoc before (p ∷ []) (q ∷ rest) ∙ a,
        refl,
        one_less p (q ∷ rest) left l,
        not_none q rest (left - 1) (one_less p (q ∷ rest) left l),
        (
          x,
          y,
          reach_on s ts _ (at (at_server.Gathering (kind_of call)) (before ++ p ∷ []) uses) (Continues false p) r refl
              (in_order_by (in_order before p) (kind_of call) _ _ uses (piece_in_order fit.order before p (q ∷ rest) _ a fit.one_order)),
        ),
      )

  send_rest : (call : Call) (left : ℕ) (n : Cut) (before rest : List Piece) (got : List Piece) (uses : ℕ)
      (us ts : List Message) (s : Server) (ws tc : List Message) → CutsCall codec call (pieces_of n) → before ++ rest ≡ n.first ∷ n.rest
      → us ≡ fragments rest → length rest ≡ left
      → (left == 0) ≡ false → Quiet codec s ts ws tc (at (at_server.Gathering (kind_of call)) before uses)
      → Goes codec (sends codec (lane_of (Some (at_client.Sending call left)) got uses us ts s ws tc))
  send_rest call left n before [] got uses us ts s ws tc fit a u l z r = never (nothing left l) z
    where
      never : {P : Type 0} → (left == 0) ≡ true → (left == 0) ≡ false → P
      never is not = absurd cc
  send_rest call left n before (p ∷ rest) got uses us ts s ws tc fit a u l z r =
      subst (λ x. Goes codec (sends codec (lane_of (Some (at_client.Sending call left)) got uses x ts s ws tc))) (sym u)
      (send_piece call left n before rest p got uses ts s ws tc fit a l r)

  send_by : (c : Option ClientEntry) (got : List Piece) (uses : ℕ) (us ts : List Message) (s : Server) (ws tc : List Message)
      → Phase codec c got uses us ts s ws tc → Goes codec (sends codec (lane_of c got uses us ts s ws tc))
  send_by None got uses us ts s ws tc st = st
  send_by (Some (at_client.Sending call left)) got uses us ts s ws tc (n, fit, b, rest, a, u, l, z, r) =
      send_rest call left n b rest got uses us ts s ws tc fit a u l z r
  send_by (Some (at_client.Waiting one)) got uses us ts s ws tc st = st
  send_by (Some (at_client.Gathering one)) got uses us ts s ws tc st = st
  send_by (Some (at_client.Done q r)) got uses us ts s ws tc st = st
  send_by (Some (at_client.LocateDone q r)) got uses us ts s ws tc st = st
  send_by (Some (at_client.Undecoded one fault)) got uses us ts s ws tc st = absurd st
  send_by (Some (at_client.OnewaySent q)) got uses us ts s ws tc st = st
  send_by (Some (at_client.Cancelled l)) got uses us ts s ws tc st = st

  pub keeps_send : (lane : Lane) → Stands codec lane → Goes codec (sends codec lane)
  keeps_send lane st = send_by lane.client.entry lane.client.pieces lane.client.uses
      lane.unsent lane.to_server lane.server lane.unanswered lane.to_client st

  -- the client cancels
  cancel_by : (c : Option ClientEntry) (got : List Piece) (uses : ℕ) (us ts : List Message) (s : Server) (ws tc : List Message)
      → Phase codec c got uses us ts s ws tc → Goes codec (cancels codec (lane_of c got uses us ts s ws tc))
  cancel_by None got uses us ts s ws tc st = st
  cancel_by (Some (at_client.Sending call left)) got uses us ts s ws tc (n, fit, b, rest, a, u, l, z, r) =
      (refl, Stopping ts _ refl refl (inl (kind_of call, b, refl)) r)
  cancel_by (Some (at_client.Waiting call)) got uses us ts s ws tc (u, w, inl r) = (refl, Stopping ts _ refl refl (inr (call, w, refl)) r)
  cancel_by (Some (at_client.Waiting call)) got uses us ts s ws tc (u, w, inr (g, e, t, r)) =
      (refl, Crossing g (told_by g) (ap (λ x. x ++ Stops ∷ []) t) r (_, _, _, _, refl))
  cancel_by (Some (at_client.Gathering call)) got uses us ts s ws tc (u, g, e, t, p, rest, a, r) =
      (refl, Crossing g (fragments (p ∷ rest)) (ap (λ x. x ++ Stops ∷ []) t) r (p, rest, refl))
  cancel_by (Some (at_client.Done q r)) got uses us ts s ws tc st = st
  cancel_by (Some (at_client.LocateDone q r)) got uses us ts s ws tc st = st
  cancel_by (Some (at_client.Undecoded one fault)) got uses us ts s ws tc st = absurd st
  cancel_by (Some (at_client.OnewaySent q)) got uses us ts s ws tc st = st
  cancel_by (Some (at_client.Cancelled l)) got uses us ts s ws tc st = st

  pub keeps_cancel : (lane : Lane) → Stands codec lane → Goes codec (cancels codec lane)
  keeps_cancel lane st = cancel_by lane.client.entry lane.client.pieces lane.client.uses
      lane.unsent lane.to_server lane.server lane.unanswered lane.to_client st
