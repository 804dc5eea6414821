-- What stands on a lane at any time: the client's entry, and what the server comes to by what is on its way to it.
use Rattle.std.specs.Prelude.{◌≡◌, ◌⊎◌, ℕ, ◌==◌, Bool, true, false, List, [], ◌∷◌, ◌++◌, length, Option, Some, None}
use Rattle.giop_msg.specs.declared.version.Version.{Version}
use Rattle.giop_msg.specs.Locate.{AnyLocateRequest}
use Rattle.giop_msg.specs.declared.messages.request.Request.{Request}
use Rattle.giop_msg.specs.declared.messages.reply.Reply.{Reply}
use Rattle.giop_msg.specs.declared.messages.locate_reply.LocateReply.{LocateReply}
use Rattle.giop_calls.specs.declared.kind.CallKind.{CallKind}
use Rattle.giop_calls.specs.declared.client.call.Call.{Call}
use Rattle.giop_calls.specs.declared.client.call.Call.TheVariants as asked
use Rattle.giop_calls.specs.declared.client.late.Late.{Late}
use Rattle.giop_calls.specs.declared.client.late.Late.TheVariants as late
use Rattle.giop_calls.specs.declared.client.entry.ClientEntry.{ClientEntry}
use Rattle.giop_calls.specs.declared.client.entry.ClientEntry.TheVariants as at_client
use Rattle.giop_calls.specs.declared.server.question.Question.TheVariants as question
use Rattle.giop_calls.specs.declared.server.entry.ServerEntry.{ServerEntry}
use Rattle.giop_calls.specs.declared.server.entry.ServerEntry.TheVariants as at_server
use Rattle.giop_calls.specs.Messages.{is_oneway, is_same_version}
use Rattle.giop_calls.specs.ClientTable.{sent}
use Rattle.giop_calls.specs.ServerTable.{arrived}
use Rattle.giop_calls.specs.Lane.{Piece, Message, Opens, Stops, Cut, pieces_of, Codec, CutsCall, CutsReply, CutsLocated, Standing, Lane, heard_call, is_last, fragments, kind_of, served}

-- a server at which the server itself can do nothing
abbrev pub is_still : Option ServerEntry → Bool
is_still None = true
is_still (Some (at_server.Gathering kind)) = true
is_still (Some (at_server.Asked request)) = false
is_still (Some (at_server.Undecoded call)) = false
is_still (Some (at_server.LocateAsked request)) = false
is_still (Some (at_server.Answered asked reply left)) = left == 0
is_still (Some (at_server.LocateAnswered target here)) = true
is_still (Some (at_server.Delivered request)) = true
is_still (Some (at_server.Cancelled answered left)) = left == 0

-- a server
abbrev pub Server : Type 0
Server = Standing ServerEntry

abbrev pub at : ServerEntry → List Piece → ℕ → Server
at entry pieces uses = record { entry = Some entry; pieces = pieces; uses = uses }

-- what the server comes to when it has read a call
abbrev pub read_at : Call → ℕ → Server
read_at call uses = at (arrived (heard_call call)) [] uses

-- how much of a late reply is still to come
abbrev pub Coming : Late → List Message → Type 0
Coming late.None ms = (k : CallKind) × (version : Version) × (piece : Piece) × (rest : List Piece)
    × (ms ≡ Opens k version (is_last rest) piece ∷ fragments rest)
Coming late.Begun ms = (piece : Piece) × (rest : List Piece) × (ms ≡ fragments (piece ∷ rest))
Coming late.Seen ms = ms ≡ []

-- an answer that a server gave
pub data Given : Type 0 where
  Replied : Request → Reply → Cut → Given
  Located : AnyLocateRequest → Bool → Piece → LocateReply → Given

abbrev pub call_of : Given → Call
call_of (Replied q r n) = asked.Request q
call_of (Located q here piece told) = asked.Locate q

abbrev pub answer_version : Given → Version
answer_version (Replied q r n) = r.version
answer_version (Located q here piece told) = q.version

-- what stands at the server then, of which so many pieces aren't sent
abbrev pub answered : Given → ℕ → ServerEntry
answered (Replied q r n) left = at_server.Answered (question.Request q) r left
answered (Located q here piece told) left = at_server.LocateAnswered (Some q.target) here

abbrev pub HasLeft : Given → ℕ → Type 0
HasLeft (Replied q r n) left = Unit {0}
HasLeft (Located q here piece told) left = left ≡ 0

-- a lane of these
abbrev pub lane_of : Option ClientEntry → List Piece → ℕ → (us ts : List Message) → Server → (ws tc : List Message) → Lane
lane_of c got uses us ts s ws tc = record {
  client = record { entry = c; pieces = got; uses = uses };
  unsent = us;
  to_server = ts;
  server = s;
  unanswered = ws;
  to_client = tc;
}

abbrev pub first_of : Given → Piece
first_of (Replied q r n) = n.first
first_of (Located q here piece told) = piece

abbrev pub rest_of : Given → List Piece
rest_of (Replied q r n) = n.rest
rest_of (Located q here piece told) = []

abbrev pub done_by : Given → ClientEntry
done_by (Replied q r n) = at_client.Done q r
done_by (Located q here piece told) = at_client.LocateDone q told

-- all of it, as it is put out
abbrev pub told_by : Given → List Message
told_by g = Opens (kind_of (call_of g)) (answer_version g) (is_last (rest_of g)) (first_of g)
    ∷ fragments (rest_of g)

module _ (codec : Codec) where
  -- its pieces are read back as what it is
  abbrev pub Fits : Given → Type 0
  Fits (Replied q r n) = CutsReply codec q r (pieces_of n)
      × (is_same_version q.head.version r.version ≡ true)
  Fits (Located q here piece told) = CutsLocated codec q here piece told

  -- the server reads these and comes to that, and is still until then
  abbrev pub Reaches : Server → List Message → Server → Type 0
  Reaches s [] t = s ≡ t
  Reaches s (m ∷ ms) t = (is_still s.entry ≡ true)
      × ((mid : Server) × (served codec s m ≡ Some mid) × Reaches mid ms t)

  -- nothing comes from the server, which comes to that
  abbrev pub Quiet : Server → (ts ws tc : List Message) → Server → Type 0
  Quiet s ts ws tc t = (ws ≡ []) × (tc ≡ []) × Reaches s ts t

  -- it answered, and these of its messages are on their way or not sent
  pub record Replying (g : Given) (s : Server) (ws tc : List Message) (uses : ℕ) (ms : List Message) : Type 0 where
    pub fits : Fits g
    pub left : ℕ
    pub stands : s ≡ at (answered g left) [] uses
    pub has : HasLeft g left
    pub rest : length ws ≡ left
    pub coming : tc ++ ws ≡ ms

  -- a server that a cancel stops before it answers
  abbrev pub MayStop : Server → ℕ → Type 0
  MayStop t uses = ((k : CallKind) × (pieces : List Piece) × (t ≡ at (at_server.Gathering k) pieces uses))
      ⊎ ((call : Call) × (sent call ≡ at_client.Waiting call) × (t ≡ read_at call uses))

  -- behind a cancel: the cancel is on its way to a server that didn't answer, or to one that did; or it came there
  pub data Behind (l : Late) (uses : ℕ) (ts : List Message) (s : Server) (ws tc : List Message) : Type 0 where
    Stopping : (before : List Message) → (t : Server) → l ≡ late.None → ts ≡ before ++ Stops ∷ []
        → MayStop t uses → Quiet s before ws tc t → Behind l uses ts s ws tc
    Stopped : l ≡ late.None → ts ≡ [] → ws ≡ [] → tc ≡ []
        → s ≡ at (at_server.Cancelled false 0) [] uses → Behind l uses ts s ws tc
    Crossing : (g : Given) → (ms : List Message) → ts ≡ Stops ∷ [] → Replying g s ws tc uses ms
        → Coming l ms → Behind l uses ts s ws tc
    Crossed : (left : ℕ) → ts ≡ [] → s ≡ at (at_server.Cancelled true left) [] uses
        → length ws ≡ left → Coming l (tc ++ ws) → Behind l uses ts s ws tc

  -- what stands, by the client's entry
  abbrev pub Phase : Option ClientEntry → List Piece → ℕ → (us ts : List Message) → Server → (ws tc : List Message) → Type 0
  Phase None got uses us ts s ws tc =
      (us ≡ []) × Quiet s ts ws tc (record { entry = None; pieces = []; uses = uses })
  Phase (Some (at_client.Sending call left)) got uses us ts s ws tc = (n : Cut)
      × CutsCall codec call (pieces_of n) × (before rest : List Piece) × (before ++ rest ≡ pieces_of n)
      × (us ≡ fragments rest) × (length rest ≡ left) × ((left == 0) ≡ false)
      × Quiet s ts ws tc (at (at_server.Gathering (kind_of call)) before uses)
  Phase (Some (at_client.Waiting call)) got uses us ts s ws tc = (us ≡ []) × (sent call ≡ at_client.Waiting call)
      × (Quiet s ts ws tc (read_at call uses)
      ⊎ ((g : Given) × (call_of g ≡ call) × (ts ≡ []) × Replying g s ws tc uses (told_by g)))
  Phase (Some (at_client.Gathering call)) got uses us ts s ws tc = (us ≡ []) × (g : Given) × (call_of g ≡ call)
      × (ts ≡ []) × (piece : Piece) × (rest : List Piece) × (got ++ piece ∷ rest ≡ first_of g ∷ rest_of g)
      × Replying g s ws tc uses (fragments (piece ∷ rest))
  Phase (Some (at_client.Done q r)) got uses us ts s ws tc =
      (us ≡ []) × (ts ≡ []) × (n : Cut) × Replying (Replied q r n) s ws tc uses []
  Phase (Some (at_client.LocateDone q r)) got uses us ts s ws tc = (us ≡ []) × (ts ≡ []) × (here : Bool)
      × (piece : Piece) × Replying (Located q here piece r) s ws tc uses []
  Phase (Some (at_client.Undecoded call fault)) got uses us ts s ws tc = ⊥
  Phase (Some (at_client.OnewaySent q)) got uses us ts s ws tc = (us ≡ []) × (is_oneway q ≡ true)
      × Quiet s ts ws tc (read_at (asked.Request q) uses)
  Phase (Some (at_client.Cancelled l)) got uses us ts s ws tc = (us ≡ []) × Behind l uses ts s ws tc

  abbrev pub Stands : Lane → Type 0
  Stands lane = Phase lane.client.entry lane.client.pieces lane.client.uses lane.unsent lane.to_server
      lane.server lane.unanswered lane.to_client

  -- a step that isn't refused, and behind which it stands so
  abbrev pub Goes : Option Lane → Type 0
  Goes None = ⊥
  Goes (Some lane) = Stands lane
