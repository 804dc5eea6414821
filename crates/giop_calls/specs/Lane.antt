-- One lane: all that a client and a server do under one id, and what is on its way between them.
use Rattle.std.specs.Prelude.{◌≡◌, ℕ, ◌+◌, Bool, true, false, if◌then◌else◌, List, [], ◌∷◌, ◌++◌, length, Option, Some, None, Result, Ok, Err}
use Rattle.std.specs.Option.{option_map}
use Rattle.giop_cdr.specs.declared.order.Order.{Order}
use Rattle.giop_msg.specs.declared.msg.Msg.{Msg}
use Rattle.giop_msg.specs.Locate.{AnyLocateRequest}
use Rattle.giop_msg.specs.declared.version.Version.{Version}
use Rattle.giop_msg.specs.declared.messages.request.Request.{Request}
use Rattle.giop_msg.specs.declared.messages.reply.Reply.{Reply}
use Rattle.giop_msg.specs.declared.messages.locate_reply.LocateReply.{LocateReply}
use Rattle.giop_calls.specs.declared.kind.CallKind.{CallKind}
use Rattle.giop_calls.specs.declared.kind.CallKind.TheVariants as kind
use Rattle.giop_calls.specs.declared.fault.CallFault.{CallFault}
use Rattle.giop_calls.specs.declared.client.call.Call.{Call}
use Rattle.giop_calls.specs.declared.client.call.Call.TheVariants as asked
use Rattle.giop_calls.specs.declared.client.heard.HeardReply.{HeardReply}
use Rattle.giop_calls.specs.declared.client.heard.HeardReply.TheVariants as reply
use Rattle.giop_calls.specs.declared.client.entry.ClientEntry.{ClientEntry}
use Rattle.giop_calls.specs.declared.client.entry.ClientEntry.TheVariants.{Waiting, Gathering, Done, LocateDone}
use Rattle.giop_calls.specs.declared.client.entry.ClientEntry.TheVariants as client_side
use Rattle.giop_calls.specs.declared.client.event.ClientEvent.{ClientEvent}
use Rattle.giop_calls.specs.declared.client.event.ClientEvent.TheVariants as at_client
use Rattle.giop_calls.specs.declared.server.heard.HeardCall.{HeardCall}
use Rattle.giop_calls.specs.declared.server.heard.HeardCall.TheVariants as call
use Rattle.giop_calls.specs.declared.server.question.Question.TheVariants as question
use Rattle.giop_calls.specs.declared.server.entry.ServerEntry.{ServerEntry}
use Rattle.giop_calls.specs.declared.server.entry.ServerEntry.TheVariants.{Asked, LocateAsked, Undecoded, Answered, LocateAnswered}
use Rattle.giop_calls.specs.declared.server.event.ServerEvent.{ServerEvent}
use Rattle.giop_calls.specs.declared.server.event.ServerEvent.TheVariants as at_server
use Rattle.giop_calls.specs.Messages.{is_same_order}
use Rattle.giop_calls.specs.ClientTable as client
use Rattle.giop_calls.specs.ServerTable as server

-- a piece is a message, with its header
abbrev pub Piece : Type 0
Piece = Msg

-- what goes over a pipe: the first piece of a message and a Fragment, each with whether it is the
-- last, and a CancelRequest
pub data Message : Type 0 where
  Opens : CallKind → Version → Bool → Piece → Message
  Continues : Bool → Piece → Message
  Stops : Message

-- what a server that reads a call finds
abbrev pub heard_call : Call → HeardCall
heard_call (asked.Request request) = call.Request request
heard_call (asked.Locate request) = call.Locate request

-- a message that is cut: its first piece and those behind it
pub record Cut : Type 0 where
  pub first : Piece
  pub rest : List Piece

-- all of its pieces, and how many they are
abbrev pub pieces_of : Cut → List Piece
pieces_of cut = cut.first ∷ cut.rest

abbrev pub count : Cut → ℕ
count cut = length (pieces_of cut)

-- these pieces are all in one byte order
abbrev pub AreIn : Order → List Piece → Type 0
AreIn order [] = Unit {0}
AreIn order (piece ∷ pieces) = (piece.order ≡ order) × AreIn order pieces

-- whether a piece comes in the byte order of the first one that was gathered
abbrev pub in_order : List Piece → Piece → Bool
in_order [] piece = true
in_order (first ∷ pieces) piece = is_same_order piece.order first.order

-- how both ends read the pieces of a message: any way to read
pub record Codec : Type 0 where
  pub read_call : List Piece → HeardCall
  pub read_reply : Call → List Piece → HeardReply

-- pieces of one byte order that are read back as this call: whatever way to cut and to write it
-- comes to such pieces is one
pub record CutsCall (codec : Codec) (call : Call) (pieces : List Piece) : Type 0 where
  pub order : Order
  pub one_order : AreIn order pieces
  pub read : codec.read_call pieces ≡ heard_call call

-- and as this reply, by a client that asked so
pub record CutsReply (codec : Codec) (q : Request) (r : Reply) (pieces : List Piece) : Type 0 where
  pub order : Order
  pub one_order : AreIn order pieces
  pub read : codec.read_reply (asked.Request q) pieces ≡ reply.Reply r

-- a piece that is read back as this LocateReply, which says whether the target is here and no more
pub record CutsLocated (codec : Codec) (q : AnyLocateRequest) (here : Bool) (piece : Piece)
    (told : LocateReply) : Type 0 where
  pub read : codec.read_reply (asked.Locate q) (piece ∷ []) ≡ reply.Locate told
  pub status : told.head.status ≡ (if here then 1 else 0)
  pub no_rest : told.rest ≡ []

-- what stands at an end: its entry, the pieces that it gathered, which count while its entry
-- gathers, and how many calls began under the id
pub record Standing (Entry : Type 0) : Type 0 where
  pub entry : Option Entry
  pub pieces : List Piece
  pub uses : ℕ

-- both ends, what of a call and of its reply isn't sent yet, and what is on its way, in order
pub record Lane : Type 0 where
  pub client : Standing ClientEntry
  pub unsent : List Message
  pub to_server : List Message
  pub server : Standing ServerEntry
  pub unanswered : List Message
  pub to_client : List Message

-- where nothing was ever said
abbrev pub new : Lane
new = record {
  client = record { entry = None; pieces = []; uses = 0 };
  unsent = [];
  to_server = [];
  server = record { entry = None; pieces = []; uses = 0 };
  unanswered = [];
  to_client = [];
}

-- whether a message ends with the piece behind which these come
abbrev pub is_last : List Piece → Bool
is_last [] = true
is_last (piece ∷ pieces) = false

-- the pieces behind the first one, as the messages that bring them
abbrev pub fragments : List Piece → List Message
fragments [] = []
fragments (piece ∷ pieces) = Continues (is_last pieces) piece ∷ fragments pieces

-- which message a call is
abbrev pub kind_of : Call → CallKind
kind_of (asked.Request request) = kind.Request
kind_of (asked.Locate request) = kind.Locate

-- in which version it is
abbrev pub version_of : Call → Version
version_of (asked.Request request) = request.head.version
version_of (asked.Locate request) = request.version

-- what is gathered behind a message
abbrev pub gathered : List Piece → Message → List Piece
gathered pieces (Opens kind version false piece) = piece ∷ []
gathered pieces (Continues false piece) = pieces ++ piece ∷ []
gathered pieces _ = []

-- how many calls began by then
abbrev pub begun : ℕ → Message → ℕ
begun uses (Opens kind version last piece) = uses + 1
begun uses (Continues last piece) = uses
begun uses Stops = uses

-- the next message, if any
abbrev pub next : List Message → List Message
next [] = []
next (m ∷ ms) = m ∷ []

-- those behind it
abbrev pub later : List Message → List Message
later [] = []
later (m ∷ ms) = ms

-- in which version a LocateRequest that stands at a server is answered, if one stands there
abbrev pub asked_in : Option ServerEntry → Option Version
asked_in (Some (LocateAsked request)) = Some request.version
asked_in (Some (Undecoded call)) = Some call.version
asked_in _ = None

-- what an end comes to where it accepts a message: a refused one is nothing it could come to
abbrev pub taken : {A : Type 0} → Result (Unit {0}) CallFault → A → Option A
taken (Ok done) a = Some a
taken (Err fault) a = None

-- what the lane comes to by an act of an end's own: a refused one changes nothing
abbrev pub tried : Result (Unit {0}) CallFault → (before after : Lane) → Option Lane
tried (Ok done) before after = Some after
tried (Err fault) before after = Some before

-- what may happen on a lane; a call, a reply and a LocateReply come with the pieces that they are
-- cut into
pub data Act : Type 0 where
  Calls : Call → Cut → Act
  Sends : Act
  Cancels : Act
  Answers : Reply → Cut → Act
  Locates : Bool → Piece → Act
  SendsReply : Act
  ToServer : Act
  ToClient : Act

module _ (codec : Codec) where
  -- what a message is to a server
  abbrev pub server_event : List Piece → Message → ServerEvent
  server_event pieces (Opens kind version true piece) =
      at_server.Whole (codec.read_call (piece ∷ []))
  server_event pieces (Opens kind version false piece) = at_server.First kind
  server_event pieces (Continues true piece) =
      at_server.Last (in_order pieces piece) (codec.read_call (pieces ++ piece ∷ []))
  server_event pieces (Continues false piece) = at_server.More (in_order pieces piece)
  server_event pieces Stops = at_server.Cancel

  -- what it comes to by it
  abbrev pub served : Standing ServerEntry → Message → Option (Standing ServerEntry)
  served s m =
      let step = server.server_step s.entry (server_event s.pieces m) in
      taken step.outcome (record {
        entry = step.entry;
        pieces = gathered s.pieces m;
        uses = begun s.uses m;
      })

  -- what a client reads in a reply: only what it waits for
  abbrev pub reading : Option ClientEntry → List Piece → HeardReply
  reading (Some (Waiting call)) pieces = codec.read_reply call pieces
  reading (Some (Gathering call)) pieces = codec.read_reply call pieces
  reading _ pieces = reply.Unread

  -- what a message is to a client, but for a CancelRequest, which no server sends
  abbrev pub client_event : Standing ClientEntry → Message → Option ClientEvent
  client_event c (Opens kind version true piece) =
      Some (at_client.Whole kind version (reading c.entry (piece ∷ [])))
  client_event c (Opens kind version false piece) = Some (at_client.First kind version)
  client_event c (Continues true piece) =
      Some (at_client.Last (in_order c.pieces piece)
      (reading c.entry (c.pieces ++ piece ∷ [])))
  client_event c (Continues false piece) = Some (at_client.More (in_order c.pieces piece))
  client_event c Stops = None

  -- what it comes to by it
  abbrev pub hears : Standing ClientEntry → Message → Option ClientEvent
      → Option (Standing ClientEntry)
  hears c m None = None
  hears c m (Some event) =
      let step = client.client_step c.entry event in
      taken step.outcome (record {
        entry = step.entry;
        pieces = gathered c.pieces m;
        uses = c.uses;
      })

  -- the message that answers a LocateRequest
  abbrev pub located : Option Version → Piece → List Message
  located None piece = []
  located (Some version) piece = Opens kind.Locate version true piece ∷ []

  -- the client calls, and puts the first piece on its way
  abbrev pub calls : Lane → Call → Cut → Option Lane
  calls lane call cut =
      let step = client.client_step lane.client.entry (at_client.Call call (count cut)) in
      tried step.outcome lane (record lane {
        client = record lane.client { entry = step.entry; uses = lane.client.uses + 1 };
        to_server = lane.to_server ++ Opens (kind_of call) (version_of call) (is_last cut.rest)
            cut.first ∷ [];
        unsent = fragments cut.rest;
      })

  -- it sends a further piece
  abbrev pub sends : Lane → Option Lane
  sends lane =
      let step = client.client_step lane.client.entry at_client.Send in
      tried step.outcome lane (record lane {
        client = record lane.client { entry = step.entry };
        to_server = lane.to_server ++ next lane.unsent;
        unsent = later lane.unsent;
      })

  -- it cancels, and sends no further piece
  abbrev pub cancels : Lane → Option Lane
  cancels lane =
      let step = client.client_step lane.client.entry at_client.Cancel in
      tried step.outcome lane (record lane {
        client = record lane.client { entry = step.entry };
        to_server = lane.to_server ++ Stops ∷ [];
        unsent = [];
      })

  -- the server answers, and puts the first piece on its way
  abbrev pub answers : Lane → Reply → Cut → Option Lane
  answers lane reply cut =
      let step = server.server_step lane.server.entry (at_server.Answer reply (count cut)) in
      tried step.outcome lane (record lane {
        server = record lane.server { entry = step.entry };
        to_client =
            lane.to_client
            ++ Opens kind.Request reply.version (is_last cut.rest) cut.first ∷ [];
        unanswered = fragments cut.rest;
      })

  -- it answers a LocateRequest, in one message
  abbrev pub locates : Lane → Bool → Piece → Option Lane
  locates lane here piece =
      let step = server.server_step lane.server.entry (at_server.AnswerLocate here) in
      tried step.outcome lane (record lane {
        server = record lane.server { entry = step.entry };
        to_client = lane.to_client ++ located (asked_in lane.server.entry) piece;
        unanswered = [];
      })

  -- it sends a further piece
  abbrev pub sends_reply : Lane → Option Lane
  sends_reply lane =
      let step = server.server_step lane.server.entry at_server.Send in
      tried step.outcome lane (record lane {
        server = record lane.server { entry = step.entry };
        to_client = lane.to_client ++ next lane.unanswered;
        unanswered = later lane.unanswered;
      })

  -- the message that is longest on its way to the server arrives
  abbrev pub to_server : Lane → List Message → Option Lane
  to_server lane [] = Some lane
  to_server lane (m ∷ ms) =
      option_map (λ s. record lane { server = s; to_server = ms }) (served lane.server m)

  -- and that to the client
  abbrev pub to_client : Lane → List Message → Option Lane
  to_client lane [] = Some lane
  to_client lane (m ∷ ms) = option_map (λ c. record lane { client = c; to_client = ms })
      (hears lane.client m (client_event lane.client m))

  -- what an act leads to
  abbrev pub step : Lane → Act → Option Lane
  step lane (Calls call cut) = calls lane call cut
  step lane Sends = sends lane
  step lane Cancels = cancels lane
  step lane (Answers reply cut) = answers lane reply cut
  step lane (Locates here piece) = locates lane here piece
  step lane SendsReply = sends_reply lane
  step lane ToServer = to_server lane lane.to_server
  step lane ToClient = to_client lane lane.to_client

  -- the pieces of an act are those of what it puts out, to what stands there; a LocateReply is one
  abbrev pub Suits : Lane → Act → Type 0
  Suits lane (Calls call cut) = CutsCall codec call (pieces_of cut)
  Suits lane (Answers reply cut) = (q : Request) → lane.server.entry ≡ Some (Asked q)
      → CutsReply codec q reply (pieces_of cut)
  Suits lane (Locates here piece) = (q : _) → lane.server.entry ≡ Some (LocateAsked q)
      → (told : LocateReply) × CutsLocated codec q here piece told
  Suits lane act = Unit {0}

  -- a schedule of them leads from one lane to another
  abbrev pub Runs : Lane → List Act → Lane → Type 0
  Runs lane [] end = lane ≡ end
  Runs lane (act ∷ acts) end = Suits lane act
      × ((after : Lane) × (step lane act ≡ Some after) × Runs after acts end)

-- once nothing is on its way, both ends came to the same, whatever is unsent
abbrev pub Agrees : Lane → Type 0
Agrees lane = lane.to_server ≡ [] → lane.to_client ≡ []
    → option_map client.outcome lane.client.entry ≡ option_map server.outcome lane.server.entry

-- the reply that stands at the client is the one that the server gave this call
abbrev pub IsRight : Lane → Type 0
IsRight lane = (q : Request) (r : Reply) → lane.client.entry ≡ Some (Done q r)
    → (lane.server.entry ≡ Some (Answered (question.Request q) r 0))
    × (lane.server.uses ≡ lane.client.uses)

-- and so the answer to a LocateRequest
abbrev pub IsRightLocate : Lane → Type 0
IsRightLocate lane = (q : _) (r : LocateReply) → lane.client.entry ≡ Some (LocateDone q r)
    → (here : Bool) × (lane.server.entry ≡ Some (LocateAnswered (Some q.target) here))
    × (r.head.status ≡ (if here then 1 else 0)) × (r.rest ≡ [])
    × (lane.server.uses ≡ lane.client.uses)

-- neither end stands before a message that it couldn't read
abbrev pub IsRead : Lane → Type 0
IsRead lane =
    ((call : Call) (fault : _) → lane.client.entry ≡ Some (client_side.Undecoded call fault) → ⊥)
    × ((call : _) → lane.server.entry ≡ Some (Undecoded call) → ⊥)

-- the message that arrives next isn't refused, at either end
abbrev pub NextIsHeard : Codec → Lane → Type 0
NextIsHeard codec lane = ((after : Lane) × (step codec lane ToServer ≡ Some after))
    × ((after : Lane) × (step codec lane ToClient ≡ Some after))

-- both ends agree, a reply is that to its call, all is read, and no message will be refused
abbrev pub IsSound : Codec → Lane → Type 0
IsSound codec lane = Agrees lane × IsRight lane × IsRightLocate lane × IsRead lane
    × NextIsHeard codec lane
