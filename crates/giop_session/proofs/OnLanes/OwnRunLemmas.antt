-- A call that is sent in one message, and answered in one, comes to its reply on a lane of the
-- session's own acts.
use Rattle.std.proofs.Common.{◌≡◌, Bool, true, false, [], ◌∷◌, Option, Some, None, refl, subst}
use Rattle.giop_types.specs.declared.interfaces.interface.Interface.{Interface}
use Rattle.giop_msg.specs.Locate.{AnyLocateRequest}
use Rattle.giop_msg.specs.declared.messages.locate_reply.LocateReply.{LocateReply}
use Rattle.giop_msg.specs.declared.messages.reply.Reply.{Reply}
use Rattle.giop_msg.specs.declared.messages.request.Request.{Request}
use Rattle.giop_msg.specs.declared.version.Version.{Version}
use Rattle.giop_msg.specs.declared.version.Version.TheVariants.{V10, V11, V12}
use Rattle.giop_calls.specs.Lane.{Calls, Codec, Lane, Opens, Piece, ToClient, ToServer, new, step}
use Rattle.giop_calls.specs.Lane as acts
use Rattle.giop_calls.specs.Messages.{is_oneway, is_same_version}
use Rattle.giop_calls.specs.declared.client.call.Call.TheVariants as asked
use Rattle.giop_calls.specs.declared.client.entry.ClientEntry.TheVariants as client
use Rattle.giop_calls.specs.declared.client.event.ClientEvent.TheVariants as at_client
use Rattle.giop_calls.specs.declared.client.heard.HeardReply.TheVariants as answer
use Rattle.giop_calls.specs.declared.kind.CallKind.TheVariants as kind
use Rattle.giop_calls.specs.declared.server.entry.ServerEntry.{ServerEntry}
use Rattle.giop_calls.specs.declared.server.entry.ServerEntry.TheVariants as server
use Rattle.giop_calls.specs.declared.server.event.ServerEvent.TheVariants as at_server
use Rattle.giop_calls.specs.declared.server.heard.HeardCall.TheVariants as heard
use Rattle.giop_calls.specs.declared.server.question.Question.TheVariants as question
use Rattle.giop_session.specs.Worlds.Coding.{coding}
use Rattle.giop_session.specs.Worlds.OwnLane.{OwnRuns, PlansCall, PlansLocated, PlansReply, alone, located_run, replied_run, sends_cut}
use Rattle.giop_end.specs.Acts.Sent.{sends_one}
use Rattle.giop_session.proofs.OnLanes.CodingLemmas.{call_read, located_read, reply_read, same_piece, same_pieces}

same_asked : (q other : Request) → ◌≡◌ {A = Option ServerEntry} (Some (server.Asked q)) (Some (server.Asked other)) → q ≡ other
same_asked q other is = cc

same_located : (q other : AnyLocateRequest) → ◌≡◌ {A = Option ServerEntry} (Some (server.LocateAsked q)) (Some (server.LocateAsked other)) → q ≡ other
same_located q other is = cc

own_version : (version : Version) → is_same_version version version ≡ true
own_version V10 = refl
own_version V11 = refl
own_version V12 = refl

-- ---- a Request and its Reply

-- the client called
abbrev called : Request → Reply → Piece → Piece → Lane
called q r one other = record new {
  client = record { entry = Some (client.Waiting (asked.Request q)); pieces = []; uses = 1 };
  to_server = Opens kind.Request q.head.version true one ∷ [];
}

-- the call arrived
abbrev arrived : Request → Reply → Piece → Piece → Lane
arrived q r one other =
    record (called q r one other) { server = record { entry = Some (server.Asked q); pieces = []; uses = 1 }; to_server = [] }

-- the server answered
abbrev answered : Request → Reply → Piece → Piece → Lane
answered q r one other = record (arrived q r one other) {
  server = record { entry = Some (server.Answered (question.Request q) r 0); pieces = []; uses = 1 };
  to_client = Opens kind.Request r.version true other ∷ [];
}

-- the reply arrived
abbrev replied : Request → Reply → Piece → Piece → Lane
replied q r one other =
    record (answered q r one other) { client = record { entry = Some (client.Done q r); pieces = []; uses = 1 }; to_client = [] }

module _ (codec : Codec) (q : Request) (r : Reply) (one other : Piece) where
  calls : is_oneway q ≡ false → step codec new (Calls (asked.Request q) (alone one)) ≡ Some (called q r one other)
  calls twoway = rw twoway refl

  arrives : is_oneway q ≡ false → codec.read_call (one ∷ []) ≡ heard.Request q → step codec (called q r one other) ToServer ≡ Some (arrived q r one other)
  arrives twoway read = rw (read, twoway) refl

  answers : is_same_version q.head.version r.version ≡ true → step codec (arrived q r one other) (acts.Answers r (alone other)) ≡ Some (answered q r one other)
  answers same = rw same refl

  comes : is_same_version q.head.version r.version ≡ true → codec.read_reply (asked.Request q) (other ∷ []) ≡ answer.Reply r
      → step codec (answered q r one other) ToClient ≡ Some (replied q r one other)
  comes same read = rw (read, same) refl

pub call_replied : (interface : Interface) (q : Request) (r : Reply) (one other : Piece) → is_oneway q ≡ false
    → is_same_version q.head.version r.version ≡ true
    → PlansCall interface None (asked.Request q) (sends_cut (at_client.Call (asked.Request q)) (alone one))
    → PlansReply interface q r (sends_cut (at_server.Answer r) (alone other))
    → (lane : Lane) × OwnRuns interface new (replied_run q r one other) lane × (lane.client.entry ≡ Some (client.Done q r))
call_replied interface q r one other twoway same plans told =
    let codec = coding interface in
    let asks = call_read interface None (asked.Request q) (sends_cut (at_client.Call (asked.Request q)) (alone one)) plans in
    let read = subst (λ pieces. codec.read_call pieces ≡ heard.Request q)
    (same_pieces (at_client.Call (asked.Request q)) (alone one) asks.0 asks.1) asks.2.read in
    let gives = reply_read interface q r (sends_cut (at_server.Answer r) (alone other)) told in
    let back = subst (λ pieces. codec.read_reply (asked.Request q) pieces ≡ answer.Reply r)
    (same_pieces (at_server.Answer r) (alone other) gives.0 gives.1) gives.2.read in (
      replied q r one other,
      (
        plans,
        (
          called q r one other,
          calls codec q r one other twoway,
          (
            tt,
            (
              arrived q r one other,
              arrives codec q r one other twoway read,
              (
                λ also is. subst (λ q. PlansReply interface q r (sends_cut (at_server.Answer r) (alone other))) (same_asked q also is) told,
                (
                  answered q r one other,
                  answers codec q r one other same,
                  (tt, (replied q r one other, comes codec q r one other same back, refl)),
                ),
              ),
            ),
          ),
        ),
      ),
      refl,
    )

-- ---- a LocateRequest and its LocateReply

-- the client asked
abbrev sought : AnyLocateRequest → Piece → Lane
sought q one = record new {
  client = record { entry = Some (client.Waiting (asked.Locate q)); pieces = []; uses = 1 };
  to_server = Opens kind.Locate q.version true one ∷ [];
}

-- that arrived
abbrev seen : AnyLocateRequest → Piece → Lane
seen q one = record (sought q one) { server = record { entry = Some (server.LocateAsked q); pieces = []; uses = 1 }; to_server = [] }

-- the server answered
abbrev told_by : AnyLocateRequest → Bool → Piece → Piece → Lane
told_by q here one other = record (seen q one) {
  server = record { entry = Some (server.LocateAnswered (Some q.target) here); pieces = []; uses = 1 };
  to_client = Opens kind.Locate q.version true other ∷ [];
}

-- the answer arrived
abbrev located : AnyLocateRequest → Bool → LocateReply → Piece → Piece → Lane
located q here told one other =
    record (told_by q here one other) { client = record { entry = Some (client.LocateDone q told); pieces = []; uses = 1 }; to_client = [] }

module _ (codec : Codec) (q : AnyLocateRequest) (here : Bool) (told : LocateReply) (one other : Piece) where
  seeks : step codec new (Calls (asked.Locate q) (alone one)) ≡ Some (sought q one)
  seeks = refl

  sees : codec.read_call (one ∷ []) ≡ heard.Locate q → step codec (sought q one) ToServer ≡ Some (seen q one)
  sees read = rw read refl

  tells : step codec (seen q one) (acts.Locates here other) ≡ Some (told_by q here one other)
  tells = refl

  locates : codec.read_reply (asked.Locate q) (other ∷ []) ≡ answer.Locate told
      → step codec (told_by q here one other) ToClient ≡ Some (located q here told one other)
  locates read = rw (read, own_version q.version) refl

pub call_located : (interface : Interface) (q : AnyLocateRequest) (here : Bool) (one other : Piece)
    → PlansCall interface None (asked.Locate q) (sends_cut (at_client.Call (asked.Locate q)) (alone one))
    → PlansLocated q here (sends_one (at_server.AnswerLocate here) other)
    → (lane : Lane) × (told : LocateReply) × OwnRuns interface new (located_run q here one other) lane
    × (lane.client.entry ≡ Some (client.LocateDone q told))
call_located interface q here one other plans gives =
    let codec = coding interface in
    let asks = call_read interface None (asked.Locate q) (sends_cut (at_client.Call (asked.Locate q)) (alone one)) plans in
    let read = subst (λ pieces. codec.read_call pieces ≡ heard.Locate q)
    (same_pieces (at_client.Call (asked.Locate q)) (alone one) asks.0 asks.1) asks.2.read in
    let back = located_read interface q here (sends_one (at_server.AnswerLocate here) other) gives in
    let told = back.1 in
    let reads = subst (λ piece. codec.read_reply (asked.Locate q) (piece ∷ []) ≡ answer.Locate told)
    (same_piece (at_server.AnswerLocate here) other back.0 back.2) back.3.read in (
      located q here told one other,
      told,
      (
        plans,
        (
          sought q one,
          seeks codec q here told one other,
          (
            tt,
            (
              seen q one,
              sees codec q here told one other read,
              (
                λ also is. subst (λ q. PlansLocated q here (sends_one (at_server.AnswerLocate here) other)) (same_located q also is) gives,
                (
                  told_by q here one other,
                  tells codec q here told one other,
                  (tt, (located q here told one other, locates codec q here told one other reads, refl)),
                ),
              ),
            ),
          ),
        ),
      ),
      refl,
    )
