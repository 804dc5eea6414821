-- The session's own way to read what is cut into pieces (CORBA 3.3 Part 2, 9.4.2, 9.4.3, 9.4.5,
-- 9.4.6 and 9.4.9): the joined octets of all pieces, in the version and the byte order of the one
-- that comes last.
use Rattle.std.specs.Prelude.{List, [], ◌∷◌}
use Rattle.giop_cdr.specs.declared.order.Order.TheVariants.{Big}
use Rattle.giop_types.specs.declared.interfaces.interface.Interface.{Interface}
use Rattle.giop_msg.specs.declared.kind.Kind.{Kind}
use Rattle.giop_msg.specs.declared.kind.Kind.TheVariants as message
use Rattle.giop_msg.specs.declared.version.Version.TheVariants.{V10}
use Rattle.giop_msg.specs.Cut.{joined}
use Rattle.giop_calls.specs.declared.client.call.Call.{Call}
use Rattle.giop_calls.specs.declared.client.heard.HeardReply.{HeardReply}
use Rattle.giop_calls.specs.declared.client.heard.HeardReply.TheVariants as reply
use Rattle.giop_calls.specs.declared.kind.CallKind.{CallKind}
use Rattle.giop_calls.specs.declared.kind.CallKind.TheVariants as kind
use Rattle.giop_calls.specs.declared.server.heard.HeardCall.{HeardCall}
use Rattle.giop_calls.specs.Lane.{Codec, Piece}
use Rattle.giop_end.specs.Hearing.ClientHears.{heard_reply}
use Rattle.giop_end.specs.Hearing.Decoding.{heard_call}

-- the piece that comes last, behind a first one
abbrev pub last_piece : Piece → List Piece → Piece
last_piece m [] = m
last_piece m (n ∷ pieces) = last_piece n pieces

-- which call a message of this type asks
abbrev pub kind_asked : Kind → CallKind
kind_asked message.LocateRequest = kind.Locate
kind_asked _ = kind.Request

-- what a server's end reads in the pieces of a call; no pieces are as no octets
abbrev pub read_call : Interface → List Piece → HeardCall
read_call interface [] = heard_call interface kind.Request V10 Big []
read_call interface (m ∷ pieces) =
    let last = last_piece m pieces in
    heard_call interface (kind_asked m.kind) last.version last.order (joined (m ∷ pieces))

-- and what a client's end reads in those of a reply to its call
abbrev pub read_reply : Interface → Call → List Piece → HeardReply
read_reply interface call [] = reply.Unread
read_reply interface call (m ∷ pieces) =
    let last = last_piece m pieces in
    heard_reply interface call last.version last.order (joined (m ∷ pieces))

-- both, as the lane's law takes them
abbrev pub coding : Interface → Codec
coding interface = record { read_call = read_call interface; read_reply = read_reply interface }
