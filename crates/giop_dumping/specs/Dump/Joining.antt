-- The Requests in pieces of a file, joined by their ids (CORBA 3.3 Part 2, 9.4.9).
use Rattle.std.specs.Prelude.{ℕ, false, List, Option, Some, None, Result, Ok, Err, drop, if◌then◌else◌, length}
use Rattle.std.specs.FinMap as finite
use Rattle.giop_cdr.specs.declared.fault.CdrFault.{CdrFault}
use Rattle.giop_ids.specs.ById.{put}
use Rattle.giop_frag.specs.declared.fault.GatherFault.{GatherFault}
use Rattle.giop_frag.specs.declared.fault.GatherFault.TheVariants.{Stray}
use Rattle.giop_frag.specs.Gathered.{Lists, Pieces, add_fault_by, grown, is_over, room_fault}
use Rattle.giop_msg.specs.declared.kind.Kind.{Kind}
use Rattle.giop_msg.specs.declared.kind.Kind.TheVariants.{Fragment, Request}
use Rattle.giop_msg.specs.declared.msg.Msg.{Msg}
use Rattle.giop_msg.specs.RequestId.{request_id_of}
use Rattle.giop_dumping.specs.declared.dump.joining.Piece.{Piece}
use Rattle.giop_dumping.specs.declared.dump.joining.Piece.TheVariants.{Joined, Unjoined, Untold}

-- what a Fragment brings: the octets behind its request id
abbrev pub brought_of : Msg → List ℕ
brought_of m = drop 4 m.payload

-- why the first piece of a Request isn't gathered within a limit: what its id had is dropped
abbrev pub first_fault : ℕ → Lists → ℕ → Msg → Option GatherFault
first_fault limit lists id m = room_fault (is_over limit (put lists id None) (length m.payload))

-- why a Fragment isn't joined to what is gathered under its id
abbrev pub fragment_fault : ℕ → Lists → ℕ → Msg → Option GatherFault
fragment_fault limit lists id m =
    add_fault_by (is_over limit lists (length (brought_of m))) (finite.get lists id) m.order

-- the Request that these joined octets are, of which the last piece came
abbrev pub joined_of : Msg → Pieces → Msg
joined_of m pieces = record {
  version = m.version;
  order = pieces.order;
  more = false;
  kind = Request;
  payload = pieces.octets;
}

-- what is gathered under an id behind its first piece, or behind a Fragment
abbrev pub begun : Msg → Option GatherFault → Option Pieces
begun m None = Some (record { order = m.order; octets = m.payload })
begun m (Some e) = None

abbrev pub gone_on : Msg → Option GatherFault → Option Pieces → Option Pieces
gone_on m None held = if m.more then grown held (brought_of m) else None
gone_on m (Some e) held = None

-- what is gathered under an id behind a message of a kind that names it: one that doesn't go on
-- with the Request ends what there was
abbrev pub held_behind : ℕ → Lists → ℕ → Kind → Msg → Option Pieces
held_behind limit lists id Request m =
    if m.more then begun m (first_fault limit lists id m) else None
held_behind limit lists id Fragment m =
    gone_on m (fragment_fault limit lists id m) (finite.get lists id)
held_behind limit lists id _ m = None

-- what is gathered behind a message
abbrev pub lists_by : ℕ → Lists → Msg → Option (Result ℕ CdrFault) → Lists
lists_by limit lists m (Some (Ok id)) = put lists id (held_behind limit lists id m.kind m)
lists_by limit lists m (Some (Err e)) = lists
lists_by limit lists m None = lists

abbrev pub lists_after : ℕ → Lists → Msg → Lists
lists_after limit lists m = lists_by limit lists m (request_id_of m)

-- what is told of a piece that isn't joined: nothing, where nothing is gathered under its id, as of
-- a Reply's
abbrev pub unjoined : GatherFault → Piece
unjoined Stray = Untold
unjoined e = Unjoined e

-- what is told of a first piece, by why it isn't gathered
abbrev pub first_piece : Option GatherFault → Piece
first_piece None = Untold
first_piece (Some e) = unjoined e

-- what is told of the last piece of these, and of a Fragment, by why it isn't joined to them
abbrev pub last_piece : Msg → Option Pieces → Piece
last_piece m None = Untold
last_piece m (Some pieces) = Joined (joined_of m pieces)

abbrev pub next_piece : Msg → Option GatherFault → Option Pieces → Piece
next_piece m None held = if m.more then Untold else last_piece m (grown held (brought_of m))
next_piece m (Some e) held = unjoined e

-- what is told of a message of a kind that names an id
abbrev pub piece_of : ℕ → Lists → ℕ → Kind → Msg → Piece
piece_of limit lists id Request m =
    if m.more then first_piece (first_fault limit lists id m) else Untold
piece_of limit lists id Fragment m =
    next_piece m (fragment_fault limit lists id m) (finite.get lists id)
piece_of limit lists id _ m = Untold

-- what is told of a message as a piece
abbrev pub piece_by : ℕ → Lists → Msg → Option (Result ℕ CdrFault) → Piece
piece_by limit lists m (Some (Ok id)) = piece_of limit lists id m.kind m
piece_by limit lists m (Some (Err e)) = Untold
piece_by limit lists m None = Untold

abbrev pub told_piece : ℕ → Lists → Msg → Piece
told_piece limit lists m = piece_by limit lists m (request_id_of m)
