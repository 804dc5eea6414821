-- Messages in a stream, and the heads of messages with their octets.
use Rattle.std.specs.Prelude.{ℕ, true, false, List, [], ◌∷◌, codes}
use Rattle.giop_cdr.specs.declared.order.Order.TheVariants.{Big, Little}
use Rattle.giop_msg.specs.declared.header.Header.{Header}
use Rattle.giop_msg.specs.declared.kind.Kind.TheVariants.{CancelRequest, Fragment, LocateRequest, Request}
use Rattle.giop_msg.specs.declared.locate_reply_head.LocateReplyHead.{LocateReplyHead}
use Rattle.giop_msg.specs.declared.messages.reply.Reply.{Reply}
use Rattle.giop_msg.specs.declared.messages.completion.Completion.TheVariants.{No}
use Rattle.giop_msg.specs.declared.messages.reply_body.ReplyBody.TheVariants.{SystemException}
use Rattle.giop_msg.specs.declared.msg.Msg.{Msg}
use Rattle.giop_msg.specs.declared.target.Target.TheVariants.{Key}
use Rattle.giop_msg.specs.declared.version.Version.TheVariants.{V10, V11, V12}
use Rattle.giop_msg.specs.Cut.{message_of}
use Rattle.giop_msg.specs.ReplyHead.{AnyReplyHead}
use Rattle.giop_msg.specs.RequestHead.{Head}

-- a header, little-endian, of a Request of 20 octets to which more is to come
abbrev pub header : Header
header = record { version = V12; order = Little; more = true; kind = Request; size = 20 }

abbrev pub header_line : List ℕ
header_line = 71 ∷ 73 ∷ 79 ∷ 80 ∷ 1 ∷ 2 ∷ 3 ∷ 0 ∷ 20 ∷ 0 ∷ 0 ∷ 0 ∷ []

-- twelve octets that begin as no header does
abbrev pub no_header : List ℕ
no_header = 71 ∷ 73 ∷ 79 ∷ 81 ∷ 1 ∷ 2 ∷ 3 ∷ 0 ∷ 20 ∷ 0 ∷ 0 ∷ 0 ∷ []

-- a LocateRequest under the id 9 in 1.0, and a CancelRequest of it in the other byte order
abbrev pub asks : Msg
asks = message_of V10 LocateRequest Big false (0 ∷ 0 ∷ 0 ∷ 9 ∷ 0 ∷ 0 ∷ 0 ∷ 1 ∷ codes "k")

abbrev pub cancels : Msg
cancels = message_of V12 CancelRequest Little false (9 ∷ 0 ∷ 0 ∷ 0 ∷ [])

-- joined octets of a LocateRequest in 1.2, and the two messages that they are cut into
abbrev pub cut_octets : List ℕ
cut_octets = 0 ∷ 0 ∷ 0 ∷ 7 ∷ 0 ∷ 0 ∷ 0 ∷ 0 ∷ 0 ∷ 0 ∷ 0 ∷ 4 ∷ codes "door"

abbrev pub cut_begins : Msg
cut_begins = message_of V12 LocateRequest Big true
    (0 ∷ 0 ∷ 0 ∷ 7 ∷ 0 ∷ 0 ∷ 0 ∷ 0 ∷ 0 ∷ 0 ∷ 0 ∷ 4 ∷ [])

abbrev pub cut_ends : Msg
cut_ends = message_of V12 Fragment Big false (0 ∷ 0 ∷ 0 ∷ 7 ∷ codes "door")

-- the head of a Request `ping` to the object `k` under the id 7, in 1.2 and in 1.0
abbrev pub asked_head : Head
asked_head = record {
  version = V12;
  id = 7;
  flags = 3;
  target = Key (codes "k");
  operation = codes "ping";
  contexts = [];
}

-- big-endian: the id, flags and reserved octets, the disposition and the key, the operation, no
-- contexts
abbrev pub asked_octets : List ℕ
asked_octets =
    0 ∷ 0 ∷ 0 ∷ 7 ∷ 3 ∷ 0 ∷ 0 ∷ 0 ∷ 0 ∷ 0 ∷ 0 ∷ 0 ∷ 0 ∷ 0 ∷ 0 ∷ 1 ∷ 107 ∷ 0 ∷ 0 ∷ 0
    ∷ 0 ∷ 0 ∷ 0 ∷ 5 ∷ 112 ∷ 105 ∷ 110 ∷ 103 ∷ 0 ∷ 0 ∷ 0 ∷ 0 ∷ 0 ∷ 0 ∷ 0 ∷ 0 ∷ []

-- the head of a Reply without an exception, in 1.1: no contexts, the id, the status
abbrev pub replied_head : AnyReplyHead
replied_head = record { version = V11; id = 7; status = 0; contexts = [] }

abbrev pub replied_octets : List ℕ
replied_octets = 0 ∷ 0 ∷ 0 ∷ 0 ∷ 7 ∷ 0 ∷ 0 ∷ 0 ∷ 0 ∷ 0 ∷ 0 ∷ 0 ∷ []

-- of a LocateReply that an object is here
abbrev pub located_head : LocateReplyHead
located_head = record { version = V10; id = 9; status = 1 }

-- to a Request that couldn't be decoded: an exception of the broker
abbrev pub refusing : Reply
refusing = record {
  version = V12;
  id = 7;
  contexts = [];
  body = SystemException (codes "X") 3 No;
}
