-- A whole LocateReply (CORBA 3.3 Part 2, 9.4.6).
use Rattle.giop_cdr.specs.Ending.{Ending, leads, made_of, remainder}
use Rattle.giop_msg.specs.declared.messages.locate_reply.LocateReply.{LocateReply}
use Rattle.giop_msg.specs.declared.version.Version.{Version}
use Rattle.giop_msg.specs.Locate.{locate_reply_head}

-- its head, and the octets behind the status as they are
unfoldable pub locate_reply : Version → Ending LocateReply
locate_reply version =
    leads (λ reply. reply.head) (locate_reply_head version) λ head.
    made_of (λ reply. reply.rest) (λ rest. record { head = head; rest = rest }) remainder
