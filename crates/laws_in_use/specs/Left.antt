-- What an end's own program plans to send: a Request of 1.0 and the Reply to it, each in one
-- message, whatever octets the interface makes of it.
use Rattle.std.specs.Prelude.{false, List, Some}
use Rattle.giop_cdr.specs.declared.order.Order.TheVariants.{Big}
use Rattle.giop_types.specs.declared.interfaces.interface.Interface.{Interface}
use Rattle.giop_msg.specs.Cut.{message_of}
use Rattle.giop_msg.specs.declared.kind.Kind.TheVariants.{Reply, Request}
use Rattle.giop_msg.specs.declared.msg.Msg.{Msg}
use Rattle.giop_msg.specs.declared.version.Version.TheVariants.{V10}
use Rattle.giop_calls.specs.declared.client.entry.ClientEntry.{ClientEntry}
use Rattle.giop_calls.specs.declared.client.rule.ClientRule.{ClientRule}
use Rattle.giop_session.specs.declared.Form.{Form}
use Rattle.giop_session.specs.declared.Limits.{Limits}
use Rattle.giop_session.specs.declared.Plan.TheVariants.{Put}
use Rattle.giop_session.specs.declared.Planned.{Planned}
use Rattle.giop_session.specs.Ends.Begun.{no_calls}
use Rattle.giop_session.specs.Calls.CallTable.{Held}
use Rattle.giop_session.specs.Acts.ClientCalls.{request_octets}
use Rattle.giop_session.specs.Acts.ServerAnswers.{reply_octets}
use Rattle.laws_in_use.specs.Exchange.{ping, pong}

-- in pieces of 24 octets, big-endian
abbrev pub form : Form
form = record { order = Big; piece = 24 }

-- an event that is planned to send these messages
abbrev pub sends : {V : Type 0} → V → List Msg → Planned V
sends event messages = record { event = event; plan = Put messages }

-- `ping` of 1.0 in one message
abbrev pub ping_sent : Interface → Msg
ping_sent interface =
    message_of V10 Request Big false (request_octets interface (ping V10) Big)

-- and the answer
abbrev pub pong_sent : Interface → Msg
pong_sent interface =
    message_of V10 Reply Big false (reply_octets interface (Some (ping V10)) (pong V10) Big)

-- a new client's end, which holds no calls
abbrev pub new_client : Limits → Held ClientRule ClientEntry
new_client limits = no_calls (record {}) limits
