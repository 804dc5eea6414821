-- What the handles of an interface and of the ends hold may go to another thread. Their types hold
-- types that contain themselves (`Desc`, `Value`), of which no law is made by the toolchain; so it
-- is proved here a part at a time, since one search through all of an end breaks off at its limit.
use denote.Builtin.{unit}
use denote.Param.Send.{IsSend, IsSync, sendable}
use Rattle.std.proofs.Crossing.{crosses}
use Rattle.std.proofs.MapsCrossing.{crosses as maps}
use Rattle.giop_types.proofs.description.desc.Desc.TheLaws.TheKnot as desc
use Rattle.giop_types.proofs.value.Value.TheLaws.TheKnot as value
use Rattle.giop_types.specs.contracts.interfaces.interface.Interface as Interface
use Rattle.giop_types.specs.contracts.interfaces.offer.Offer as Offer
use Rattle.giop_msg.proofs.framer.Framer.TheSendSync as framer
use Rattle.giop_msg.proofs.target.Target.TheSendSync as target
use Rattle.giop_msg.specs.contracts.messages.locate_reply.LocateReply as LocateReply
use Rattle.giop_msg.specs.contracts.messages.reply.Reply as Reply
use Rattle.giop_msg.specs.contracts.messages.request.Request as Request
use Rattle.giop_frag.specs.contracts.gather.Gather as Gather
use Rattle.giop_calls.proofs.aside.Aside.TheSendSync as aside
use Rattle.giop_calls.specs.contracts.aside.Aside as Aside
use Rattle.giop_calls.specs.contracts.client.call.Call as Call
use Rattle.giop_calls.specs.contracts.client.entry.ClientEntry as ClientEntry
use Rattle.giop_calls.specs.contracts.client.event.ClientEvent as ClientEvent
use Rattle.giop_calls.specs.contracts.client.rule.ClientRule as ClientRule
use Rattle.giop_calls.specs.contracts.client.rule.ClientRuleCallRule.TheImpl.{ghosts as client_rule}
use Rattle.giop_calls.specs.contracts.fault.CallFault as CallFault
use Rattle.giop_calls.specs.contracts.server.entry.ServerEntry as ServerEntry
use Rattle.giop_calls.specs.contracts.server.event.ServerEvent as ServerEvent
use Rattle.giop_calls.specs.contracts.server.rule.ServerRule as ServerRule
use Rattle.giop_calls.specs.contracts.server.rule.ServerRuleCallRule.TheImpl.{ghosts as server_rule}
use Rattle.giop_end.proofs.acts.outgoing.Outgoing.TheSendSync as outgoing
use Rattle.giop_table.specs.contracts.call_table.CallTable as CallTable
use Rattle.giop_calls.specs.contracts.client.rule.ClientRuleSide.TheImpl.{ghosts as client_side}
use Rattle.giop_calls.specs.contracts.server.rule.ServerRuleSide.TheImpl.{ghosts as server_side}
use Rattle.giop_table.specs.contracts.slot.Slot as Slot
use Rattle.giop_end.specs.contracts.end.detached.Detached as Detached
use Rattle.giop_c.specs.contracts.client.caller.Caller as Caller
use Rattle.giop_c.specs.contracts.server.served.Served as Served
use Rattle.giop_c.specs.contracts.shared.Shared as Shared

-- ---- what objects offer, and an interface, which several ends share
offer_field : IsSend (Offer.the_field).row
offer_field = search (crosses, maps, desc.crosses_both, sendable) depth 60 fits 20000

offer_row : IsSend Offer.the_row
offer_row = search (offer_field, sendable) depth 10

offer_shared_field : IsSync (Offer.the_field).row
offer_shared_field = search (crosses, maps, desc.crosses_both, sendable) depth 60 fits 20000

offer_shared_row : IsSync Offer.the_row
offer_shared_row = search (offer_shared_field, sendable) depth 10

interface_field : IsSend (Interface.the_field).row
interface_field = search (offer_field, offer_row, crosses, maps, sendable) depth 60 fits 20000

interface_row : IsSend Interface.the_row
interface_row = search (interface_field, sendable) depth 10

interface_shared_field : IsSync (Interface.the_field).row
interface_shared_field = search (offer_shared_field, offer_shared_row, crosses, maps, sendable) depth 60 fits 20000

interface_shared_row : IsSync Interface.the_row
interface_shared_row = search (interface_shared_field, sendable) depth 10

pub shared_send : IsSend Shared.the_row
shared_send = search (interface_row, interface_shared_row, crosses, sendable) depth 60 fits 20000

-- ---- messages, as entries hold them
request_row : IsSend Request.the_row
request_row = search (crosses, maps, value.crosses, sendable) depth 60 fits 20000

reply_row : IsSend Reply.the_row
reply_row = search (crosses, maps, value.crosses, sendable) depth 60 fits 20000

aside_request : IsSend (Aside.the_field Request.the_row).row
aside_request = search (request_row, crosses, sendable) depth 20

aside_reply : IsSend (Aside.the_field Reply.the_row).row
aside_reply = search (reply_row, crosses, sendable) depth 20

locate_reply : IsSend (LocateReply.the_field).row
locate_reply = search (crosses, maps, sendable) depth 60 fits 20000

gather : IsSend (Gather.the_field).row
gather = search (crosses, maps, sendable) depth 60 fits 20000

-- ---- a server's end
server_entry : IsSend ServerEntry.the_row
server_entry = search (request_row, reply_row, crosses, maps, value.crosses, sendable) depth 60 fits 20000

server_slot : IsSend (Slot.the_row ServerEntry.the_row)
server_slot = search (server_entry, crosses, maps, sendable) depth 60 fits 20000

server_table :
    IsSend (CallTable.the_field ServerRule.the_row ServerEntry.the_row ServerEvent.the_row unit CallFault.the_row server_side server_rule).row
server_table = search (server_slot, gather, crosses, maps, sendable) depth 60 fits 20000

server_end :
    IsSend (Detached.the_field ServerRule.the_row ServerEntry.the_row ServerEvent.the_row unit CallFault.the_row server_side server_rule).row
server_end = search (server_table, framer.the_send, outgoing.the_send, crosses, maps, sendable) depth 60 fits 20000

pub served_send : IsSend Served.the_row
served_send = search (server_end, interface_row, interface_shared_row, crosses, sendable) depth 60 fits 20000

-- ---- a client's end
call : IsSend (Call.the_field).row
call = search (aside_request, aside.the_send, target.the_send, crosses, maps, sendable) depth 60 fits 20000

client_entry : IsSend ClientEntry.the_row
client_entry = search (call, aside_request, aside_reply, aside.the_send, target.the_send, locate_reply, crosses, sendable) depth 60 fits 20000

client_slot : IsSend (Slot.the_row ClientEntry.the_row)
client_slot = search (client_entry, crosses, maps, sendable) depth 60 fits 20000

client_table :
    IsSend (CallTable.the_field ClientRule.the_row ClientEntry.the_row ClientEvent.the_row unit CallFault.the_row client_side client_rule).row
client_table = search (client_slot, gather, crosses, maps, sendable) depth 60 fits 20000

client_end :
    IsSend (Detached.the_field ClientRule.the_row ClientEntry.the_row ClientEvent.the_row unit CallFault.the_row client_side client_rule).row
client_end = search (client_table, framer.the_send, outgoing.the_send, crosses, maps, sendable) depth 60 fits 20000

pub caller_send : IsSend Caller.the_row
caller_send = search (client_end, interface_row, interface_shared_row, crosses, sendable) depth 60 fits 20000
