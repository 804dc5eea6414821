-- The rules of both ends go by what their entries know of the messages that are gathered for them
-- (CORBA 3.3 Part 2, 9.4.9).
use Rattle.std.specs.Prelude.{◌≡◌, ℕ, Bool, true, false, if◌then◌else◌, List, Option, Some, None, Result, Ok, Err, refl}
use Rattle.std.proofs.Common.{ap, subst, sym}
use Rattle.giop_cdr.specs.declared.fault.CdrFault.{CdrFault}
use Rattle.giop_types.specs.declared.interfaces.interface.Interface.{Interface}
use Rattle.giop_msg.specs.declared.messages.locate_reply.LocateReply.{LocateReply}
use Rattle.giop_msg.specs.declared.messages.reply.Reply.{Reply}
use Rattle.giop_msg.specs.declared.msg.Msg.{Msg}
use Rattle.giop_msg.specs.Joined.{joined_from}
use Rattle.giop_msg.specs.Messages.LocateReply.{locate_reply}
use Rattle.giop_msg.specs.Messages.Reply.{reply}
use Rattle.giop_calls.specs.declared.kind.CallKind.{CallKind}
use Rattle.giop_calls.specs.declared.client.call.Call.{Call as Asked}
use Rattle.giop_calls.specs.declared.client.call.Call.TheVariants as asked
use Rattle.giop_calls.specs.declared.client.entry.ClientEntry.{ClientEntry}
use Rattle.giop_calls.specs.declared.client.entry.ClientEntry.TheVariants as client
use Rattle.giop_calls.specs.declared.client.event.ClientEvent.TheVariants as client_event
use Rattle.giop_calls.specs.declared.client.heard.HeardReply.{HeardReply}
use Rattle.giop_calls.specs.declared.client.heard.HeardReply.TheVariants as heard_reply
use Rattle.giop_calls.specs.declared.client.late.Late.TheVariants as late
use Rattle.giop_calls.specs.declared.server.entry.ServerEntry.{ServerEntry}
use Rattle.giop_calls.specs.declared.server.entry.ServerEntry.TheVariants as server
use Rattle.giop_calls.specs.declared.server.event.ServerEvent.TheVariants as server_event
use Rattle.giop_calls.specs.declared.server.heard.HeardCall.{HeardCall}
use Rattle.giop_calls.specs.declared.server.heard.HeardCall.TheVariants as heard_call
use Rattle.giop_calls.specs.Messages.{is_oneway}
use Rattle.giop_calls.specs.ClientTable as client_table
use Rattle.giop_calls.specs.ServerTable as server_table
use Rattle.giop_end.specs.Hearing.ClientHears.{client_pieces, gathered_in, heard_located_by, heard_reply_by, reply_in}
use Rattle.giop_end.specs.Hearing.Pieces.{Ends, JoinsBy, gathers_in}
use Rattle.giop_end.specs.Hearing.ServerHears.{call_in, kind_in, server_pieces}

-- ---- a server

-- it knows of a message in one entry alone
server_knows : (entry : ServerEntry) (kind : CallKind) → kind_in entry ≡ Some kind
    → entry ≡ server.Gathering kind
server_knows (server.Gathering one) kind is =
    let same : one ≡ kind = cc in ap server.Gathering same
server_knows (server.Asked request) kind is = absurd cc
server_knows (server.Undecoded call) kind is = absurd cc
server_knows (server.LocateAsked request) kind is = absurd cc
server_knows (server.Answered asked reply left) kind is = absurd cc
server_knows (server.LocateAnswered target here) kind is = absurd cc
server_knows (server.Delivered request) kind is = absurd cc
server_knows (server.Cancelled answered left) kind is = absurd cc

-- what stands for a whole message gathers nothing
arrived_idle : (call : HeardCall)
    → server_table.is_gathering (server_table.arrived call) ≡ false
arrived_idle (heard_call.Request request) = by_oneway (is_oneway request)
  where
    by_oneway : (b : Bool)
        → server_table.is_gathering (if b then server.Delivered request else server.Asked request)
        ≡ false
    by_oneway true = refl
    by_oneway false = refl
arrived_idle (heard_call.Locate request) = refl
arrived_idle (heard_call.Undecoded call) = refl

-- a step leaves an idle entry
abbrev ServerIdle : Option ServerEntry → Type 0
ServerIdle entry = gathers_in server_table.is_gathering entry ≡ false

server_stray : (entry : Option ServerEntry) → ServerIdle entry
    → ServerIdle (server_table.server_step entry (server_event.More false)).entry
server_stray None idle = idle
server_stray (Some (server.Gathering kind)) idle = idle
server_stray (Some (server.Asked request)) idle = idle
server_stray (Some (server.Undecoded call)) idle = idle
server_stray (Some (server.LocateAsked request)) idle = idle
server_stray (Some (server.Answered asked reply left)) idle = idle
server_stray (Some (server.LocateAnswered target here)) idle = idle
server_stray (Some (server.Delivered request)) idle = idle
server_stray (Some (server.Cancelled answered left)) idle = idle

pub server_joins : JoinsBy server_table.server_step server_table.is_gathering server_pieces
server_joins = record {
  gathered = λ entry kind is. ap server_table.is_gathering (server_knows entry kind is);
  more = λ entry kind is. subst
      (λ (e : ServerEntry). server_table.server_step (Some e) (server_event.More true)
      ≡ record { entry = Some e; outcome = Ok tt }) (sym (server_knows entry kind is)) refl;
  last = λ entry kind interface m octets is. subst
      (λ (e : ServerEntry). Ends server_table.is_gathering (server_table.server_step (Some e)
      (server_event.Last true (call_in interface kind m octets))))
      (sym (server_knows entry kind is))
      (refl, arrived_idle (call_in interface kind m octets));
  stray = λ entry m. server_stray entry;
}

-- ---- a client

client_knows : (entry : ClientEntry) (call : Asked) → gathered_in entry ≡ Some call
    → entry ≡ client.Gathering call
client_knows (client.Gathering one) call is =
    let same : one ≡ call = cc in ap client.Gathering same
client_knows (client.Sending one left) call is = absurd cc
client_knows (client.Waiting one) call is = absurd cc
client_knows (client.Done request reply) call is = absurd cc
client_knows (client.LocateDone request reply) call is = absurd cc
client_knows (client.Undecoded one fault) call is = absurd cc
client_knows (client.OnewaySent request) call is = absurd cc
client_knows (client.Cancelled late) call is = absurd cc

-- what joined octets come to settles the call that they answer
abbrev Settles : Asked → HeardReply → Type 0
Settles call reply = Ends client_table.is_gathering
    (client_table.settles (client.Gathering call) call reply)

settled : (interface : Interface) (call : Asked) (m : Msg) (octets : List ℕ)
    → Settles call (reply_in interface call m octets)
settled interface (asked.Request request) m octets =
    by_reading ((reply interface (Some request) m.version).read (joined_from m.order octets))
  where
    by_reading : (read : Result Reply CdrFault)
        → Settles (asked.Request request) (heard_reply_by read)
    by_reading (Ok reply) = (refl, refl)
    by_reading (Err fault) = (refl, refl)
settled interface (asked.Locate request) m octets =
    by_reading ((locate_reply m.version).read (joined_from m.order octets))
  where
    by_reading : (read : Result LocateReply CdrFault)
        → Settles (asked.Locate request) (heard_located_by read)
    by_reading (Ok reply) = (refl, refl)
    by_reading (Err fault) = (refl, refl)

abbrev ClientIdle : Option ClientEntry → Type 0
ClientIdle entry = gathers_in client_table.is_gathering entry ≡ false

more_stray : (entry : Option ClientEntry) → ClientIdle entry
    → ClientIdle (client_table.client_step entry (client_event.More false)).entry
more_stray None idle = idle
more_stray (Some (client.Gathering call)) idle = idle
more_stray (Some (client.Sending call left)) idle = idle
more_stray (Some (client.Waiting call)) idle = idle
more_stray (Some (client.Done request reply)) idle = idle
more_stray (Some (client.LocateDone request reply)) idle = idle
more_stray (Some (client.Undecoded call fault)) idle = idle
more_stray (Some (client.OnewaySent request)) idle = idle
more_stray (Some (client.Cancelled late)) idle = idle

last_stray : (entry : Option ClientEntry) → ClientIdle entry
    → ClientIdle (client_table.client_step entry (client_event.Last false heard_reply.Unread)).entry
last_stray None idle = idle
last_stray (Some (client.Gathering call)) idle = idle
last_stray (Some (client.Sending call left)) idle = idle
last_stray (Some (client.Waiting call)) idle = idle
last_stray (Some (client.Done request reply)) idle = idle
last_stray (Some (client.LocateDone request reply)) idle = idle
last_stray (Some (client.Undecoded call fault)) idle = idle
last_stray (Some (client.OnewaySent request)) idle = idle
last_stray (Some (client.Cancelled late.None)) idle = idle
last_stray (Some (client.Cancelled late.Begun)) idle = idle
last_stray (Some (client.Cancelled late.Seen)) idle = idle

client_stray : (more : Bool) (entry : Option ClientEntry) → ClientIdle entry
    → ClientIdle (client_table.client_step entry (if more then client_event.More false
    else client_event.Last false heard_reply.Unread)).entry
client_stray true entry idle = more_stray entry idle
client_stray false entry idle = last_stray entry idle

pub client_joins : JoinsBy client_table.client_step client_table.is_gathering client_pieces
client_joins = record {
  gathered = λ entry call is. ap client_table.is_gathering (client_knows entry call is);
  more = λ entry call is. subst
      (λ (e : ClientEntry). client_table.client_step (Some e) (client_event.More true)
      ≡ record { entry = Some e; outcome = Ok tt }) (sym (client_knows entry call is)) refl;
  last = λ entry call interface m octets is. subst
      (λ (e : ClientEntry). Ends client_table.is_gathering (client_table.client_step (Some e)
      (client_event.Last true (reply_in interface call m octets))))
      (sym (client_knows entry call is)) (settled interface call m octets);
  stray = λ entry m. client_stray m.more entry;
}
