-- Each message that an end plans to send is one of its call, to the other end.
use Rattle.std.proofs.Common.{◌≡◌, ℕ, ◌-◌, ◌^◌, Bool, true, List, [], ◌∷◌, Option, Some, None, is_none, refl, subst}
use Rattle.std.specs.List.{All, AllByRecursion}
use Rattle.giop_cdr.specs.Ending.{ended}
use Rattle.giop_cdr.specs.declared.order.Order.{Order}
use Rattle.giop_types.specs.declared.interfaces.interface.Interface.{Interface}
use Rattle.giop_msg.specs.Locate.{AnyLocateRequest}
use Rattle.giop_msg.specs.declared.kind.Kind.{Kind}
use Rattle.giop_msg.specs.declared.kind.Kind.TheVariants as message
use Rattle.giop_msg.specs.declared.messages.reply.Reply.{Reply}
use Rattle.giop_msg.specs.declared.messages.request.Request.{Request}
use Rattle.giop_msg.specs.declared.msg.Msg.{Msg}
use Rattle.giop_msg.specs.declared.version.Version.{Version}
use Rattle.giop_msg.proofs.StreamLemmas.{each_head, each_tail}
use Rattle.giop_calls.specs.Lane.{Cut, pieces_of}
use Rattle.giop_calls.specs.declared.client.call.Call.{Call}
use Rattle.giop_calls.specs.declared.client.call.Call.TheVariants as asked
use Rattle.giop_calls.specs.declared.client.entry.ClientEntry.{ClientEntry}
use Rattle.giop_calls.specs.declared.client.event.ClientEvent.TheVariants as at_client
use Rattle.giop_calls.specs.declared.server.event.ServerEvent.TheVariants as at_server
use Rattle.giop_end.specs.declared.session_fault.SessionFault.{SessionFault}
use Rattle.giop_end.specs.Acts.ClientCalls.{IsCancel, locate_octets, request_octets}
use Rattle.giop_end.specs.Hearing.ClientHears as client_hears
use Rattle.giop_session.specs.Worlds.OnTheWay.{IsFramed, Names, id_of}
use Rattle.giop_session.specs.Worlds.OwnLane.{PlansCall, PlansReply, sends_cut}
use Rattle.giop_session.specs.Acts.PutOut.{AreOf}
use Rattle.giop_end.specs.Acts.Sent.{cancel_request, sends_one}
use Rattle.giop_end.specs.Acts.ServerAnswers.{IsLocateAnswer, located, reply_octets}
use Rattle.giop_end.specs.Hearing.ServerHears as server_hears
use Rattle.giop_session.specs.Worlds.Tracks.{IsFor, IsToClient, IsToServer}
use Rattle.giop_session.proofs.OnActs.WrittenLemmas.{locate_written, reply_written, request_written}
use Rattle.giop_session.proofs.OnLanes.CodingLemmas.{same_piece}
use Rattle.giop_session.proofs.OnActs.IdLemmas.{call_named, cancel_named, located_named, reply_named}
use Rattle.giop_session.proofs.OnActs.PutOutLemmas.{cut_are}
use Rattle.giop_session.proofs.OnActs.SentLemmas.{call_framed, cancel_framed, located_framed, reply_framed}

-- whether a message of a kind goes on at the other end
abbrev to_server : Kind → Bool
to_server kind = is_none (server_hears.breaks_by kind)

abbrev to_client : Kind → Bool
to_client kind = is_none (client_hears.breaks_by kind)

no_fault : (fault : Option SessionFault) → is_none fault ≡ true → fault ≡ None
no_fault None none = refl
no_fault (Some why) none = absurd cc

are_for : (by : Kind → Option SessionFault) (id : ℕ) (messages : List Msg) → All IsFramed messages → AllByRecursion (Names id) messages
    → AreOf (λ kind. is_none (by kind)) messages → AllByRecursion (IsFor (λ m. by m.kind) id) messages
are_for by id [] framed named own = tt
are_for by id (m ∷ messages) framed (name, named) (one, own) = (
  record { framed = each_head (2 ^ 32 - 1) m messages framed; names = name; unbroken = no_fault (by m.kind) one },
  are_for by id messages (each_tail (2 ^ 32 - 1) m messages framed) named own,
)

pub call_for : (interface : Interface) (entry : Option ClientEntry) (call : Call) (cut : Cut)
    → PlansCall interface entry call (sends_cut (at_client.Call call) cut) → AllByRecursion (IsToServer (id_of call)) (pieces_of cut)
unfolding ended
call_for interface entry (asked.Request q) cut is =
    are_for server_hears.breaks_by q.head.id (pieces_of cut) (call_framed interface entry (asked.Request q) cut is)
    (call_named interface entry (asked.Request q) cut is)
    (cut_are to_server q.head.version message.Request is.form.order (request_octets interface q is.form.order) is.form.piece (pieces_of cut)
    refl refl (request_written interface entry q cut is).is_cut)
call_for interface entry (asked.Locate q) cut is =
    are_for server_hears.breaks_by q.id (pieces_of cut) (call_framed interface entry (asked.Locate q) cut is)
    (call_named interface entry (asked.Locate q) cut is)
    (cut_are to_server q.version message.LocateRequest is.form.order (locate_octets q is.form.order) is.form.piece (pieces_of cut)
    refl refl (locate_written interface entry q cut is).is_cut)

pub reply_for : (interface : Interface) (q : Request) (r : Reply) (cut : Cut) → PlansReply interface q r (sends_cut (at_server.Answer r) cut)
    → AllByRecursion (IsToClient r.id) (pieces_of cut)
reply_for interface q r cut is =
    are_for client_hears.breaks_by r.id (pieces_of cut) (reply_framed interface q r cut is) (reply_named interface q r cut is)
    (cut_are to_client r.version message.Reply is.form.order (reply_octets interface (Some q) r is.form.order) is.form.piece (pieces_of cut)
    refl refl (reply_written interface q r cut is).is_cut)

pub located_for : (interface : Interface) (q : AnyLocateRequest) (id : ℕ) (here : Bool) (order : Order) (piece : Msg)
    → IsLocateAnswer id here order (Some q.version) (sends_one (at_server.AnswerLocate here) piece) → IsToClient id piece
located_for interface q id here order piece (small, is) = record {
  framed = located_framed interface q here piece (id, order, (small, is));
  names = located_named id here order q.version piece (small, is);
  unbroken = subst (λ m. client_hears.client_breaks m ≡ None)
      (same_piece (at_server.AnswerLocate here) piece (located q.version order id here) is) refl;
}

pub cancel_for : (id : ℕ) (order : Order) (version : Version) (m : Msg)
    → IsCancel id order (Some version) (sends_one at_client.Cancel m) → IsToServer id m
cancel_for id order version m (small, is) = record {
  framed = cancel_framed id order version m (small, is);
  names = cancel_named id order version m (small, is);
  unbroken = subst (λ m. server_hears.server_breaks m ≡ None) (same_piece at_client.Cancel m (cancel_request version order id) is) refl;
}
