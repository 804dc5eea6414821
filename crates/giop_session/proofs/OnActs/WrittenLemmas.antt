-- What an end plans to send is written by its layout and cut.
use Rattle.std.proofs.Common.{◌≡◌, ℕ, Bool, if◌then◌else◌, [], ◌∷◌, length, Option, Some, refl, subst, inr, arith}
use Rattle.giop_cdr.specs.Ending.{ended}
use Rattle.giop_cdr.specs.declared.order.Order.{Order}
use Rattle.giop_types.specs.declared.interfaces.interface.Interface.{Interface}
use Rattle.giop_msg.specs.Cut.{IsCut}
use Rattle.giop_msg.specs.Locate.{AnyLocateRequest, locate_request}
use Rattle.giop_msg.specs.Messages.LocateReply.{locate_reply}
use Rattle.giop_msg.specs.Messages.Outcome.{joined_into}
use Rattle.giop_msg.specs.Messages.Reply.{reply}
use Rattle.giop_msg.specs.Messages.Request.{request}
use Rattle.giop_msg.specs.declared.kind.Kind.TheVariants as message
use Rattle.giop_msg.specs.declared.messages.reply.Reply.{Reply}
use Rattle.giop_msg.specs.declared.messages.request.Request.{Request}
use Rattle.giop_msg.specs.declared.msg.Msg.{Msg}
use Rattle.giop_msg.specs.declared.version.Version.{Version}
use Rattle.giop_calls.specs.Lane.{Cut, pieces_of}
use Rattle.giop_calls.specs.declared.client.call.Call.TheVariants as asked
use Rattle.giop_calls.specs.declared.client.entry.ClientEntry.{ClientEntry}
use Rattle.giop_calls.specs.declared.client.event.ClientEvent.TheVariants as at_client
use Rattle.giop_calls.specs.declared.server.event.ServerEvent.TheVariants as at_server
use Rattle.giop_end.specs.Acts.ClientCalls.{locate_octets, request_octets}
use Rattle.giop_end.specs.Acts.Sent.{sends_one}
use Rattle.giop_end.specs.Acts.ServerAnswers.{IsLocateAnswer, located, reply_octets}
use Rattle.giop_session.specs.Items.Carries.{IsWrittenAs}
use Rattle.giop_session.specs.Worlds.OwnLane.{PlansCall, PlansReply, sends_cut}
use Rattle.giop_end.proofs.OnActs.LocatedLemmas.{located_eight}
use Rattle.giop_session.proofs.OnLanes.CodingLemmas.{locate_sent, reply_sent, request_sent, same_piece, same_pieces, told_fits, told_holds, result_of}

pub request_written : (interface : Interface) (entry : Option ClientEntry) (q : Request) (cut : Cut)
    (is : PlansCall interface entry (asked.Request q) (sends_cut (at_client.Call (asked.Request q)) cut))
    → IsWrittenAs (request interface q.head.version) is.form.order q message.Request is.form.piece q.head.version (pieces_of cut)
request_written interface entry q cut is =
    let event = at_client.Call (asked.Request q) in
    let sent = request_sent interface entry q (sends_cut event cut) is in record {
      fits = sent.fit;
      holds = is.plans.in_range.holds;
      can_cut = sent.can;
      is_cut = subst (IsCut q.head.version message.Request is.form.order (request_octets interface q is.form.order) is.form.piece)
          (same_pieces event cut sent.cut sent.sent) sent.is_cut;
    }

pub locate_written : (interface : Interface) (entry : Option ClientEntry) (q : AnyLocateRequest) (cut : Cut)
    (is : PlansCall interface entry (asked.Locate q) (sends_cut (at_client.Call (asked.Locate q)) cut))
    → IsWrittenAs (ended (locate_request q.version)) is.form.order q message.LocateRequest is.form.piece q.version (pieces_of cut)
unfolding ended
locate_written interface entry q cut is =
    let event = at_client.Call (asked.Locate q) in
    let sent = locate_sent interface entry q (sends_cut event cut) is in record {
      fits = sent.fit;
      holds = is.plans.in_range.holds;
      can_cut = sent.can;
      is_cut = subst (IsCut q.version message.LocateRequest is.form.order (locate_octets q is.form.order) is.form.piece)
          (same_pieces event cut sent.cut sent.sent) sent.is_cut;
    }

pub reply_written : (interface : Interface) (q : Request) (r : Reply) (cut : Cut)
    (is : PlansReply interface q r (sends_cut (at_server.Answer r) cut))
    → IsWrittenAs (reply interface (Some q) r.version) is.form.order r message.Reply is.form.piece r.version (pieces_of cut)
reply_written interface q r cut is =
    let event = at_server.Answer r in
    let sent = reply_sent interface q r (sends_cut event cut) is in record {
      fits = sent.fit;
      holds = is.plans.in_range.holds;
      can_cut = sent.can;
      is_cut = subst (IsCut r.version message.Reply is.form.order (reply_octets interface (Some q) r is.form.order) is.form.piece)
          (same_pieces event cut sent.cut sent.sent) sent.is_cut;
    }

-- eight octets are one piece of 24
pub located_written : (id : ℕ) (here : Bool) (order : Order) (version : Version) (m : Msg)
    → IsLocateAnswer id here order (Some version) (sends_one (at_server.AnswerLocate here) m)
    → IsWrittenAs (locate_reply version) order (result_of version id here) message.LocateReply 24 version (m ∷ [])
located_written id here order version m (small, is) =
    let octets = ((locate_reply version).written (result_of version id here) (joined_into order)).octets in
    let eight : length octets ≡ 8 = located_eight version order id (if here then 1 else 0) in record {
      fits = told_fits version id here;
      holds = told_holds version id here small;
      can_cut = record {
        continued = refl;
        id = omega (arith, eight);
        short = omega (arith, eight);
        large = omega arith;
        fits = omega arith;
        multiple = refl;
      };
      is_cut = subst (λ m. IsCut version message.LocateReply order octets 24 (m ∷ []))
          (same_piece (at_server.AnswerLocate here) m (located version order id here) is) (refl, inr (omega (arith, eight)));
    }
