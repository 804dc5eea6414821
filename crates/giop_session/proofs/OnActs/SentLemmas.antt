-- What an end sends are messages, whatever limit a framer has of the largest.
use Rattle.std.proofs.Common.{◌≡◌, ℕ, ◌-◌, ◌<◌, ◌^◌, if◌then◌else◌, Bool, false, length, Option, Some, None, refl, ap, subst, ◌∙◌, arith}
use Rattle.std.specs.List.{All}
use Rattle.giop_cdr.specs.Ending.{ended}
use Rattle.giop_cdr.specs.declared.order.Order.{Order}
use Rattle.giop_cdr.specs.declared.order.Order.TheVariants.{Big, Little}
use Rattle.giop_types.specs.declared.interfaces.interface.Interface.{Interface}
use Rattle.giop_msg.specs.Header.{fault_of, ulong_octets}
use Rattle.giop_msg.specs.Locate.{AnyLocateRequest}
use Rattle.giop_msg.specs.Msg.{head_of}
use Rattle.giop_msg.specs.declared.header.Header.{Header}
use Rattle.giop_msg.specs.declared.kind.Kind.{Kind}
use Rattle.giop_msg.specs.declared.kind.Kind.TheVariants as message
use Rattle.giop_msg.specs.declared.messages.reply.Reply.{Reply}
use Rattle.giop_msg.specs.declared.messages.request.Request.{Request}
use Rattle.giop_msg.specs.declared.msg.Msg.{Msg}
use Rattle.giop_msg.specs.declared.version.Version.{Version}
use Rattle.giop_msg.proofs.CutLemmas.{CutLaws-hold}
use Rattle.giop_msg.proofs.HeaderLemmas.{header_fault-header_octets}
use Rattle.giop_calls.specs.Lane.{Cut, pieces_of}
use Rattle.giop_calls.specs.declared.client.call.Call.{Call}
use Rattle.giop_calls.specs.declared.client.call.Call.TheVariants as asked
use Rattle.giop_calls.specs.declared.client.entry.ClientEntry.{ClientEntry}
use Rattle.giop_calls.specs.declared.client.event.ClientEvent.TheVariants as at_client
use Rattle.giop_calls.specs.declared.server.event.ServerEvent.TheVariants as at_server
use Rattle.giop_end.specs.Acts.ClientCalls.{IsCancel, locate_octets, request_octets}
use Rattle.giop_session.specs.Worlds.OnTheWay.{IsFramed}
use Rattle.giop_session.specs.Worlds.OwnLane.{PlansCall, PlansLocated, PlansReply, sends_cut}
use Rattle.giop_end.specs.Acts.Sent.{cancel_request, sends_one}
use Rattle.giop_end.specs.Acts.ServerAnswers.{located, reply_octets}
use Rattle.giop_session.proofs.OnActs.WrittenLemmas.{locate_written, reply_written, request_written}
use Rattle.giop_session.proofs.OnLanes.CodingLemmas.{same_piece}
use Rattle.giop_end.proofs.OnActs.LocatedLemmas.{located_eight}

-- ---- what is cut

pub call_framed : (interface : Interface) (entry : Option ClientEntry) (call : Call) (cut : Cut)
    → PlansCall interface entry call (sends_cut (at_client.Call call) cut) → All IsFramed (pieces_of cut)
unfolding ended
call_framed interface entry (asked.Request q) cut is =
    let written = request_written interface entry q cut is in
    (CutLaws-hold.framed q.head.version message.Request is.form.order (request_octets interface q is.form.order) is.form.piece (pieces_of cut)
    written.can_cut written.is_cut).each
call_framed interface entry (asked.Locate q) cut is =
    let written = locate_written interface entry q cut is in
    (CutLaws-hold.framed q.version message.LocateRequest is.form.order (locate_octets q is.form.order) is.form.piece (pieces_of cut)
    written.can_cut written.is_cut).each

pub reply_framed : (interface : Interface) (q : Request) (r : Reply) (cut : Cut) → PlansReply interface q r (sends_cut (at_server.Answer r) cut)
    → All IsFramed (pieces_of cut)
reply_framed interface q r cut is =
    let written = reply_written interface q r cut is in
    (CutLaws-hold.framed r.version message.Reply is.form.order (reply_octets interface (Some q) r is.form.order) is.form.piece (pieces_of cut)
    written.can_cut written.is_cut).each

-- ---- what is one message

abbrev alone : Version → Kind → Order → ℕ → Header
alone version kind order size = record { version = version; order = order; more = false; kind = kind; size = size }

framed_of : (m : Msg) → length m.payload < 2 ^ 32 → fault_of (2 ^ 32 - 1) (head_of m) ≡ None → IsFramed m
framed_of m sized none = record { sized = sized; sound = header_fault-header_octets (2 ^ 32 - 1) (head_of m) sized ∙ none }

located_size : (version : Version) (order : Order) (size : ℕ) → size ≡ 8 → fault_of (2 ^ 32 - 1) (alone version message.LocateReply order size) ≡ None
located_size version order size is = ap (λ n. fault_of (2 ^ 32 - 1) (alone version message.LocateReply order n)) is

pub located_framed : (interface : Interface) (q : AnyLocateRequest) (here : Bool) (piece : Msg)
    → PlansLocated q here (sends_one (at_server.AnswerLocate here) piece) → IsFramed piece
located_framed interface q here piece (id, order, (small, plans)) =
    let version = q.version in
    let m = located version order id here in
    let eight : length m.payload ≡ 8 = located_eight version order id (if here then 1 else 0) in
    subst IsFramed (same_piece (at_server.AnswerLocate here) piece m plans)
    (framed_of m (omega (arith, eight)) (located_size version order (length m.payload) eight))

four_octets : (order : Order) (n : ℕ) → length (ulong_octets order n) ≡ 4
four_octets Big n = refl
four_octets Little n = refl

cancel_size : (version : Version) (order : Order) (size : ℕ) → size ≡ 4 → fault_of (2 ^ 32 - 1) (alone version message.CancelRequest order size) ≡ None
cancel_size version order size is = ap (λ n. fault_of (2 ^ 32 - 1) (alone version message.CancelRequest order n)) is

pub cancel_framed : (id : ℕ) (order : Order) (version : Version) (m : Msg) → IsCancel id order (Some version) (sends_one at_client.Cancel m) → IsFramed m
cancel_framed id order version m (small, is) =
    let sent = cancel_request version order id in
    let four : length sent.payload ≡ 4 = four_octets order id in
    subst IsFramed (same_piece at_client.Cancel m sent is)
    (framed_of sent (omega (arith, four)) (cancel_size version order (length sent.payload) four))
