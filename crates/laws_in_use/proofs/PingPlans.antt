-- What `ping` is written as where an interface has it, and the exception that answers it; and that
-- ends plan to send both.
use Rattle.std.proofs.Common.{◌≡◌, ◌&&◌, true, List, [], ◌∷◌, ◌++◌, length, Option, Some, None, is_none, if◌then◌else◌, refl, sym, ap, subst, ◌∙◌, inr, arith, rules}
use Rattle.std.specs.Option.{option_or}
use Rattle.giop_cdr.specs.Ending.{ended, from_multiple_of_8, leads, made_of, unless_empty}
use Rattle.giop_cdr.specs.Layout.{boolean, chosen, field, gives, number, octets, reserved, sequence, signed, such, tagged, text}
use Rattle.giop_cdr.specs.Writing.Output.{items_out, number_out, octets_out, padding_out, sequence_out, signed_out, string_out}
use Rattle.giop_cdr.specs.declared.order.Order.TheVariants.{Big}
use Rattle.giop_types.specs.Coding.Written.{fields_out}
use Rattle.giop_types.specs.Values.Fits.{fields_fit}
use Rattle.giop_types.specs.declared.interfaces.interface.Interface.{Interface}
use Rattle.giop_types.specs.declared.interfaces.interface.Operation.{Operation}
use Rattle.giop_types.specs.declared.interfaces.parameters.Parameter.{Parameter}
use Rattle.giop_ior.specs.ServiceContext.{service_context, service_contexts}
use Rattle.giop_msg.specs.Cut.{CanCut, IsCut}
use Rattle.giop_msg.specs.Messages.Body.{body_of, fields_in, values}
use Rattle.giop_msg.specs.Messages.Outcome.{joined_into}
use Rattle.giop_msg.specs.Messages.Reply.{allowed, completion, no_exception, reply, reply_body, system_exception}
use Rattle.giop_msg.specs.Messages.Request.{operation_asked, request, request_body}
use Rattle.giop_msg.specs.Meaning.{meaning}
use Rattle.giop_msg.specs.ReplyHead.{early_reply_head, reply_head, reply_head_1_2, reply_status}
use Rattle.giop_msg.specs.RequestHead.{early_request_head, principal, request_head, request_head_1_2, reserved_octet, reserved_octets, reserved_of}
use Rattle.giop_msg.specs.RequestHead.{response_expected, response_flags}
use Rattle.giop_msg.specs.Target.{disposition, key_target, object_key, target_by, target_layout}
use Rattle.giop_msg.specs.declared.kind.Kind.TheVariants as message
use Rattle.giop_msg.specs.declared.msg.Msg.{Msg}
use Rattle.giop_msg.specs.declared.version.Version.TheVariants.{V10, V12}
use Rattle.giop_calls.specs.Lane.{Codec, Cut, CutsReply, pieces_of}
use Rattle.giop_calls.specs.declared.client.call.Call.TheVariants as asked
use Rattle.giop_calls.specs.declared.client.event.ClientEvent.TheVariants as at_client
use Rattle.giop_calls.specs.declared.client.heard.HeardReply.TheVariants as told
use Rattle.giop_calls.specs.declared.fault.CallFault.TheVariants.{UnknownOperation}
use Rattle.giop_calls.specs.declared.server.event.ServerEvent.{ServerEvent}
use Rattle.giop_calls.specs.declared.server.event.ServerEvent.TheVariants as at_server
use Rattle.giop_session.specs.declared.Planned.{Planned}
use Rattle.giop_session.specs.Items.Carries.{IsWrittenAs}
use Rattle.giop_session.specs.Acts.ClientCalls.{IsCall, call_fault, is_request_sendable, request_octets}
use Rattle.giop_session.specs.Acts.Form.{is_sendable}
use Rattle.giop_session.specs.Worlds.OwnLane.{PlansCall, PlansReply, alone, sends_cut}
use Rattle.giop_session.specs.Acts.Refused.{unfit_unless}
use Rattle.giop_session.specs.declared.Form.{Form}
use Rattle.laws_in_use.specs.Exchange.{ping, pong}
use Rattle.laws_in_use.specs.Framed.{refusing}
use Rattle.laws_in_use.specs.Pinged.{HasPing, ping_back, ping_begins, ping_cut, ping_ends, ping_front, ping_whole, refusal_begins, refusal_cut, refusal_ends, refusal_whole, room}

module _ (o : Option Operation) (op : Operation) (named : o ≡ Some op) (none : op.ins.list.items ≡ []) where
  body_fits : (request_body V12 (ping V12).head o).fits (ping V12) ≡ true
  unfolding request_body made_of body_of from_multiple_of_8 ended values fields_fit
  body_fits =
      subst (λ (o : Option Operation). (request_body V12 (ping V12).head o).fits (ping V12) ≡ true) (sym named)
      (subst (λ (items : List Parameter). fields_fit (fields_in items) [] ≡ true) (sym none) refl)

  body_holds : (request_body V12 (ping V12).head o).holds (ping V12)
  unfolding request_body made_of body_of from_multiple_of_8 ended values
  body_holds = subst (λ (o : Option Operation). (request_body V12 (ping V12).head o).holds (ping V12)) (sym named) (refl, tt)

  early_body_holds : (request_body V10 (ping V10).head o).holds (ping V10)
  unfolding request_body made_of body_of ended values
  early_body_holds = subst (λ (o : Option Operation). (request_body V10 (ping V10).head o).holds (ping V10)) (sym named) (refl, tt)

  body_written : ((request_body V12 (ping V12).head o).written (ping V12) ((request_head V12).written (ping V12).head (joined_into Big))).octets
      ≡ ping_front ++ ping_back
  unfolding request_body made_of body_of from_multiple_of_8 ended values fields_out request_head request_head_1_2 response_flags
      reserved_octets reserved_octet target_layout disposition target_by key_target service_contexts service_context tagged chosen field gives
      number octets reserved sequence signed such text items_out number_out octets_out padding_out sequence_out signed_out string_out
  body_written =
      let head = (request_head V12).written (ping V12).head (joined_into Big) in
      subst (λ (o : Option Operation). ((request_body V12 (ping V12).head o).written (ping V12) head).octets ≡ ping_front ++ ping_back) (sym named)
      (subst (λ (items : List Parameter).
      (unless_empty head (padding_out 8 head) (fields_out (fields_in items) [] (padding_out 8 head))).octets ≡ ping_front ++ ping_back)
      (sym none) refl)

module _ (interface : Interface) (has : HasPing interface) where
  ping_fits : (request interface V12).fits (ping V12) ≡ true
  unfolding request leads request_head request_head_1_2 response_flags reserved_octets reserved_octet target_layout disposition target_by
      key_target service_contexts service_context tagged chosen field gives number octets reserved sequence signed such text
  ping_fits = body_fits (operation_asked interface (ping V12).head) has.operation has.named has.no_ins

  head_holds : (request_head V12).holds (ping V12).head
  unfolding request_head request_head_1_2 response_flags reserved_octets reserved_octet target_layout disposition target_by
      key_target service_contexts service_context tagged chosen field gives number octets reserved sequence signed such text
  head_holds = search rules

  ping_holds : (request interface V12).holds (ping V12)
  unfolding request leads
  ping_holds = (head_holds, body_holds (operation_asked interface (ping V12).head) has.operation has.named has.no_ins)

  early_head_holds : (request_head V10).holds (ping V10).head
  unfolding request_head early_request_head response_expected meaning reserved_of object_key principal service_contexts service_context tagged
      chosen field gives boolean number octets reserved sequence such text
  early_head_holds = search rules

  -- in 1.0 too
  pub early_ping_holds : (request interface V10).holds (ping V10)
  unfolding request leads
  early_ping_holds = (early_head_holds, early_body_holds (operation_asked interface (ping V10).head) has.operation has.named has.no_ins)

  pub ping_written : request_octets interface (ping V12) Big ≡ ping_front ++ ping_back
  unfolding request leads
  ping_written = body_written (operation_asked interface (ping V12).head) has.operation has.named has.no_ins

  pub ping_unrefused : (form : Form) → form.order ≡ Big → is_sendable 64 64 V12 36 form.piece ≡ true
      → call_fault interface room None (ping V12) form ≡ None
  ping_unrefused form big fine =
      let known = ap (λ (o : Option Operation). option_or (if is_none o then Some UnknownOperation else None)
      (unfit_unless (is_request_sendable interface room (ping V12) form))) has.named in
      let sendable : is_request_sendable interface room (ping V12) form ≡ true =
      ap (λ fits. fits && is_sendable 64 64 V12 (length (request_octets interface (ping V12) form.order)) form.piece) ping_fits
      ∙ ap (λ order. is_sendable 64 64 V12 (length (request_octets interface (ping V12) order)) form.piece) big
      ∙ ap (λ octets. is_sendable 64 64 V12 (length octets) form.piece) ping_written
      ∙ fine in
      known ∙ ap unfit_unless sendable

  ping_is_cut : IsCut V12 message.Request Big (request_octets interface (ping V12) Big) 40 (ping_begins ∷ ping_ends ∷ [])
  ping_is_cut =
      subst (λ octets. IsCut V12 message.Request Big octets 40 (ping_begins ∷ ping_ends ∷ [])) (sym ping_written)
      (refl, refl, omega arith, (refl, omega arith, omega arith))

  pub pings_in_two : PlansCall interface None (asked.Request (ping V12)) (sends_cut (at_client.Call (asked.Request (ping V12))) ping_cut)
  pings_in_two = record {
    limits = room;
    form = record { order = Big; piece = 40 };
    is_form = record { large = omega arith; multiple = refl };
    unrefused = ping_unrefused (record { order = Big; piece = 40 }) refl refl;
    plans = record {
      in_range = record { holds = ping_holds; piece = omega arith };
      sent = (ping_begins ∷ ping_ends ∷ [], ping_is_cut, refl);
    };
  }

  -- in one message
  pub ping_planned : IsCall interface (ping V12) (record { order = Big; piece = 64 }) (sends_cut (at_client.Call (asked.Request (ping V12))) (alone ping_whole))
  ping_planned = record {
    in_range = record { holds = ping_holds; piece = omega arith };
    sent = (
      ping_whole ∷ [],
      subst (λ octets. IsCut V12 message.Request Big octets 64 (ping_whole ∷ [])) (sym ping_written) (refl, inr (omega arith)),
      refl,
    );
  }

  pub pings_in_one : PlansCall interface None (asked.Request (ping V12)) (sends_cut (at_client.Call (asked.Request (ping V12))) (alone ping_whole))
  pings_in_one = record {
    limits = room;
    form = record { order = Big; piece = 64 };
    is_form = record { large = omega arith; multiple = refl };
    unrefused = ping_unrefused (record { order = Big; piece = 64 }) refl refl;
    plans = ping_planned;
  }

  ping_can_cut : CanCut message.Request (request_octets interface (ping V12) Big) 40
  ping_can_cut = subst (λ octets. CanCut message.Request octets 40) (sym ping_written) (record {
    continued = refl;
    id = omega arith;
    short = omega arith;
    large = omega arith;
    fits = omega arith;
    multiple = refl;
  })

  pub ping_as : IsWrittenAs (request interface V12) Big (ping V12) message.Request 40 V12 (ping_begins ∷ ping_ends ∷ [])
  ping_as = record { fits = ping_fits; holds = ping_holds; can_cut = ping_can_cut; is_cut = ping_is_cut }

-- an answer of 1.0 and the exception, whatever the interface
module _ (interface : Interface) where
  pub pong_holds : (reply interface (Some (ping V10)) V10).holds (pong V10)
  unfolding reply reply_head early_reply_head reply_status service_contexts service_context tagged leads made_of allowed body_of reply_body chosen
      no_exception values ended field gives number octets sequence such text
  pong_holds = search rules

  refusal_holds : (reply interface (Some (ping V12)) V12).holds refusing
  unfolding reply reply_head reply_head_1_2 reply_status service_contexts service_context tagged leads made_of allowed body_of reply_body chosen
      system_exception completion ended from_multiple_of_8 field gives number octets sequence such text
  refusal_holds = search rules

  pub refuses_in_two : PlansReply interface (ping V12) refusing (sends_cut (at_server.Answer refusing) refusal_cut)
  unfolding reply reply_head reply_head_1_2 reply_status service_contexts service_context tagged leads made_of allowed body_of reply_body chosen
      system_exception completion ended from_multiple_of_8 field gives number octets sequence such text
      items_out number_out octets_out padding_out sequence_out string_out
  refuses_in_two = record {
    limits = room;
    form = record { order = Big; piece = 32 };
    is_form = record { large = omega arith; multiple = refl };
    unrefused = refl;
    plans = record {
      in_range = record { holds = refusal_holds; piece = omega arith };
      sent = (refusal_begins ∷ refusal_ends ∷ [], (refl, refl, omega arith, (refl, omega arith, omega arith)), refl);
    };
  }

  pub refuses_in_one : PlansReply interface (ping V12) refusing (sends_cut (at_server.Answer refusing) (alone refusal_whole))
  unfolding reply reply_head reply_head_1_2 reply_status service_contexts service_context tagged leads made_of allowed body_of reply_body chosen
      system_exception completion ended from_multiple_of_8 field gives number octets sequence such text
      items_out number_out octets_out padding_out sequence_out string_out
  refuses_in_one = record {
    limits = room;
    form = record { order = Big; piece = 64 };
    is_form = record { large = omega arith; multiple = refl };
    unrefused = refl;
    plans = record {
      in_range = record { holds = refusal_holds; piece = omega arith };
      sent = (refusal_whole ∷ [], (refl, inr (omega arith)), refl);
    };
  }

  pub refusal_as : IsWrittenAs (reply interface (Some (ping V12)) V12) Big refusing message.Reply 32 V12 (refusal_begins ∷ refusal_ends ∷ [])
  unfolding reply reply_head reply_head_1_2 reply_status service_contexts service_context tagged leads made_of allowed body_of reply_body chosen
      system_exception completion ended from_multiple_of_8 field gives number octets sequence such text
      items_out number_out octets_out padding_out sequence_out string_out
  refusal_as = record {
    fits = refl;
    holds = refusal_holds;
    can_cut = record {
      continued = refl;
      id = omega arith;
      short = omega arith;
      large = omega arith;
      fits = omega arith;
      multiple = refl;
    };
    is_cut = (refl, refl, omega arith, (refl, omega arith, omega arith));
  }

-- pieces that are planned are those of the cut that is told
pub reply_of : (codec : Codec) (cut known : Cut) → sends_cut (at_server.Answer refusing) known ≡ sends_cut (at_server.Answer refusing) cut
    → CutsReply codec (ping V12) refusing (pieces_of cut)
    → codec.read_reply (asked.Request (ping V12)) (pieces_of known) ≡ told.Reply refusing
reply_of codec cut known same cuts =
    let plans = ap (λ (p : Planned ServerEvent). p.plan) same in
    let pieces : pieces_of cut ≡ pieces_of known = cc in
    subst (λ (pieces : List Msg). codec.read_reply (asked.Request (ping V12)) pieces ≡ told.Reply refusing) pieces cuts.read
