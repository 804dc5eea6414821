-- What ends plan to send, as their contracts say it.
use Rattle.std.proofs.Common.{◌≡◌, false, List, [], ◌∷◌, Some, None, refl, inl, ap, subst, arith, rules}
use Rattle.giop_types.specs.declared.interfaces.interface.Interface.{Interface}
use Rattle.giop_cdr.specs.Ending.{ended, leads, made_of, remainder}
use Rattle.giop_cdr.specs.Layout.{number, signed, octets, such, field, gives, chosen}
use Rattle.giop_cdr.specs.Writing.Output.{number_out, octets_out, signed_out}
use Rattle.giop_cdr.specs.declared.order.Order.TheVariants.{Big, Little}
use Rattle.giop_msg.specs.Locate.{locate_reply_head, locate_request, locate_status, located}
use Rattle.giop_msg.specs.Meaning.{meaning}
use Rattle.giop_msg.specs.Messages.LocateReply.{locate_reply}
use Rattle.giop_msg.specs.Target.{disposition, key_target, object_key, target_by, target_layout}
use Rattle.giop_msg.specs.declared.msg.Msg.{Msg}
use Rattle.giop_msg.specs.declared.version.Version.TheVariants.{V10}
use Rattle.giop_calls.specs.Lane.{Codec, Cut, CutsCall, heard_call, pieces_of}
use Rattle.giop_calls.specs.declared.client.call.Call.{Call}
use Rattle.giop_calls.specs.declared.client.call.Call.TheVariants as asked
use Rattle.giop_calls.specs.declared.client.event.ClientEvent.{ClientEvent}
use Rattle.giop_calls.specs.declared.client.event.ClientEvent.TheVariants as at_client
use Rattle.giop_session.specs.declared.Planned.{Planned}
use Rattle.giop_session.specs.Acts.ClientCalls.{IsCancel}
use Rattle.giop_session.specs.Worlds.OwnLane.{PlansCall, PlansLocated, sends_cut}
use Rattle.giop_session.specs.Acts.ServerAnswers.{IsLocateAnswer}
use Rattle.laws_in_use.specs.Locating.{door, door_begins, door_ends, key, key_big, limits}
use Rattle.laws_in_use.specs.Sent.{answers_key, asks_door, asks_key, cancels_key}

pub asks_key_so : (interface : Interface) → PlansCall interface None (asked.Locate key) asks_key
unfolding ended locate_request located object_key meaning target_layout target_by disposition key_target
    number signed octets such field gives chosen number_out octets_out signed_out
asks_key_so interface = record {
  limits = limits;
  form = record { order = Big; piece = 64 };
  is_form = record { large = omega arith; multiple = refl };
  unrefused = refl;
  plans = record {
    in_range = record { holds = search rules; piece = omega arith };
    sent = (key_big ∷ [], (refl, inl refl), refl);
  };
}

pub asks_door_so : (interface : Interface) → PlansCall interface None (asked.Locate door) asks_door
unfolding ended locate_request located object_key meaning target_layout target_by disposition key_target
    number signed octets such field gives chosen number_out octets_out signed_out
asks_door_so interface = record {
  limits = limits;
  form = record { order = Big; piece = 24 };
  is_form = record { large = omega arith; multiple = refl };
  unrefused = refl;
  plans = record {
    in_range = record { holds = search rules; piece = omega arith };
    sent = (door_begins ∷ door_ends ∷ [], (refl, refl, omega arith, (refl, omega arith, omega arith)), refl);
  };
}

pub answers_it_so : IsLocateAnswer 9 false Big (Some V10) answers_key
unfolding locate_reply locate_reply_head locate_status leads made_of remainder number such field gives chosen number_out
answers_it_so = (omega arith, refl)

pub answers_so : PlansLocated key false answers_key
answers_so = (9, Big, answers_it_so)

pub cancels_so : IsCancel 9 Little (Some V10) cancels_key
cancels_so = (omega arith, refl)

-- pieces that are planned are those of the cut that is told
pub read_of : (codec : Codec) (call : Call) (cut known : Cut) → sends_cut (at_client.Call call) known ≡ sends_cut (at_client.Call call) cut
    → CutsCall codec call (pieces_of cut) → codec.read_call (pieces_of known) ≡ heard_call call
read_of codec call cut known same cuts =
    let plans = ap (λ (p : Planned ClientEvent). p.plan) same in
    let pieces : pieces_of cut ≡ pieces_of known = cc in
    subst (λ (pieces : List Msg). codec.read_call pieces ≡ heard_call call) pieces cuts.read
