-- The session's own ends run so on one lane.
use Rattle.std.proofs.Common.{◌≡◌, true, [], ◌∷◌, Option, Some, refl, inr, subst, arith, rules}
use Rattle.giop_types.specs.declared.interfaces.interface.Interface.{Interface}
use Rattle.giop_cdr.specs.Ending.{ended, leads, made_of, remainder}
use Rattle.giop_cdr.specs.Layout.{number, signed, octets, such, field, gives, reserved, chosen}
use Rattle.giop_cdr.specs.Reading.Values.{count_at, field_at, number_at, octets_at, signed_at, such_at}
use Rattle.giop_cdr.specs.Writing.Output.{number_out, octets_out, signed_out}
use Rattle.giop_cdr.specs.declared.order.Order.TheVariants.{Big}
use Rattle.giop_msg.specs.Joined.{whole_of_joined}
use Rattle.giop_msg.specs.Locate.{AnyLocateRequest, locate_reply_head, locate_request, locate_status, located}
use Rattle.giop_msg.specs.Meaning.{meaning}
use Rattle.giop_msg.specs.Messages.LocateReply.{locate_reply}
use Rattle.giop_msg.specs.Target.{disposition, key_target, object_key, target_by, target_layout}
use Rattle.giop_msg.specs.declared.messages.locate_reply.LocateReply.{LocateReply}
use Rattle.giop_calls.specs.Lane.{CutsCall, CutsLocated, Runs, new, pieces_of}
use Rattle.giop_calls.specs.declared.client.call.Call.TheVariants as asked
use Rattle.giop_calls.specs.declared.client.entry.ClientEntry.TheVariants.{Cancelled}
use Rattle.giop_calls.specs.declared.client.event.ClientEvent.TheVariants as at_client
use Rattle.giop_calls.specs.declared.client.late.Late.TheVariants as late
use Rattle.giop_calls.specs.declared.server.entry.ServerEntry.{ServerEntry}
use Rattle.giop_calls.specs.declared.server.entry.ServerEntry.TheVariants.{LocateAsked}
use Rattle.giop_calls.specs.declared.server.event.ServerEvent.TheVariants as at_server
use Rattle.giop_session.specs.Worlds.Coding.{coding}
use Rattle.giop_session.specs.Worlds.OwnLane.{OwnRuns, PlansCall, PlansLocated, alone, sends_cut}
use Rattle.giop_session.specs.Acts.Sent.{sends_one}
use Rattle.laws_in_use.specs.Asking.{here}
use Rattle.laws_in_use.specs.Locating.{door, here_big, limits}
use Rattle.laws_in_use.specs.OwnLanes.{again, answered, crossed, crossing, door_big}
use Rattle.laws_in_use.specs.Sent.{door_cut}
use Rattle.laws_in_use.proofs.SentPlans.{asks_door_so}

-- it may be asked for again, where it was cancelled and the late answer seen
asks_again_so : (interface : Interface)
    → PlansCall interface (Some (Cancelled late.Seen)) (asked.Locate door) (sends_cut (at_client.Call (asked.Locate door)) (alone door_big))
unfolding ended locate_request located object_key meaning target_layout target_by disposition key_target
    number signed octets such field gives chosen number_out octets_out signed_out
asks_again_so interface = record {
  limits = limits;
  form = record { order = Big; piece = 64 };
  is_form = record { large = omega arith; multiple = refl };
  unrefused = refl;
  plans = record {
    in_range = record { holds = search rules; piece = omega arith };
    sent = (door_big ∷ [], (refl, inr (omega arith)), refl);
  };
}

door_located : PlansLocated door true (sends_one (at_server.AnswerLocate true) here_big)
unfolding locate_reply locate_reply_head locate_status leads made_of remainder number such field gives chosen number_out
door_located = (7, Big, (omega arith, refl))

locates_so : (q : AnyLocateRequest) → ◌≡◌ {A = Option ServerEntry} (Some (LocateAsked door)) (Some (LocateAsked q))
    → PlansLocated q true (sends_one (at_server.AnswerLocate true) here_big)
locates_so q is =
    let same : door ≡ q = cc in
    subst (λ (q : AnyLocateRequest). PlansLocated q true (sends_one (at_server.AnswerLocate true) here_big)) same door_located

pub own_crossing : (interface : Interface) → OwnRuns interface new crossing crossed
unfolding whole_of_joined locate_request located object_key meaning target_layout target_by disposition key_target
    number signed octets such field gives reserved chosen count_at field_at number_at octets_at signed_at such_at
own_crossing interface = (
  asks_door_so interface,
  (
    _,
    refl,
    (
      tt,
      (
        _,
        refl,
        (
          tt,
          (
            _,
            refl,
            (
              tt,
              (_, refl, (locates_so, (_, refl, (tt, (_, refl, (tt, (_, refl, (tt, (_, refl, refl))))))))),
            ),
          ),
        ),
      ),
    ),
  ),
)

pub own_again : (interface : Interface) → OwnRuns interface new again answered
unfolding whole_of_joined locate_request located object_key meaning target_layout target_by disposition key_target
    locate_reply locate_reply_head locate_status leads made_of remainder
    number signed octets such field gives reserved chosen count_at field_at number_at octets_at signed_at such_at
own_again interface = (
  asks_door_so interface,
  (
    _,
    refl,
    (
      tt,
      (
        _,
        refl,
        (
          tt,
          (
            _,
            refl,
            (
              tt,
              (
                _,
                refl,
                (
                  locates_so,
                  (
                    _,
                    refl,
                    (
                      tt,
                      (
                        _,
                        refl,
                        (
                          tt,
                          (
                            _,
                            refl,
                            (
                              tt,
                              (
                                _,
                                refl,
                                (
                                  asks_again_so interface,
                                  (_, refl, (tt, (_, refl, (locates_so, (_, refl, (tt, (_, refl, refl))))))),
                                ),
                              ),
                            ),
                          ),
                        ),
                      ),
                    ),
                  ),
                ),
              ),
            ),
          ),
        ),
      ),
    ),
  ),
)

pub door_is_read : (interface : Interface) → CutsCall (coding interface) (asked.Locate door) (pieces_of door_cut)
unfolding whole_of_joined locate_request located object_key meaning target_layout target_by disposition key_target
    number signed octets such field gives reserved chosen count_at field_at number_at octets_at signed_at such_at
door_is_read interface = record { order = Big; one_order = (refl, (refl, tt)); read = refl }

here_is_read : (interface : Interface) → CutsLocated (coding interface) door true here_big here
unfolding locate_reply locate_reply_head locate_status leads made_of remainder number such field gives field_at number_at such_at
here_is_read interface = record { read = refl; status = refl; no_rest = refl }

pub suits : (interface : Interface) (q : AnyLocateRequest) → ◌≡◌ {A = Option ServerEntry} (Some (LocateAsked door)) (Some (LocateAsked q))
    → (told : LocateReply) × CutsLocated (coding interface) q true here_big told
suits interface q is =
    let same : door ≡ q = cc in
    (here, subst (λ (q : AnyLocateRequest). CutsLocated (coding interface) q true here_big here) same (here_is_read interface))

pub runs_crossing : (interface : Interface) → Runs (coding interface) new crossing crossed
unfolding whole_of_joined locate_request located object_key meaning target_layout target_by disposition key_target
    number signed octets such field gives reserved chosen count_at field_at number_at octets_at signed_at such_at
runs_crossing interface = (
  door_is_read interface,
  (
    _,
    refl,
    (
      tt,
      (
        _,
        refl,
        (
          tt,
          (
            _,
            refl,
            (
              tt,
              (_, refl, (suits interface, (_, refl, (tt, (_, refl, (tt, (_, refl, (tt, (_, refl, refl))))))))),
            ),
          ),
        ),
      ),
    ),
  ),
)
