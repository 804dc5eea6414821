-- A server's end takes what it is given in a run as its acts, and refuses nothing.
use Rattle.std.proofs.Common.{◌≡◌, true, [], take, Some, Ok, refl, sym, ap, subst, ◌∙◌, arith}
use Rattle.giop_types.specs.declared.interfaces.interface.Interface.{Interface}
use Rattle.giop_cdr.specs.Ending.{leads, made_of, remainder}
use Rattle.giop_cdr.specs.Layout.{number, such, field, gives, chosen}
use Rattle.giop_cdr.specs.Writing.Output.{number_out}
use Rattle.giop_cdr.specs.declared.order.Order.TheVariants.{Big}
use Rattle.giop_ids.specs.Runs.{Does as DoesAct}
use Rattle.giop_msg.specs.Locate.{locate_reply_head, locate_status}
use Rattle.giop_msg.specs.Messages.LocateReply.{locate_reply}
use Rattle.giop_msg.specs.Msg.{message_octets}
use Rattle.giop_msg.specs.declared.version.Version.TheVariants.{V12}
use Rattle.giop_calls.specs.declared.server.entry.ServerEntry.{ServerEntry}
use Rattle.giop_calls.specs.declared.server.entry.ServerEntry.TheVariants.{LocateAnswered, LocateAsked}
use Rattle.giop_calls.specs.declared.server.event.ServerEvent.TheVariants.{AnswerLocate}
use Rattle.giop_calls.specs.ServerTable.{is_closed, is_gathering, server_step}
use Rattle.giop_session.specs.declared.laws.inputs.Answered.TheVariants as answer
use Rattle.giop_session.specs.Calls.CallTable.{Call, Gives, IsTaken, at, put_call, rules_of, turn, entry_at}
use Rattle.giop_session.specs.Hearing.Feeding.{nothing_unread}
use Rattle.giop_session.specs.Calls.Sending.{entry_of}
use Rattle.giop_session.specs.Acts.Sent.{sends_one}
use Rattle.giop_session.specs.Acts.ServerAnswers.{IsLocateAnswer, locate_of, located}
use Rattle.giop_session.specs.Runs.ServerRuns.{server_run}
use Rattle.giop_session.specs.Runs.SideRuns.{SideTakesAs}
use Rattle.laws_in_use.specs.Locating.{answering, door, door_begins, door_ends, here_big, limits}
use Rattle.laws_in_use.specs.Runs.{server_answers, server_given}
use Rattle.laws_in_use.proofs.LocatingReads.{first, last, second, third, wide}
use Rattle.laws_in_use.proofs.LocatingRuns.{End, again, answered, asked, at_4, begun, door_answered, ended, fed, new, none, one_1, one_2, one_3, one_4, one_5, one_end, sent_here, stopped, used}
use Rattle.laws_in_use.proofs.ServerRunActs.{run_acts}
use Rattle.laws_in_use.proofs.Running.{accepts}
use Rattle.laws_in_use.proofs.Taking.{at-put}

-- the message that the end makes of its answer
pub here_is : located V12 Big 7 true ≡ here_big
unfolding locate_reply locate_reply_head locate_status leads made_of remainder number such field gives chosen number_out
here_is = refl

module _ (interface : Interface) where
  -- the end, once the entry is taken out
  abbrev pub left_end : End
  left_end = put_call (one_end interface) 7 none

  at_end : at (one_end interface) 7 ≡ door_answered
  at_end = at-put (one_5 interface) 9 again 7 ∙ at-put (one_4 interface) 7 door_answered 7

  entry_at_end : entry_at (one_end interface) 7 ≡ Some (LocateAnswered (Some door.target) true)
  entry_at_end = ap (λ (call : Call ServerEntry). entry_of call.slot) at_end

  takes_out : DoesAct (rules_of server_step is_closed is_gathering) (one_end interface) (record { id = 7; what = IsTaken })
      (Ok (Gives door_answered.slot)) left_end
  takes_out =
      accepts (rules_of server_step is_closed is_gathering) (one_end interface) (record { id = 7; what = IsTaken })
      (record { now = none; answer = Gives door_answered.slot })
      (ap (λ (call : Call ServerEntry). turn server_step is_closed is_gathering call IsTaken) at_end) refl

  -- what answers is planned for the LocateRequest that waits
  plans : IsLocateAnswer 7 true Big (locate_of true (entry_at (one_4 interface) 7))
      (sends_one (AnswerLocate true) here_big)
  plans =
      let waits : entry_at (one_4 interface) 7 ≡ Some (LocateAsked door) = ap (λ (call : Call ServerEntry). entry_of call.slot) (at_4 interface) in
      subst (λ version. IsLocateAnswer 7 true Big version (sends_one (AnswerLocate true) here_big)) (sym (ap (locate_of true) waits))
      (omega arith, ap (sends_one (AnswerLocate true)) (sym here_is))

  pub run_taken : SideTakesAs (server_run interface) limits server_given server_answers (run_acts (answering here_big)) (nothing_unread limits.message) left_end
  run_taken = (
    _,
    _,
    wide (take 5 (message_octets door_begins)),
    new limits,
    refl,
    refl,
    refl,
    (_, _, fed first refl, (refl, refl)),
    (
      _,
      _,
      wide (take 7 (message_octets door_ends)),
      one_2 interface,
      refl,
      refl,
      refl,
      (_, _, fed second (one_1 interface, begun interface, (one_2 interface, asked interface, refl)), (refl, refl)),
      (
        _,
        _,
        wide [],
        one_4 interface,
        refl,
        refl,
        refl,
        (_, _, fed third (one_3 interface, ended interface, (one_4 interface, stopped interface, refl)), (refl, refl)),
        (
          _,
          _,
          wide [],
          one_5 interface,
          refl,
          (sends_one (AnswerLocate true) here_big, plans, refl),
          refl,
          (_, (sent_here interface, answered interface), (refl, refl)),
          (
            _,
            _,
            wide [],
            one_end interface,
            refl,
            refl,
            refl,
            (_, _, fed last (one_end interface, used interface, refl), (refl, refl)),
            (
              _,
              _,
              wide [],
              left_end,
              refl,
              refl,
              ap answer.Taken (sym entry_at_end),
              (_, (Gives door_answered.slot, takes_out), (refl, refl)),
              (refl, refl, refl),
            ),
          ),
        ),
      ),
    ),
  )
