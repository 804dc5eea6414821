-- A client's end takes what it is given in a run as its acts, and refuses nothing.
use Rattle.std.proofs.Common.{◌≡◌, [], take, Some, Ok, refl, sym, ap, subst, arith}
use Rattle.giop_types.specs.declared.interfaces.interface.Interface.{Interface}
use Rattle.giop_cdr.specs.declared.fault.CdrKind.TheVariants.{Short}
use Rattle.giop_cdr.specs.declared.order.Order.TheVariants.{Little}
use Rattle.giop_ids.specs.Runs.{Does}
use Rattle.giop_msg.specs.Msg.{message_octets}
use Rattle.giop_msg.specs.declared.version.Version.TheVariants.{V10}
use Rattle.giop_calls.specs.declared.client.call.Call.TheVariants as asked
use Rattle.giop_calls.specs.declared.client.entry.ClientEntry.{ClientEntry}
use Rattle.giop_calls.specs.declared.client.entry.ClientEntry.TheVariants.{Undecoded, Waiting}
use Rattle.giop_calls.specs.declared.client.event.ClientEvent.TheVariants as event
use Rattle.giop_calls.specs.ClientTable.{client_step, is_closed, is_gathering}
use Rattle.giop_session.specs.declared.laws.inputs.Answered.TheVariants as answer
use Rattle.giop_session.specs.Calls.CallTable.{Call, Gives, IsTaken, at, put_call, rules_of, turn, entry_at}
use Rattle.giop_session.specs.Acts.ClientCalls.{IsCancel, open_version}
use Rattle.giop_session.specs.Runs.ClientRuns.{client_run}
use Rattle.giop_session.specs.Runs.SideRuns.{SideTakesAs}
use Rattle.giop_session.specs.Hearing.Feeding.{nothing_unread}
use Rattle.giop_session.specs.Calls.Sending.{entry_of}
use Rattle.giop_session.specs.Acts.Sent.{cancel_request, sends_one}
use Rattle.laws_in_use.specs.Asking.{here_begins, here_ends, own_acts}
use Rattle.laws_in_use.specs.Locating.{cancel_little, key, limits}
use Rattle.laws_in_use.specs.Runs.{Forms, client_answers, client_given}
use Rattle.laws_in_use.proofs.AskingReads as read
use Rattle.laws_in_use.proofs.AskingRuns.{End, none, one_1, one_2, one_3, one_4, one_5, one_6, one_7, one_8, one_9, one_asks, one_asks_again, one_asks_key, one_at_2, one_bad, one_begins, one_cancels, one_ends, one_late, one_sends, undecoded}
use Rattle.laws_in_use.proofs.ClientRunActs.{door_is_sent, key_is_sent, key_is_sent_again, run_acts}
use Rattle.laws_in_use.proofs.LocatingReads.{wide}
use Rattle.laws_in_use.proofs.LocatingRuns.{fed}
use Rattle.laws_in_use.proofs.Running.{accepts}
use Rattle.laws_in_use.proofs.Taking.{at-put}

pub cancel_is : cancel_request V10 Little 9 ≡ cancel_little
cancel_is = refl

module _ (interface : Interface) where
  -- the end, once the entry is taken out
  abbrev pub left_end : End
  left_end = put_call (one_9 interface) 9 none

  at_end : at (one_9 interface) 9 ≡ undecoded
  at_end = at-put (one_8 interface) 9 undecoded 9

  entry_at_end : entry_at (one_9 interface) 9 ≡ Some (Undecoded (asked.Locate key) (record { at = 16; kind = Short }))
  entry_at_end = ap (λ (call : Call ClientEntry). entry_of call.slot) at_end

  takes_out : Does (rules_of client_step is_closed is_gathering) (one_9 interface) (record { id = 9; what = IsTaken })
      (Ok (Gives undecoded.slot)) left_end
  takes_out =
      accepts (rules_of client_step is_closed is_gathering) (one_9 interface) (record { id = 9; what = IsTaken })
      (record { now = none; answer = Gives undecoded.slot })
      (ap (λ (call : Call ClientEntry). turn client_step is_closed is_gathering call IsTaken) at_end) refl

  -- what cancels is planned for the LocateRequest that waits
  plans : IsCancel 9 Little (open_version (entry_at (one_2 interface) 9)) (sends_one event.Cancel cancel_little)
  plans =
      let waits : entry_at (one_2 interface) 9 ≡ Some (Waiting (asked.Locate key)) =
      ap (λ (call : Call ClientEntry). entry_of call.slot) (one_at_2 interface) in
      subst (λ version. IsCancel 9 Little version (sends_one event.Cancel cancel_little)) (sym (ap open_version waits))
      (omega arith, ap (sends_one event.Cancel) (sym cancel_is))

  pub run_taken : (forms : Forms)
      → SideTakesAs (client_run interface) limits (client_given forms) client_answers (run_acts own_acts) (nothing_unread limits.message) left_end
  run_taken forms = (
    _,
    _,
    wide [],
    one_1 interface,
    refl,
    (_, door_is_sent forms.cut.form forms.cut_is, refl),
    refl,
    (_, (_, one_asks interface), (refl, refl)),
    (
      _,
      _,
      wide [],
      one_2 interface,
      refl,
      (_, key_is_sent forms.little.form forms.little_is, refl),
      refl,
      (_, (_, one_asks_key interface), (refl, refl)),
      (
        _,
        _,
        wide [],
        one_3 interface,
        refl,
        (_, plans, refl),
        refl,
        (_, (_, one_cancels interface), (refl, refl)),
        (
          _,
          _,
          wide (take 5 (message_octets here_begins)),
          one_3 interface,
          refl,
          refl,
          refl,
          (_, _, fed read.first refl, (refl, refl)),
          (
            _,
            _,
            wide (take 5 (message_octets here_begins)),
            one_4 interface,
            refl,
            (_, refl, refl),
            refl,
            (_, (_, one_sends interface), (refl, refl)),
            (
              _,
              _,
              wide (take 7 (message_octets here_ends)),
              one_6 interface,
              refl,
              refl,
              refl,
              (_, _, fed read.second (one_5 interface, one_begins interface, (one_6 interface, one_late interface, refl)), (refl, refl)),
              (
                _,
                _,
                wide (take 7 (message_octets here_ends)),
                one_7 interface,
                refl,
                (_, key_is_sent_again forms.big.form forms.big_is, refl),
                refl,
                (_, (_, one_asks_again interface), (refl, refl)),
                (
                  _,
                  _,
                  wide [],
                  one_9 interface,
                  refl,
                  refl,
                  refl,
                  (_, _, fed read.third (one_8 interface, one_ends interface, (one_9 interface, one_bad interface, refl)), (refl, refl)),
                  (
                    _,
                    _,
                    wide [],
                    left_end,
                    refl,
                    refl,
                    ap answer.Taken (sym entry_at_end),
                    (_, (Gives undecoded.slot, takes_out), (refl, refl)),
                    (refl, refl, refl),
                  ),
                ),
              ),
            ),
          ),
        ),
      ),
    ),
  )
