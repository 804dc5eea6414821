use Rattle.std.proofs.Common.{true, [], ◌∷◌, Some, Ok, Err, refl, ap, ◌∙◌}
use Rattle.giop_calls.specs.declared.fault.CallFault.TheVariants.{NotOpen}
use Rattle.giop_calls.specs.declared.server.entry.ServerEntry.{ServerEntry}
use Rattle.giop_calls.specs.declared.server.event.ServerEvent.TheVariants as event
use Rattle.giop_calls.specs.ServerTable.{is_closed, is_gathering, server_step}
use Rattle.giop_session.specs.declared.SessionFault.TheVariants.{Call as InCall}
use Rattle.giop_session.specs.declared.TableFault.TheVariants.{Rule}
use Rattle.giop_session.specs.Calls.CallTable.{Call, Hears, Nothing, rules_of, turn}
use Rattle.giop_session.specs.Hearing.Heard.{in_call}
use Rattle.giop_session.specs.Calls.Sending.{entry_of, slot_of}
use Rattle.laws_in_use.specs.Left.{sends}
use Rattle.laws_in_use.specs.Limited.{new_server}
use Rattle.laws_in_use.specs.Locating.{here_big, limits}
use Rattle.laws_in_use.proofs.LocatingRuns.{answered, at_4, none_at, one_4, one_5}
use Rattle.laws_in_use.proofs.Running.{refuses}
use Rattle.laws_in_use.proofs.left.an_answer_is_accepted_or_refused.Goals as goal

pub returns-clause-accepted : goal.returns-clause-accepted
returns-clause-accepted c = λ interface out. (
  one_4 interface,
  one_5 interface,
  ap (λ (call : Call ServerEntry). entry_of call.slot) (at_4 interface),
  record { answered = Ok (record { answer = tt; message = Some here_big }); does = answered interface; returned = refl; puts = refl },
)

pub returns-clause-answered : goal.returns-clause-answered
returns-clause-answered c = λ h k out out' was on_call.
    let left = c.what_an_own_act_leaves.ensures.accepted in_call 7 (sends (event.AnswerLocate true) (here_big ∷ [])) h k out out' on_call in (
      ap entry_of left.slot ∙ ap (λ entry. entry_of (slot_of (server_step entry (event.AnswerLocate true)).entry [])) was,
      left.puts,
      left.others,
    )

pub returns-clause-refused : goal.returns-clause-refused
returns-clause-refused c = record {
  answered = Err (Rule NotOpen);
  does =
      refuses (rules_of server_step is_closed is_gathering) (new_server limits)
      (record { id = 7; what = Hears (sends (event.AnswerLocate true) (here_big ∷ [])) Nothing }) (Rule NotOpen)
      (ap (λ (call : Call ServerEntry). turn server_step is_closed is_gathering call (Hears (sends (event.AnswerLocate true) (here_big ∷ [])) Nothing))
      (none_at limits 7));
  returned = refl;
  puts = refl;
}

pub returns-clause-kept : goal.returns-clause-kept
returns-clause-kept c = λ h k out out' on_call.
    c.what_an_own_act_leaves.ensures.refused in_call 7 (sends (event.AnswerLocate true) (here_big ∷ [])) h k out out' (InCall 7 NotOpen) on_call
