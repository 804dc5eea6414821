-- What `serve` answers, and its turns.
use Rattle.std.proofs.Common.{◌≡◌, ℕ, true, List, Option, Some, None, Result, Ok, Err, IfOk, refl, sym, subst}
use Rattle.std.specs.FinMap as finite
use Rattle.giop_calls.specs.declared.server.entry.ServerEntry.{ServerEntry}
use Rattle.giop_end.specs.declared.limits.Limits.{Limits}
use Rattle.giop_end.specs.declared.session_fault.SessionFault.{SessionFault}
use Rattle.giop_end.specs.Pumping.{Between}
use Rattle.giop_table.specs.Sending.{entry_of}
use Rattle.giop_serving.specs.declared.serve.in_turn.AnswerName.{AnswerName}
use Rattle.giop_serving.specs.declared.serve.answering.Due.{Due}
use Rattle.giop_show.specs.declared.failure.Failure.{Failure}
use Rattle.giop_serving.specs.Serve.Answering.{due_to}
use Rattle.giop_commands.specs.Check.{server_hears}
use Rattle.giop_serving.specs.Serve.Serving.{Answers, AnswersAll, AnswersOne, Converses, Desk, SendsDue, ServeEnds, Served, ServerCalls, Session, TurnAnswers, desk_of, session, with_desk}
use Rattle.giop_commands.specs.Session.Turns.{GoesOn, most_turns}
use Rattle.giop_commands.proofs.OnSession.StepLemmas.{Counted}
use Rattle.std.specs.Prelude.{◌<◌}

-- nothing stands under an id
pub none_answered : (it : Served) (limits : Limits) (fault : Option SessionFault) (id : ℕ) (s : Desk)
    → entry_of (finite.get s.box.calls.table id) ≡ None → AnswersOne it limits fault id s None s
none_answered it limits fault id s none = subst (λ e. Answers it limits fault id e s None s) (sym none) (refl, refl)

-- something does, and this is due to it
pub due_answered : (it : Served) (limits : Limits) (fault : Option SessionFault) (id : ℕ) (s t : Desk) (entry : ServerEntry) (due : Due)
    (refused : Option SessionFault) → entry_of (finite.get s.box.calls.table id) ≡ Some entry → due ≡ due_to it.objects entry
    → SendsDue it limits fault id entry due s refused t → AnswersOne it limits fault id s refused t
due_answered it limits fault id s t entry due refused there is sends =
    subst (λ e. Answers it limits fault id e s refused t) (sym there) (subst (λ d. SendsDue it limits fault id entry d s refused t) is sends)

pub due_told : (it : Served) (limits : Limits) (fault : Option SessionFault) (id : ℕ) (s t : Desk) (entry : ServerEntry) (due : Due)
    (r : Result (Option SessionFault) Failure) → entry_of (finite.get s.box.calls.table id) ≡ Some entry → due ≡ due_to it.objects entry
    → IfOk r (λ refused. SendsDue it limits fault id entry due s refused t) → IfOk r (λ refused. AnswersOne it limits fault id s refused t)
due_told it limits fault id s t entry due (Ok refused) there is sends = due_answered it limits fault id s t entry due refused there is sends
due_told it limits fault id s t entry due (Err failure) there is sends = tt

-- and what is passed by it
pub and_passed : {F : Type 0} (Does : Option SessionFault → Type 0) (Passes : Type 0) (r : Result (Option SessionFault) F) → IfOk r Does → Passes
    → IfOk r (λ refused. Does refused × Passes)
and_passed Does Passes (Ok refused) does passes = (does, passes)
and_passed Does Passes (Err failure) does passes = tt

-- a turn and the answers behind it
pub turn_answered : (it : Served) (limits : Limits) (s mid : Between ServerCalls) (passed : List AnswerName) (left : Desk) (refused : Option SessionFault)
    → GoesOn (server_hears it.interface) s (Ok true) mid → AnswersAll it limits mid.state.fault (desk_of mid passed) refused left
    → TurnAnswers it limits (session s passed) refused (with_desk mid left)
turn_answered it limits s mid passed left refused turn answers = record { mid = mid; turn = turn; left = left; answers = answers; others = refl }

-- how the turns end behind so many
pub conversed : (it : Served) (limits : Limits) (n : ℕ) (s mid t : Session) (refused : Option SessionFault)
    → Counted (λ turn s t. TurnAnswers it limits s None t) n s mid → n < most_turns → ServeEnds it limits mid refused t
    → Converses it limits s refused t
conversed it limits n s mid t refused before few ends = record {
  turns = before.steps;
  few = subst (λ k. k < most_turns) (sym before.count) few;
  mid = mid;
  each = before.each;
  ends = ends;
}
