-- A connection whose calls are told when they are over.
use Rattle.std.proofs.Common.{◌≡◌, ℕ, ◌<◌, List, Option, None, Result, Ok, Err, IfOk, OnOk, refl, sym, ap, subst}
use Rattle.std.specs.Io.KnownBytes.{Appends}
use Rattle.giop_msg.specs.Stream.{Unread}
use Rattle.giop_end.specs.declared.end.End.{End}
use Rattle.giop_end.specs.declared.limits.Limits.{Limits}
use Rattle.giop_end.specs.declared.session_fault.SessionFault.{SessionFault}
use Rattle.giop_calls.specs.declared.fault.CallFault.{CallFault}
use Rattle.giop_calls.specs.declared.server.entry.ServerEntry.{ServerEntry}
use Rattle.giop_calls.specs.declared.server.event.ServerEvent.{ServerEvent}
use Rattle.giop_calls.specs.declared.server.rule.ServerRule.{ServerRule}
use Rattle.giop_calls.specs.ServerTable.{is_closed}
use Rattle.giop_end.specs.Pumping.{Between, between}
use Rattle.giop_serving.specs.declared.serve.in_turn.AnswerName.{AnswerName}
use Rattle.giop_show.specs.declared.failure.Failure.{Failure}
use Rattle.giop_forms.specs.declared.line_form.LineForm.{LineForm}
use Rattle.giop_commands.specs.declared.session.ending.Ending.{Ending}
use Rattle.giop_show.specs.Forms.{ended}
use Rattle.giop_commands.specs.Session.Endings.{Ends}
use Rattle.giop_serving.specs.Serve.Endings.{ServesStreamEnd}
use Rattle.giop_serving.specs.Serve.Serving.{ServeEnds, Served, ServerCalls, Session, TurnAnswers, new_server, session}
use Rattle.giop_commands.specs.Session.Printed.{Wire, told}
use Rattle.giop_serving.specs.Serve.Printed.{connection_in, serve_status}
use Rattle.giop_commands.specs.Session.StreamLines.{server_told_in}
use Rattle.giop_serving.specs.Serve.Streaming.{Shown, Streams, TurnTells, left_text, opened, shown, still_open}
use Rattle.giop_commands.specs.Session.Streaming.{over_text}
use Rattle.giop_commands.specs.Session.Turns.{most_turns}
use Rattle.giop_commands.proofs.OnSession.StepLemmas.{Counted}

-- an end of which the calls that are over are taken out
pub opened_by : (old new : End ServerRule ServerEntry ServerEvent (Unit {0}) CallFault) (input output : Option (List ℕ))
    → new ≡ record old { calls = still_open old.calls }
    → between input output new.outgoing new.framer new.calls new.fault ≡ opened (between input output old.outgoing old.framer old.calls old.fault)
opened_by old new input output same =
    ap (λ (e : End ServerRule ServerEntry ServerEvent (Unit {0}) CallFault). between input output e.outgoing e.framer e.calls e.fault) same

-- a turn, its answers, and what is told behind them
pub turn_told : (it : Served) (limits : Limits) (lines : LineForm) (s mid : Session) (t : Between ServerCalls) (old new : Option (List ℕ))
    → TurnAnswers it limits s None mid
    → Appends old new (over_text is_closed (server_told_in lines it.interface) mid.end.state.calls.table) → t ≡ opened mid.end
    → TurnTells it limits lines (shown s old) (shown (session t mid.passed) new)
turn_told it limits lines s mid t old new answers tells left =
    record { mid = mid; answers = answers; tells = tells; left = ap (λ e. session e mid.passed) left }

-- how the turns end behind so many
pub streamed : (it : Served) (limits : Limits) (lines : LineForm) (n : ℕ) (s mid : Shown) (t : Session) (refused : Option SessionFault)
    → Counted (λ turn s t. TurnTells it limits lines s t) n s mid → n < most_turns → ServeEnds it limits mid.session refused t
    → Streams it limits lines s refused (shown t mid.text)
streamed it limits lines n s mid t refused before few ends = record {
  turns = before.steps;
  few = subst (λ k. k < most_turns) (sym before.count) few;
  mid = mid;
  each = before.each;
  ends = ends;
  text = refl;
}

-- the whole of it
pub is_streamed : (number : ℕ) (it : Served) (lines : LineForm) (before after : Wire) (was now_passed : List AnswerName)
    (old named text new : Option (List ℕ)) (refused : Option SessionFault)
    (outgoing : List ℕ) (unread : Unread) (left : ServerCalls) (fault : Option SessionFault) (r : Result Ending Failure)
    → Appends old named (ended (connection_in lines number))
    → Streams it it.limits lines (shown (session (new_server it.limits before.input before.output) was) named) refused
    (shown (session (between after.input after.output outgoing unread left fault) now_passed) text)
    → OnOk r (Appends text new (left_text lines it.interface left (told refused fault) unread))
    → IfOk r (λ ending. ending.status ≡ serve_status (told refused fault))
    → IfOk r (Ends is_closed (told refused fault) left.table unread) → IfOk r (ServesStreamEnd number it lines before after was now_passed old new)
is_streamed number it lines before after was now_passed old named text new refused outgoing unread left fault (Err failure) name streams last is ends = tt
is_streamed number it lines before after was now_passed old named text new refused outgoing unread left fault (Ok ending) name streams last is ends = record {
  streamed = record {
    named = named;
    name = name;
    refused = refused;
    outgoing = outgoing;
    unread = unread;
    left = left;
    fault = fault;
    text = text;
    streams = streams;
    last = last;
    is = is;
  };
  ends = ends;
}
