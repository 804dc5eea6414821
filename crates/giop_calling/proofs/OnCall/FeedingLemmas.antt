-- Calls that come as lines.
use Rattle.std.proofs.Common.{◌≡◌, ℕ, ◌<◌, ◌&&◌, Bool, true, List, Option, Result, Ok, Err, IfOk, OnOk, refl, sym, subst}
use Rattle.std.specs.Io.KnownBytes.{Appends}
use Rattle.giop_calls.specs.ClientTable.{is_closed}
use Rattle.giop_msg.specs.Stream.{Unread}
use Rattle.giop_end.specs.declared.session_fault.SessionFault.{SessionFault}
use Rattle.giop_end.specs.Pumping.{Between, between}
use Rattle.giop_asked_calls.specs.declared.calls.CallLine.{CallLine}
use Rattle.giop_show.specs.declared.failure.Failure.{Failure}
use Rattle.giop_forms.specs.declared.line_form.LineForm.{LineForm}
use Rattle.giop_commands.specs.declared.session.ending.Ending.{Ending}
use Rattle.giop_calling.specs.Call.Feeding.{Fed, FedEnd, FedEnds, FedStreams, FedTurn, Feeds, fed, with_calls}
use Rattle.giop_asked_calls.specs.Lines.{Feed}
use Rattle.giop_calling.specs.Call.Streaming.{CourseEnds, TurnTells, all_done, course, left_text, new_client, stream_status}
use Rattle.giop_calling.specs.Call.Calling.{Asked, ClientCalls}
use Rattle.giop_commands.specs.Session.Endings.{Ends}
use Rattle.giop_commands.specs.Session.Printed.{Wire, told}
use Rattle.giop_commands.specs.Session.Turns.{most_turns}
use Rattle.giop_commands.proofs.OnSession.StepLemmas.{Counted}

module _ (asked : Asked) (lines : LineForm) (waits : Bool) where
  -- a turn of a stream behind lines that were read
  pub fed_turn : (s t : Between ClientCalls) (old new : Option (List ℕ)) (first mid : Feed) (left : List CallLine) (well all : Bool)
      → Feeds asked.interface waits s.state.calls first mid
      → TurnTells asked lines (course s old mid.so_far.calls well) (course t new left all)
      → FedTurn asked lines waits (fed s old first well) (fed t new (with_calls mid left) all)
  fed_turn s t old new first mid left well all feeds turn = record { feed = mid; feeds = feeds; left = left; turn = turn; rest = refl }

  -- the end of a stream behind them
  pub fed_ends : (s t : Between ClientCalls) (old new : Option (List ℕ)) (first mid : Feed) (left : List CallLine) (well all : Bool)
      (refused : Option SessionFault) → Feeds asked.interface waits s.state.calls first mid
      → CourseEnds asked lines (course s old mid.so_far.calls well) refused (course t new left all)
      → FedEnds asked lines waits (fed s old first well) refused (fed t new (with_calls mid left) all)
  fed_ends s t old new first mid left well all refused feeds ends = record { feed = mid; feeds = feeds; left = left; ends = ends; rest = refl }

  -- behind so many turns
  pub fed_streams : (n : ℕ) (s mid t : Fed) (refused : Option SessionFault) → Counted (λ turn s t. FedTurn asked lines waits s t) n s mid
      → n < most_turns → FedEnds asked lines waits mid refused t → FedStreams asked lines waits s refused t
  fed_streams n s mid t refused before few ends = record {
    turns = before.steps;
    few = subst (λ k. k < most_turns) (sym before.count) few;
    mid = mid;
    each = before.each;
    ends = ends;
  }

  -- the whole of it
  pub is_fed : (first last : Feed) (before after : Wire) (old text new : Option (List ℕ)) (refused : Option SessionFault) (outgoing : List ℕ)
      (unread : Unread) (still : ClientCalls) (fault : Option SessionFault) (well : Bool) (r : Result Ending Failure)
      → FedStreams asked lines waits (fed (new_client asked.limits before.input before.output) old first true) refused
      (fed (between after.input after.output outgoing unread still fault) text last well)
      → OnOk r (Appends text new (left_text lines asked.interface still last.so_far.calls (told refused fault)))
      → IfOk r (λ ending. ending.status ≡ stream_status refused fault (all_done (well && last.so_far.is_over) still last.so_far.calls))
      → IfOk r (Ends is_closed (told refused fault) still.table unread) → IfOk r (FedEnd asked lines waits first last before after old new)
  is_fed first last before after old text new refused outgoing unread still fault well (Err failure) streams tells is ends = tt
  is_fed first last before after old text new refused outgoing unread still fault well (Ok ending) streams tells is ends = record {
    refused = refused;
    outgoing = outgoing;
    unread = unread;
    still = still;
    fault = fault;
    text = text;
    well = well;
    streams = streams;
    tells = tells;
    is = is;
    ends = ends;
  }
