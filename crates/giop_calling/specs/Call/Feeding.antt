-- What `call --stream` does at its end with calls that come as lines: they are read as the session
-- goes on, and each is made, told and taken out as any other of a stream.
use Rattle.std.specs.Prelude.{◌≡◌, ℕ, ◌<◌, ◌==◌, ◌&&◌, ◌||◌, not, Bool, true, false, List, [], length, Option}
use Rattle.std.specs.FinMap as finite
use Rattle.std.specs.Io.KnownBytes.{Appends}
use Rattle.giop_calls.specs.ClientTable.{is_closed}
use Rattle.giop_msg.specs.Stream.{Unread}
use Rattle.giop_types.specs.declared.interfaces.interface.Interface.{Interface}
use Rattle.giop_end.specs.declared.session_fault.SessionFault.{SessionFault}
use Rattle.giop_end.specs.Ends.View.{end_between}
use Rattle.giop_end.specs.Pumping.{Between, between}
use Rattle.giop_asked_calls.specs.declared.calls.CallLine.{CallLine}
use Rattle.giop_asked_calls.specs.declared.feed.LineFeed.{LineFeed}
use Rattle.giop_calling.specs.declared.call.given.Calling.{Calling}
use Rattle.giop_forms.specs.declared.line_form.LineForm.{LineForm}
use Rattle.giop_commands.specs.declared.session.ending.Ending.{Ending}
use Rattle.giop_asked_calls.specs.Lines.{Feed, ReadsOn, feed_at}
use Rattle.giop_calling.specs.Call.Streaming.{CourseEnds, TurnTells, all_done, course, left_text, new_client, stream_status}
use Rattle.giop_calling.specs.Call.Calling.{Asked, ClientCalls, ClientSide, asked_of}
use Rattle.giop_commands.specs.Session.Endings.{Ends}
use Rattle.giop_commands.specs.Session.Printed.{Wire, told, wire}
use Rattle.giop_commands.specs.Session.Traffic.{Traffic}
use Rattle.giop_commands.specs.Session.Steps.{Each}
use Rattle.giop_commands.specs.Session.Turns.{most_turns}

-- whether lines may be read now: where a read may wait, only while no call is open
abbrev pub may_read : Bool → ClientCalls → Bool
may_read waits calls = not waits || (length (finite.keys calls.table) == 0)

abbrev pub FeedsIf : Interface → Bool → Feed → Feed → Type 0
FeedsIf interface true s t = ReadsOn interface s t
FeedsIf interface false s t = t ≡ s

-- where none is left that can be made, lines are read until one is there, if they may be read now
abbrev pub Feeds : Interface → Bool → ClientCalls → Feed → Feed → Type 0
Feeds interface waits calls = FeedsIf interface (may_read waits calls)

-- a session, what is printed of it so far, the lines that its calls come from, and whether all
-- calls that were told went well
pub record Fed : Type 0 where
  pub end : Between ClientCalls
  pub text : Option (List ℕ)
  pub feed : Feed
  pub well : Bool

abbrev pub fed : Between ClientCalls → Option (List ℕ) → Feed → Bool → Fed
fed end text feed well = record { end = end; text = text; feed = feed; well = well }

-- of an end between a reader and a writer of these octets, and what is printed
abbrev pub fed_of : (input output text : Option (List ℕ)) → Feed → ClientSide → Bool → Fed
fed_of input output text feed end = fed (end_between input output end) text feed

-- the same lines with other calls that aren't made yet
abbrev pub with_calls : Feed → List CallLine → Feed
with_calls s calls = record s { so_far = record s.so_far { calls = calls } }

-- a session that is told in a form, of lines of which a read may wait or not
module _ (asked : Asked) (lines : LineForm) (waits : Bool) where
  -- lines are read, and then it is a turn of a stream of the calls that have come
  pub record FedTurn (s t : Fed) : Type 0 where
    pub feed : Feed
    pub feeds : Feeds asked.interface waits s.end.state.calls s.feed feed
    pub left : List CallLine
    pub turn :
        TurnTells asked lines (course s.end s.text feed.so_far.calls s.well)
        (course t.end t.text left t.well)
    pub rest : t.feed ≡ with_calls feed left

  -- lines are read, and then it ends as a stream of the calls that have come
  pub record FedEnds (s : Fed) (refused : Option SessionFault) (t : Fed) : Type 0 where
    pub feed : Feed
    pub feeds : Feeds asked.interface waits s.end.state.calls s.feed feed
    pub left : List CallLine
    pub ends :
        CourseEnds asked lines (course s.end s.text feed.so_far.calls s.well) refused
        (course t.end t.text left t.well)
    pub rest : t.feed ≡ with_calls feed left

  -- so it goes, turn by turn
  pub record FedStreams (s : Fed) (refused : Option SessionFault) (t : Fed) : Type 0 where
    pub turns : List ℕ
    pub few : length turns < most_turns
    pub mid : Fed
    pub each : Each (λ turn s t. FedTurn s t) turns s mid
    pub ends : FedEnds mid refused t

-- calls of these lines were made at a new client's end; what is printed in a form is each call when
-- it is over, and then what is left. It is done where all went well and the lines are over
pub record FedEnd (asked : Asked) (lines : LineForm) (waits : Bool) (first last : Feed)
    (before after : Wire) (old new : Option (List ℕ)) (ending : Ending) : Type 0 where
  pub refused : Option SessionFault
  pub outgoing : List ℕ
  pub unread : Unread
  pub still : ClientCalls
  pub fault : Option SessionFault
  pub text : Option (List ℕ)
  pub well : Bool
  pub streams :
      FedStreams asked lines waits
      (fed (new_client asked.limits before.input before.output) old first true) refused
      (fed (between after.input after.output outgoing unread still fault) text last well)
  pub tells : Appends text new
      (left_text lines asked.interface still last.so_far.calls (told refused fault))
  pub is : ending.status
      ≡ stream_status refused fault
      (all_done (well && last.so_far.is_over) still last.so_far.calls)
  pub ends : Ends is_closed (told refused fault) still.table unread ending

-- lines as they were and are, of which a read may wait or not
pub record Feeding : Type 0 where
  pub waits : Bool
  pub before : Feed
  pub after : Feed

-- of what brings them, by what is known of its source
abbrev pub feeding : {S : Type 0} → (S → Option (List ℕ)) → LineFeed S → LineFeed S → Feeding
feeding remaining old new = record {
  waits = old.waits;
  before = feed_at (remaining old.source) old;
  after = feed_at (remaining new.source) new;
}

-- the turns of a session over pipes, by what passed
abbrev pub FedOver : Calling → Feeding → (old new : ClientSide) → (was is : Bool)
    → Option SessionFault → Traffic → Type 0
FedOver calling source old new was is refused over =
    FedStreams (asked_of calling []) calling.lines source.waits
    (fed_of over.input.before over.output.before over.text.before source.before old was) refused
    (fed_of over.input.after over.output.after over.text.after source.after new is)

-- all of it, by what passed
abbrev pub FedEndOver : Calling → Feeding → Traffic → Ending → Type 0
FedEndOver calling source over =
    FedEnd (asked_of calling []) calling.lines source.waits source.before source.after
    (wire over.input.before over.output.before) (wire over.input.after over.output.after)
    over.text.before over.text.after
