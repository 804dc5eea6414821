-- Calls that are made as there is room for them, and told when they are over.
use Rattle.std.proofs.Common.{◌≡◌, ℕ, ◌<◌, ◌&&◌, Bool, true, false, List, ◌∷◌, ◌++◌, Option, Some, None, Result, Ok, Err, IfOk, OnOk, inl, inr, refl, sym, ap, subst, ◌∙◌}
use Rattle.std.proofs.lemmas.Grind.{flat_map-append}
use Rattle.std.specs.Io.KnownBytes.{Appends}
use Rattle.giop_msg.specs.Stream.{Unread}
use Rattle.giop_calls.specs.declared.client.entry.ClientEntry.{ClientEntry}
use Rattle.giop_calls.specs.declared.client.event.ClientEvent.{ClientEvent}
use Rattle.giop_calls.specs.declared.client.rule.ClientRule.{ClientRule}
use Rattle.giop_calls.specs.declared.fault.CallFault.{CallFault}
use Rattle.giop_calls.specs.ClientTable.{is_closed}
use Rattle.giop_types.specs.declared.interfaces.interface.Interface.{Interface}
use Rattle.giop_end.specs.declared.end.End.{End}
use Rattle.giop_end.specs.declared.session_fault.SessionFault.{SessionFault}
use Rattle.giop_table.specs.CallTable.{Held}
use Rattle.giop_end.specs.Pumping.{Between, between}
use Rattle.giop_asked_calls.specs.declared.calls.CallLine.{CallLine}
use Rattle.giop_show.specs.declared.failure.Failure.{Failure}
use Rattle.giop_forms.specs.declared.line_form.LineForm.{LineForm}
use Rattle.giop_commands.specs.declared.session.ending.Ending.{Ending}
use Rattle.giop_commands.specs.Session.Acts.{Outbox}
use Rattle.giop_calling.specs.Call.Calling.{Asked, ClientCalls}
use Rattle.giop_calling.specs.Call.Streaming.{CallsNext, Course, CourseEnds, Makes, MakesOne, Streams, TurnTells, Turns, TurnsIf, all_done, all_over_well, box_of, course, is_done, left_text, new_client, next_has_room, opened, still_open, stream_status, unsent_text, with_box}
use Rattle.giop_calling.specs.Call.Endings.{CallsStreamEnd}
use Rattle.giop_commands.specs.Session.Endings.{Ends}
use Rattle.giop_commands.specs.Session.Printed.{Wire, told}
use Rattle.giop_commands.specs.Session.Streaming.{over_text}
use Rattle.giop_commands.specs.Session.Tables.Table.{client_entry_in}
use Rattle.giop_commands.specs.Session.Turns.{most_turns}
use Rattle.giop_show.proofs.AppendsLemmas.{Appends-append}
use Rattle.giop_commands.proofs.OnSession.StepLemmas.{Before, Counted}
use Rattle.giop_commands.proofs.OnSession.StreamingLemmas.{unfailed}

-- ---- calls that are made

module _ (asked : Asked) (fault : Option SessionFault) where
  -- there is no room for the next
  pub made_some : (calls left rest : List CallLine) (s t : Outbox ClientCalls) → rest ≡ left
      → Before (λ call s t. MakesOne asked fault call s None t) calls left s t → next_has_room asked.limits left t ≡ false
      → Makes asked fault calls rest s None t
  made_some calls left rest s t is front full =
      subst (λ l. Makes asked fault calls l s None t) (sym is)
      (record { made = front.before; parts = front.parts; each = front.each; full = full })

  -- the next is refused
  pub made_up_to : (calls left rest : List CallLine) (call : CallLine) (s mid t : Outbox ClientCalls) (why : SessionFault) → left ≡ call ∷ rest
      → Before (λ call s t. MakesOne asked fault call s None t) calls left s mid → MakesOne asked fault call mid (Some why) t
      → Makes asked fault calls rest s (Some why) t
  made_up_to calls left rest call s mid t why is front stops = record {
    made = front.before;
    call = call;
    mid = mid;
    parts = front.parts ∙ ap (λ l. front.before ++ l) is;
    each = front.each;
    stops = stops;
  }

-- ---- turns

-- nothing is wrong with an end behind a turn of which the session continues
unfailed_if : (interface : Interface) (over : Bool) (s t : Between ClientCalls) → s.state.fault ≡ None → TurnsIf interface over s true t
    → t.state.fault ≡ None
unfailed_if interface true s t none turns = ap (λ (b : Between ClientCalls). b.state.fault) turns.1.others ∙ none
unfailed_if interface false s t none turns = unfailed _ s t turns

pub turn_unfailed : (interface : Interface) (s t : Between ClientCalls) → s.state.fault ≡ None → Turns interface s true t → t.state.fault ≡ None
turn_unfailed interface s t none turns = unfailed_if interface _ s t none turns

-- nor with one of which calls are taken out
pub unfailed_by : {R E V A F : Type 0} (old new : End R E V A F) (calls : Held R E) → new ≡ record old { calls = calls } → new.fault ≡ old.fault
unfailed_by {R} {E} {V} {A} {F} old new calls same = ap (λ (e : End R E V A F). e.fault) same

-- an end of which the calls that are over are taken out
pub opened_by : (old new : End ClientRule ClientEntry ClientEvent (Unit {0}) CallFault) (input output : Option (List ℕ))
    → new ≡ record old { calls = still_open old.calls }
    → between input output new.outgoing new.framer new.calls new.fault ≡ opened (between input output old.outgoing old.framer old.calls old.fault)
opened_by old new input output same =
    ap (λ (e : End ClientRule ClientEntry ClientEvent (Unit {0}) CallFault). between input output e.outgoing e.framer e.calls e.fault) same

-- ---- the course of a stream

module _ (asked : Asked) (lines : LineForm) where
  -- calls, a turn, and what is told behind it
  pub course_told : (s mid t : Between ClientCalls) (box : Outbox ClientCalls) (old new : Option (List ℕ)) (left rest : List CallLine) (well all : Bool)
      → is_done left s.state.calls ≡ false → CallsNext asked s.state.fault left rest (box_of s) None box
      → Turns asked.interface (with_box s box) true mid
      → Appends old new (over_text is_closed (client_entry_in lines asked.interface) mid.state.calls.table) → t ≡ opened mid
      → all ≡ (well && all_over_well mid.state.calls.table) → TurnTells asked lines (course s old left well) (course t new rest all)
  course_told s mid t box old new left rest well all pending calls turn tells taken is = record {
    pending = pending;
    box = box;
    calls = calls;
    mid = mid;
    turn = turn;
    tells = tells;
    taken = taken;
    well = is;
  }

  -- how it ends
  pub ends_done : (s : Between ClientCalls) (text : Option (List ℕ)) (left : List CallLine) (well : Bool) → is_done left s.state.calls ≡ true
      → CourseEnds asked lines (course s text left well) None (course s text left well)
  ends_done s text left well done = inl (record { done = done; same = refl })

  pub ends_off : (s t : Between ClientCalls) (box : Outbox ClientCalls) (text : Option (List ℕ)) (left rest : List CallLine) (well : Bool)
      → is_done left s.state.calls ≡ false → CallsNext asked s.state.fault left rest (box_of s) None box
      → Turns asked.interface (with_box s box) false t → CourseEnds asked lines (course s text left well) None (course t text rest well)
  ends_off s t box text left rest well pending calls turn =
      inr (record { pending = pending; box = box; calls = calls; turn = turn; text = refl; well = refl })

  pub ends_refused : (s : Between ClientCalls) (box : Outbox ClientCalls) (text : Option (List ℕ)) (left rest : List CallLine) (well : Bool)
      (why : SessionFault) → is_done left s.state.calls ≡ false → CallsNext asked s.state.fault left rest (box_of s) (Some why) box
      → CourseEnds asked lines (course s text left well) (Some why) (course (with_box s box) text rest well)
  ends_refused s box text left rest well why pending calls =
      record { pending = pending; box = box; calls = calls; end = refl; text = refl; well = refl }

  -- behind so many turns
  pub streamed : (n : ℕ) (s mid t : Course) (refused : Option SessionFault) → Counted (λ turn s t. TurnTells asked lines s t) n s mid → n < most_turns
      → CourseEnds asked lines mid refused t → Streams asked lines s refused t
  streamed n s mid t refused before few ends = record {
    turns = before.steps;
    few = subst (λ k. k < most_turns) (sym before.count) few;
    mid = mid;
    each = before.each;
    ends = ends;
  }

  -- the whole of it
  pub is_streamed : (before after : Wire) (old text new : Option (List ℕ)) (refused : Option SessionFault) (outgoing : List ℕ) (unread : Unread)
      (still : ClientCalls) (fault : Option SessionFault) (left : List CallLine) (well : Bool) (r : Result Ending Failure)
      → Streams asked lines (course (new_client asked.limits before.input before.output) old asked.calls true) refused
      (course (between after.input after.output outgoing unread still fault) text left well)
      → OnOk r (Appends text new (left_text lines asked.interface still left (told refused fault)))
      → IfOk r (λ ending. ending.status ≡ stream_status refused fault (all_done well still left))
      → IfOk r (Ends is_closed (told refused fault) still.table unread) → IfOk r (CallsStreamEnd asked lines before after old new)
  is_streamed before after old text new refused outgoing unread still fault left well (Err failure) streams last is ends = tt
  is_streamed before after old text new refused outgoing unread still fault left well (Ok ending) streams last is ends = record {
    streamed = record {
      refused = refused;
      outgoing = outgoing;
      unread = unread;
      still = still;
      fault = fault;
      text = text;
      left = left;
      well = well;
      streams = streams;
      last = last;
      is = is;
    };
    ends = ends;
  }

-- the lines of calls that weren't made, in two parts
pub unsent_on : (lines : LineForm) (front back all : List CallLine) (old mid new : Option (List ℕ)) (r : Result (Unit {0}) Failure) → front ++ back ≡ all
    → Appends old mid (unsent_text lines front) → OnOk r (Appends mid new (unsent_text lines back)) → OnOk r (Appends old new (unsent_text lines all))
unsent_on lines front back all old mid new (Err failure) is first next = tt
unsent_on lines front back all old mid new (Ok done) is first next =
    subst (λ l. Appends old new (unsent_text lines l)) is
    (subst (λ text. Appends old new text) (sym (flat_map-append _ front back)) (Appends-append old mid new _ _ first next))
