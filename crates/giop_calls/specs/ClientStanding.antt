-- What is stored for an id at a client, said without steps: by what befell its latest call.
use Rattle.std.specs.Prelude.{ℕ, ◌+◌, ◌-◌, ◌==◌, Bool, true, false, if◌then◌else◌, List, [], ◌∷◌, Option, Some, None}
use Rattle.giop_mux.specs.Runs.{Happening, Hears, IsTaken}
use Rattle.giop_calls.specs.declared.client.call.Call.{Call}
use Rattle.giop_calls.specs.declared.client.call.Call.TheVariants as asked
use Rattle.giop_calls.specs.declared.client.late.Late.{Late}
use Rattle.giop_calls.specs.declared.client.late.Late.TheVariants as late
use Rattle.giop_calls.specs.declared.client.heard.HeardReply.{HeardReply}
use Rattle.giop_calls.specs.declared.client.heard.HeardReply.TheVariants as heard
use Rattle.giop_calls.specs.declared.client.entry.ClientEntry.{ClientEntry}
use Rattle.giop_calls.specs.declared.client.entry.ClientEntry.TheVariants.{Sending, Waiting, Gathering, Done, LocateDone, Undecoded, Cancelled}
use Rattle.giop_calls.specs.declared.client.event.ClientEvent.{ClientEvent}
use Rattle.giop_calls.specs.declared.client.event.ClientEvent.TheVariants as event
use Rattle.giop_calls.specs.ClientTable.{sent}
use Rattle.giop_calls.specs.Histories.{latest_first, latest}

-- what befell calls of one id, the latest first
abbrev pub Past : Type 0
Past = List (Happening ClientEvent)

-- how much of a reply came, and what it was
pub data Came : Type 0 where
  Nothing : Came
  Begun : Came
  Ended : HeardReply → Came

-- the client calls
abbrev pub begins_call : Happening ClientEvent → Bool
begins_call (Hears (event.Call call pieces)) = true
begins_call _ = false

-- what it calls
abbrev pub call_of : Past → Option Call
call_of [] = None
call_of (Hears (event.Call call pieces) ∷ past) = Some call
call_of (_ ∷ past) = call_of past

-- in how many pieces
abbrev pub pieces_of : Past → ℕ
pieces_of [] = 0
pieces_of (Hears (event.Call call pieces) ∷ past) = pieces
pieces_of (_ ∷ past) = pieces_of past

-- how often a further piece of the call was sent
abbrev pub sends_of : Past → ℕ
sends_of [] = 0
sends_of (Hears event.Send ∷ past) = sends_of past + 1
sends_of (_ ∷ past) = sends_of past

-- the client cancelled
abbrev pub was_cancelled : Past → Bool
was_cancelled [] = false
was_cancelled (Hears event.Cancel ∷ past) = true
was_cancelled (_ ∷ past) = was_cancelled past

-- a last Fragment ends a reply that has begun
abbrev pub ended_by : Came → HeardReply → Came
ended_by Nothing reply = Nothing
ended_by Begun reply = Ended reply
ended_by (Ended one) reply = Ended one

-- how much of a reply came, before a cancel or after
abbrev pub came_of : Past → Came
came_of [] = Nothing
came_of (Hears (event.First kind version) ∷ past) = Begun
came_of (Hears (event.Whole kind version reply) ∷ past) = Ended reply
came_of (Hears (event.Last in_order reply) ∷ past) = ended_by (came_of past) reply
came_of (_ ∷ past) = came_of past

-- the entry was taken out
abbrev pub was_taken : Past → Bool
was_taken [] = false
was_taken (IsTaken ∷ past) = true
was_taken (_ ∷ past) = was_taken past

-- how much of a late reply that is
abbrev pub late_of : Came → Late
late_of Nothing = late.None
late_of Begun = late.Begun
late_of (Ended reply) = late.Seen

-- what stands for a call with this reply
abbrev pub replied : Call → HeardReply → ClientEntry
replied (asked.Request request) (heard.Reply reply) = Done request reply
replied (asked.Locate request) (heard.Locate reply) = LocateDone request reply
replied call (heard.Undecoded fault) = Undecoded call fault
replied call reply = Waiting call

-- what stands for a call all of which was sent
abbrev pub answered : Call → Came → ClientEntry
answered call Nothing = sent call
answered call Begun = Gathering call
answered call (Ended reply) = replied call reply

-- what stands for a call and its acts
abbrev pub shown : Call → Past → ClientEntry
shown call past = if was_cancelled past
    then Cancelled (late_of (came_of past))
    else (if pieces_of past - 1 - sends_of past == 0
    then answered call (came_of past)
    else Sending call (pieces_of past - 1 - sends_of past))

-- what stands for such acts, where they begin with a call
abbrev pub shown_by : Option Call → Past → Option ClientEntry
shown_by None past = None
shown_by (Some call) past = if was_taken past then None else Some (shown call past)

abbrev pub shown_of : Past → Option ClientEntry
shown_of past = shown_by (call_of past) past

-- what is stored after these acts, given in the order in which they happened
abbrev pub standing : List (Happening ClientEvent) → Option ClientEntry
standing acts = shown_of (latest begins_call (latest_first [] acts))
