-- What is stored for an id at a server, said without steps: by what befell its latest call.
use Rattle.std.specs.Prelude.{ℕ, ◌+◌, ◌-◌, ◌||◌, Bool, true, false, not, if◌then◌else◌, List, [], ◌∷◌, Option, Some, None, is_some}
use Rattle.giop_mux.specs.Runs.{Happening, Hears, IsTaken}
use Rattle.giop_msg.specs.declared.messages.reply.Reply.{Reply}
use Rattle.giop_calls.specs.declared.kind.CallKind.{CallKind}
use Rattle.giop_calls.specs.declared.kind.CallKind.TheVariants as kind
use Rattle.giop_calls.specs.declared.server.question.Question.TheVariants as question
use Rattle.giop_calls.specs.declared.server.heard.HeardCall.{HeardCall}
use Rattle.giop_calls.specs.declared.server.heard.HeardCall.TheVariants as heard
use Rattle.giop_calls.specs.declared.server.entry.ServerEntry.{ServerEntry}
use Rattle.giop_calls.specs.declared.server.entry.ServerEntry.TheVariants.{Gathering, Answered, LocateAnswered, Cancelled}
use Rattle.giop_calls.specs.declared.server.event.ServerEvent.{ServerEvent}
use Rattle.giop_calls.specs.declared.server.event.ServerEvent.TheVariants as event
use Rattle.giop_calls.specs.Messages.{is_oneway}
use Rattle.giop_calls.specs.ServerTable.{arrived}
use Rattle.giop_calls.specs.Histories.{latest_first, latest, earlier}

-- what befell calls of one id, the latest first
abbrev pub Past : Type 0
Past = List (Happening ServerEvent)

-- a Request or a LocateRequest begins
abbrev pub begins_call : Happening ServerEvent → Bool
begins_call (Hears (event.First kind)) = true
begins_call (Hears (event.Whole call)) = true
begins_call _ = false

-- which message the first piece begins
abbrev pub kind_of : Past → CallKind
kind_of [] = kind.Request
kind_of (Hears (event.First kind) ∷ past) = kind
kind_of (_ ∷ past) = kind_of past

-- what came whole, with the first last piece
abbrev pub whole_of : Past → Option HeardCall
whole_of [] = None
whole_of (Hears (event.Whole call) ∷ past) = earlier (whole_of past) call
whole_of (Hears (event.Last in_order call) ∷ past) = earlier (whole_of past) call
whole_of (_ ∷ past) = whole_of past

-- a message of which pieces are still to come may be cancelled, and one that expects a reply
abbrev pub may_cancel : Option HeardCall → Bool
may_cancel None = true
may_cancel (Some (heard.Request request)) = not (is_oneway request)
may_cancel (Some (heard.Locate request)) = true
may_cancel (Some (heard.Undecoded call)) = is_some call.expects

-- a CancelRequest came while the call might be cancelled
abbrev pub was_cancelled : Past → Bool
was_cancelled [] = false
was_cancelled (Hears event.Cancel ∷ past) = was_cancelled past || may_cancel (whole_of past)
was_cancelled (_ ∷ past) = was_cancelled past

-- the reply that was given
abbrev pub reply_of : Past → Option Reply
reply_of [] = None
reply_of (Hears (event.Answer reply pieces) ∷ past) = Some reply
reply_of (_ ∷ past) = reply_of past

-- in how many pieces
abbrev pub pieces_of : Past → ℕ
pieces_of [] = 0
pieces_of (Hears (event.Answer reply pieces) ∷ past) = pieces
pieces_of (_ ∷ past) = pieces_of past

-- what a LocateRequest was answered
abbrev pub here_of : Past → Option Bool
here_of [] = None
here_of (Hears (event.AnswerLocate here) ∷ past) = Some here
here_of (_ ∷ past) = here_of past

-- how often a further piece of the reply was sent
abbrev pub sends_of : Past → ℕ
sends_of [] = 0
sends_of (Hears event.Send ∷ past) = sends_of past + 1
sends_of (_ ∷ past) = sends_of past

-- the entry was taken out
abbrev pub was_taken : Past → Bool
was_taken [] = false
was_taken (IsTaken ∷ past) = true
was_taken (_ ∷ past) = was_taken past

-- what stands for a message that came whole and was so answered, or wasn't
abbrev pub answered : HeardCall → Option Reply → Option Bool → ℕ → ServerEntry
answered (heard.Request request) (Some reply) here left =
    Answered (question.Request request) reply left
answered (heard.Undecoded call) (Some reply) here left =
    Answered (question.Undecoded call.fault) reply left
answered (heard.Undecoded call) None (Some here) left = LocateAnswered None here
answered (heard.Locate request) reply (Some here) left = LocateAnswered (Some request.target) here
answered call reply here left = arrived call

-- what stands for a message that wasn't cancelled
abbrev pub gathered : Option HeardCall → Past → ServerEntry
gathered None past = Gathering (kind_of past)
gathered (Some call) past =
    answered call (reply_of past) (here_of past) (pieces_of past - 1 - sends_of past)

-- what stands for the acts of one call
abbrev pub shown : Past → ServerEntry
shown past = if was_cancelled past
    then Cancelled (is_some (reply_of past) || is_some (here_of past))
    (pieces_of past - 1 - sends_of past)
    else gathered (whole_of past) past

-- what stands for the acts of the latest call: nothing where there is none, or it was taken out
abbrev pub shown_of : Past → Option ServerEntry
shown_of [] = None
shown_of (act ∷ past) = if was_taken (act ∷ past) then None else Some (shown (act ∷ past))

-- what is stored after these acts, given in the order in which they happened
abbrev pub standing : List (Happening ServerEvent) → Option ServerEntry
standing acts = shown_of (latest begins_call (latest_first [] acts))
