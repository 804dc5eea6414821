-- What a session leaves where its input ends: calls that are open, and octets that are no whole
-- message.
use Rattle.std.specs.Prelude.{◌≡◌, ℕ, Bool, not, List, [], length, Option, Some, None, Result, Ok, Err}
use Rattle.std.specs.FinMap as finite
use Rattle.std.specs.List.{filter}
use Rattle.giop_ids.specs.ById.{ById}
use Rattle.giop_msg.specs.Stream.{Unread}
use Rattle.giop_table.specs.declared.slot.Slot.{Slot}
use Rattle.giop_end.specs.declared.session_fault.SessionFault.{SessionFault}
use Rattle.giop_show.specs.declared.failure.Failure.{Failure}
use Rattle.giop_commands.specs.declared.session.ending.Ending.{Ending}
use Rattle.giop_show.specs.declared.status.Status.{Status}
use Rattle.giop_show.specs.Status.{failure_status}
use Rattle.giop_commands.specs.Session.Streaming.{ended_at}

-- the ids of the calls that aren't over, ascending
abbrev pub open_ids : {E : Type 0} → (E → Bool) → ById (Slot E) → List ℕ
open_ids closed table = filter (λ id. not (ended_at closed table id)) (finite.keys table)

-- the calls that are open where no fault ended the session
abbrev pub left_open : {E : Type 0} → (E → Bool) → Option SessionFault → ById (Slot E) → List ℕ
left_open closed (Some why) table = []
left_open closed None table = open_ids closed table

-- how many octets are no whole message where no fault ended the session
abbrev pub left_over : Option SessionFault → Unread → ℕ
left_over (Some why) unread = 0
left_over None unread = length unread.octets

-- so a session ends that leaves this table and these octets, with this fault or without
pub record Ends {E : Type 0} (closed : E → Bool) (fault : Option SessionFault)
    (table : ById (Slot E)) (unread : Unread) (ending : Ending) : Type 0 where
  pub calls : ending.open_calls.items ≡ left_open closed fault table
  pub rest : ending.rest ≡ left_over fault unread

-- the exit status of a session, by what it came to or what failed
abbrev pub ending_status : Result Ending Failure → Status
ending_status (Ok ending) = ending.status
ending_status (Err failure) = failure_status failure
