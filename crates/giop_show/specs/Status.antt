-- The exit statuses of the program.
use Rattle.std.specs.Prelude.{◌≡◌, ◌⊎◌, ℕ, List, codes, Result, Ok, Err}
use Rattle.giop_msg.specs.declared.fault.WireKind.{WireKind}
use Rattle.giop_msg.specs.declared.fault.WireKind.TheVariants.{TooLarge}
use Rattle.giop_show.specs.declared.status.Limit.{Limit}
use Rattle.giop_show.specs.declared.status.Limit.TheVariants.{Message, Calls, Gathered}
use Rattle.giop_show.specs.declared.status.Status.{Status}
use Rattle.giop_show.specs.declared.status.Status.TheVariants.{Done, Refused, LimitPassed, Usage, InputOutput}
use Rattle.giop_show.specs.declared.status.Status.TheVariants.{Memory as memory_status}
use Rattle.giop_show.specs.declared.failure.Failure.{Failure}
use Rattle.giop_show.specs.declared.failure.Failure.TheVariants.{Memory, Input, Output, Connection, TurnsSpent}

-- the number that the process ends with
abbrev pub status_number : Status → ℕ
status_number Done = 0
status_number Refused = 1
status_number (LimitPassed limit) = 1
status_number Usage = 2
status_number InputOutput = 3
status_number memory_status = 4

-- the option by which a limit is given
abbrev pub limit_option : Limit → List ℕ
limit_option Message = codes "--message-limit"
limit_option Calls = codes "--calls-limit"
limit_option Gathered = codes "--gathered-limit"

-- the status of what ends at a header with a fault of this kind: one that is too large passes a
-- limit
abbrev pub header_status : WireKind → Status
header_status TooLarge = LimitPassed Message
header_status _ = Refused

-- a status of messages that were read: all is well, something is refused, or one is too large; so
-- it is none of the command line's, and none of what failed
abbrev pub IsJudged : Status → Type 0
IsJudged status = (status ≡ Done) ⊎ ((status ≡ Refused) ⊎ (status ≡ LimitPassed Message))

-- the status that a failure ends with
abbrev pub failure_status : Failure → Status
failure_status Memory = memory_status
failure_status (Input e) = InputOutput
failure_status (Output e) = InputOutput
failure_status (Connection e) = InputOutput
failure_status TurnsSpent = InputOutput

-- the status of what a command answered
abbrev pub answered_status : Result Status Failure → Status
answered_status (Ok status) = status
answered_status (Err failure) = failure_status failure
