-- The exit statuses of a command line that asks for no task, of what fails and of what is refused.
use Rattle.std.specs.Prelude.{◌≡◌, ◌⊎◌, ⊤}
use Rattle.clap.specs.declared.error.kind.ErrorKind.{ErrorKind}
use Rattle.clap.specs.declared.error.kind.ErrorKind.TheVariants.{OutOfMemory, DisplayHelp, DisplayVersion}
use Rattle.giop_show.specs.declared.failure.Failure.{Failure}
use Rattle.giop_show.specs.declared.failure.Failure.TheVariants.{Input, Memory as memory_failure}
use Rattle.giop_show.specs.declared.status.Status.{Status}
use Rattle.giop_show.specs.declared.status.Status.TheVariants.{Done, Refused, Usage, InputOutput, Memory}
use Rattle.giop_show.specs.Status.{IsJudged}

-- the status of a command line that asks for no task, where its text can be written
abbrev pub usage_status : ErrorKind → Status
usage_status OutOfMemory = Memory
usage_status DisplayHelp = Done
usage_status DisplayVersion = Done
usage_status _ = Usage

-- a status that something failed with
abbrev pub IsFailed : Status → Type 0
IsFailed status = (status ≡ InputOutput) ⊎ (status ≡ Memory)

-- a failure of reading a file
abbrev pub IsUnread : Failure → Type 0
IsUnread memory_failure = ⊤
IsUnread (Input e) = ⊤
IsUnread _ = ⊥

-- a status that `dump` and `trace` end with: the messages are judged, or something failed
abbrev pub IsShown : Status → Type 0
IsShown status = IsJudged status ⊎ IsFailed status

-- a status of what is refused: it is told so, or telling it failed
abbrev pub IsRefused : Status → Type 0
IsRefused status = (status ≡ Refused) ⊎ IsFailed status
