-- The exit statuses of a command line that asks for no task.
use Rattle.clap.specs.declared.error.kind.ErrorKind.{ErrorKind}
use Rattle.clap.specs.declared.error.kind.ErrorKind.TheVariants.{OutOfMemory, DisplayHelp, DisplayVersion}
use Rattle.giop_show.specs.declared.status.Status.{Status}
use Rattle.giop_show.specs.declared.status.Status.TheVariants.{Done, Usage, Memory}

-- the status of a command line that asks for no task, where its text can be written
abbrev pub usage_status : ErrorKind → Status
usage_status OutOfMemory = Memory
usage_status DisplayHelp = Done
usage_status DisplayVersion = Done
usage_status _ = Usage
