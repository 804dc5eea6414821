-- The exit statuses of `convert`.
use Rattle.std.specs.Prelude.{◌≡◌, ◌⊎◌}
use Rattle.giop_show.specs.declared.status.Status.{Status}
use Rattle.giop_show.specs.declared.status.Status.TheVariants.{Done, Refused}
use Rattle.giop_files.specs.Report.{IsFailed}

-- a status of what is converted or refused
abbrev pub IsDecided : Status → Type 0
IsDecided status = (status ≡ Done) ⊎ (status ≡ Refused)

-- a status that `convert` ends with: its file is converted or refused, or something failed
abbrev pub IsConverted : Status → Type 0
IsConverted status = IsDecided status ⊎ IsFailed status
