-- The exit statuses of a command that was carried out, as far as it went.
use Rattle.std.specs.Prelude.{⊤}
use Rattle.giop_show.specs.declared.status.Status.{Status}
use Rattle.giop_show.specs.declared.status.Status.TheVariants.{Usage}

-- a status of what was done, refused or failed: any but that of words that the program doesn't know
abbrev pub IsCarriedOut : Status → Type 0
IsCarriedOut Usage = ⊥
IsCarriedOut _ = ⊤
