-- What a session of `locate --follow` may come to.
use Rattle.std.specs.Prelude.{⊤}
use Rattle.giop_connections.specs.Carried.{IsCarriedOut}
use Rattle.giop_dialing.specs.declared.locate.located.Located.{Located}
use Rattle.giop_dialing.specs.declared.locate.located.Located.TheVariants.{Elsewhere, Told}

-- where it was told, the status is one of a command that was carried out
abbrev pub EndsCarriedOut : Located → Type 0
EndsCarriedOut (Elsewhere to) = ⊤
EndsCarriedOut (Told status) = IsCarriedOut status
