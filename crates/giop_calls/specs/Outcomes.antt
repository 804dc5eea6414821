-- What a call came to, as contracts see it.
use Rattle.std.specs.Borrow.{Bor}
use Rattle.giop_calls.specs.declared.outcome.Outcome.{Outcome}
use Rattle.giop_calls.specs.declared.outcome.Outcome.TheVariants.{Pending, Cancelled, OneWay, Replied, Located, Undecoded}

-- an outcome whose reply is a reference, with the reply itself
abbrev pub copied : {R : Type 0} → Outcome (Bor R) → Outcome R
copied Pending = Pending
copied Cancelled = Cancelled
copied OneWay = OneWay
copied (Replied reply) = Replied reply.now
copied (Located status) = Located status
copied Undecoded = Undecoded
