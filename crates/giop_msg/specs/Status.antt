-- The status of a Reply and of a LocateReply (CORBA 3.3 Part 2, 9.4.3 and 9.4.6).
use Rattle.std.specs.Prelude.{ℕ, nat_le}
use Rattle.std.specs.Int.{w32}
use Rattle.giop_cdr.specs.declared.fault.CdrKind.TheVariants.{BadLabel}
use Rattle.giop_cdr.specs.Layout.{Layout, number, such}

-- an unsigned long that is a status, of which there are those up to a last one
abbrev pub status_up_to : ℕ → Layout ℕ
status_up_to last = such (λ status. nat_le status last) 4 BadLabel (number w32)
