-- Three octets that an unsigned long is read from, and two octets behind which one is written.
use Rattle.std.specs.Prelude.{[], ◌∷◌}
use Rattle.giop_cdr.specs.Reading.Cursor.{Cursor}
use Rattle.giop_cdr.specs.Writing.Output.{Output}
use Rattle.giop_cdr.specs.declared.fault.CdrFault.{CdrFault}
use Rattle.giop_cdr.specs.declared.fault.CdrKind.TheVariants.{Short}
use Rattle.giop_cdr.specs.declared.order.Order.TheVariants.{Big}

abbrev pub short : Cursor
short = record { order = Big; at = 12; rest = 0 ∷ 0 ∷ 1 ∷ [] }

abbrev pub lacking : CdrFault
lacking = record { at = 12; kind = Short }

abbrev pub two_octets : Output
two_octets = record { order = Big; at = 0; octets = 1 ∷ 2 ∷ [] }
