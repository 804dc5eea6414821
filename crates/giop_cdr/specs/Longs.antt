-- Longs that lie one after the other (CORBA 3.3 Part 2, 9.3.1.2), aligned to 4 and so without
-- padding between them.
use Rattle.std.specs.Prelude.{ℤ, ℕ, List}
use Rattle.std.specs.List.{flat_map}
use Rattle.std.specs.Int.{w32, cast_signed, cast_unsigned}
use Rattle.giop_cdr.specs.declared.order.Order.{Order}
use Rattle.giop_cdr.specs.Reading.Cursor.{num}
use Rattle.giop_cdr.specs.Writing.Output.{octets_of}

-- the long that four octets are
abbrev pub long_of : Order → List ℕ → ℤ
long_of order octets = cast_signed w32 (num order w32 octets)

-- the octets of a long
abbrev pub long_octets : Order → ℤ → List ℕ
long_octets order z = octets_of order w32 (cast_unsigned w32 z)

-- the octets of longs
abbrev pub longs_octets : Order → List ℤ → List ℕ
longs_octets order longs = flat_map (long_octets order) longs
