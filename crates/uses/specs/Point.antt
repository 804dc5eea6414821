-- A struct of two longs (CORBA 3.3 Part 2, 9.3.2.2), as a table of its members.
use Rattle.std.specs.Int.{w32}
use Rattle.giop_cdr.specs.Layout.{Layout, signed, field, gives}
use Rattle.uses.specs.declared.point.Point.{Point}

-- its members in their order
unfoldable pub point : Layout Point
point =
    field (λ p. p.x) (signed w32) λ x.
    field (λ p. p.y) (signed w32) λ y.
    gives (record { x = x; y = y })
