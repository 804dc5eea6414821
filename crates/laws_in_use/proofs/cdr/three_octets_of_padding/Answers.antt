use Rattle.std.proofs.Common.{refl}
use Rattle.giop_cdr.specs.Reading.Cursor.{pad}
use Rattle.laws_in_use.proofs.CdrSpelled.{three}
use Rattle.laws_in_use.proofs.cdr.three_octets_of_padding.Goals as goal

pub returns : goal.returns
returns c =
    three (pad 8 13) (c.padding_is_least.ensures.aligned 8 13 refl) (c.padding_is_least.ensures.least 8 13 3 refl refl)
