use Rattle.std.proofs.Common.{[], ◌∷◌, codes, negsuc, refl, arith}
use Rattle.std.specs.Int.{w16, w32}
use Rattle.giop_cdr.specs.declared.order.Order.TheVariants.{Big, Little}
use Rattle.giop_cdr.specs.Writing.Output.{number_out, octets_out, signed_out, string_out}
use Rattle.laws_in_use.proofs.CdrSpelled.{again}
use Rattle.laws_in_use.proofs.cdr.written_at_two.Goals as goal

pub returns-clause-number : goal.returns-clause-number
unfolding number_out
returns-clause-number c =
    again (c.written_values_are_read_back.ensures.numbers w32 258 (record { order = Little; at = 2; octets = [] }) refl (omega arith)) refl (9 ∷ [])

pub returns-clause-signed : goal.returns-clause-signed
unfolding number_out signed_out
returns-clause-signed c =
    again (c.written_values_are_read_back.ensures.signed w16 (negsuc 1) (record { order = Big; at = 2; octets = [] }) refl (omega arith)) refl []

pub returns-clause-octets : goal.returns-clause-octets
unfolding number_out octets_out
returns-clause-octets c =
    again (c.written_values_are_read_back.ensures.octets (codes "a") (record { order = Big; at = 2; octets = [] }) (omega arith)) refl (9 ∷ [])

pub returns-clause-text : goal.returns-clause-text
unfolding number_out string_out
returns-clause-text c =
    again (c.written_values_are_read_back.ensures.strings (codes "a") (record { order = Big; at = 2; octets = [] }) refl (omega arith)) refl (9 ∷ [])
