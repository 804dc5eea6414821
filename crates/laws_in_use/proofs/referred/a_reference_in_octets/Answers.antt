use Rattle.std.proofs.Common.{◌≡◌, [], ◌∷◌, true, refl, ◌∙◌, rules}
use Rattle.giop_cdr.specs.Layout.{field, gives, number, octets, sequence, tagged, text}
use Rattle.giop_cdr.specs.Writing.Output.{items_out, number_out, octets_out, sequence_out, string_out}
use Rattle.giop_cdr.specs.declared.order.Order.TheVariants.{Big}
use Rattle.giop_ior_text.specs.IorText.{text_written}
use Rattle.giop_ior.specs.Ior.{ior_layout, tagged_profile}
use Rattle.laws_in_use.specs.Referred.{reference, reference_octets}
use Rattle.laws_in_use.proofs.CdrSpelled.{again, are_octets}
use Rattle.laws_in_use.proofs.referred.a_reference_in_octets.Goals as goal

fitting : ior_layout.fits reference ≡ true
unfolding ior_layout tagged_profile field gives number octets sequence tagged text
fitting = refl

held : ior_layout.holds reference
unfolding ior_layout tagged_profile field gives number octets sequence tagged text
held = search rules

pub returns-clause-octets : goal.returns-clause-octets
returns-clause-octets c = are_octets reference_octets refl

pub returns-clause-back : goal.returns-clause-back
unfolding ior_layout tagged_profile field gives number octets sequence tagged text items_out number_out octets_out sequence_out string_out
returns-clause-back c =
    again (c.written_references_are_read_back.ensures reference (record { order = Big; at = 0; octets = [] }) fitting held) refl (9 ∷ [])

pub returns-clause-spelled : goal.returns-clause-spelled
returns-clause-spelled c = (c.references_are_spelled.ensures.exact _).found reference _ (returns-clause-back c)

pub returns-clause-alone : goal.returns-clause-alone
returns-clause-alone c = λ other octets rest spells is.
    let took = returns-clause-spelled c in
    (c.references_are_spelled.ensures.alone Big 0 other reference octets took.octets rest (9 ∷ []) spells took.spells (is ∙ took.front)).0

pub returns-clause-fits : goal.returns-clause-fits
returns-clause-fits c = λ other spells. (c.references_are_spelled.ensures.fits Big 0 other reference_octets (returns-clause-octets c) spells).0

pub returns-clause-of_octets : goal.returns-clause-of_octets
returns-clause-of_octets c = record { type_id = are_octets reference.type_id refl; profiles = (are_octets (171 ∷ []) refl, tt) }

pub returns-clause-text : goal.returns-clause-text
returns-clause-text c = c.written_reference_texts_are_read_back.ensures.written reference fitting held (returns-clause-of_octets c)

pub returns-clause-text_back : goal.returns-clause-text_back
returns-clause-text_back c = c.written_reference_texts_are_read_back.ensures.again reference fitting held (returns-clause-of_octets c)

pub returns-clause-text_read : goal.returns-clause-text_read
returns-clause-text_read c =
    c.reference_texts_are_read.ensures.exact.found (text_written ior_layout.written reference) reference (returns-clause-text_back c)

pub returns-clause-text_alone : goal.returns-clause-text_alone
returns-clause-text_alone c = λ other says.
    c.reference_texts_are_read.ensures.alone (text_written ior_layout.written reference) other reference says (returns-clause-text c)

pub returns-clause-text_fits : goal.returns-clause-text_fits
returns-clause-text_fits c =
    c.reference_texts_are_read.ensures.fits (text_written ior_layout.written reference) reference (returns-clause-text c)
