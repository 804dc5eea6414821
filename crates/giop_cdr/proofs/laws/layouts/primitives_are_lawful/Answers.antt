use Rattle.giop_cdr.proofs.LayoutLemmas.{number_is, signed_is, boolean_is, octets_is, text_is, bounded_octets_is, bounded_text_is}
use Rattle.std.specs.Int.{w32}
use Rattle.std.proofs.Common.{true, refl}
use Rattle.giop_cdr.proofs.Encapsulation.EncapsulatedLemmas.{encapsulation_is, number_is_short}
use Rattle.giop_cdr.proofs.laws.layouts.primitives_are_lawful.Goals as goal

pub returns : goal.returns
returns c = record {
  numbers = number_is;
  signed = signed_is;
  booleans = boolean_is;
  octets = λ bound. (bounded_octets_is bound, octets_is);
  encapsulated = λ order. encapsulation_is order (λ n. true) (number_is_short order) (number_is w32 refl);
  texts = λ bound. (bounded_text_is bound, text_is);
}
