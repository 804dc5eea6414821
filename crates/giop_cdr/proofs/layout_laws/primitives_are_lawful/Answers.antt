use Rattle.giop_cdr.proofs.LayoutLemmas.{number_is, signed_is, boolean_is, octets_is, text_is, bounded_octets_is, bounded_text_is}
use Rattle.giop_cdr.proofs.layout_laws.primitives_are_lawful.Goals as goal

pub returns : goal.returns
returns c = record {
  numbers = number_is;
  signed = signed_is;
  booleans = boolean_is;
  octets = λ bound. (bounded_octets_is bound, octets_is);
  texts = λ bound. (bounded_text_is bound, text_is);
}
