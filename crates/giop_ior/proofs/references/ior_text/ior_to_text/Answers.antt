use Rattle.std.proofs.Common.{ap, ◌∙◌}
use Rattle.std.specs.Int.{w8}
use Rattle.giop_cdr.specs.Writing.Output.{number_out}
use Rattle.giop_ior_text.specs.IorText.{prefixed}
use Rattle.giop_ior.proofs.IorTextLemmas.{appended_text_back, begins}
use Rattle.giop_ior.proofs.references.ior_text.ior_to_text.Goals as goal

pub returns-clause-back : goal.returns-clause-back
returns-clause-back c =
    appended_text_back c.args.ior.now c.write_octet.new.self c.append_ior.new.out c.in_ok-text_of_octets.field-0.items (cc)
    c.in_ok-append_ior.ensures.held (rw c.as_slice.ensures at c.in_ok-text_of_octets.ensures.held)
    (c.in_ok-write_octet.ensures.written.0 ∙ (ap (number_out w8 0) c.new-out.ensures ∙ begins))
    c.in_ok-append_ior.ensures.written.0 (c.in_ok-text_of_octets.ensures.written ∙ ap prefixed c.as_slice.ensures)
