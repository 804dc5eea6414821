use Rattle.std.proofs.Common.{ap, ◌∙◌}
use Rattle.std.specs.Int.{w8}
use Rattle.giop_cdr.specs.Writing.Output.{number_out}
use Rattle.giop_ior.proofs.IiopLemmas.{appended_iiop_back, begun}
use Rattle.giop_ior.proofs.references.iiop_writing.iiop_profile.Goals as goal

pub returns-clause-back : goal.returns-clause-back
returns-clause-back c =
    appended_iiop_back c.args.profile.now c.write_octet.new.self c.append_profile.new.out c.from.result (cc)
    c.in_ok-append_profile.ensures.held (c.in_ok-write_octet.ensures.written.0 ∙ (ap (number_out w8 0) c.new-out.ensures ∙ begun))
    c.in_ok-append_profile.ensures.written.0 (cc)
