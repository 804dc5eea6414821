use Rattle.giop_ior.proofs.BackLemmas.{appended_back}
use Rattle.giop_ior.proofs.IorLemmas.{ior_is}
use Rattle.giop_ior.proofs.references.ior_writing.write_ior.Goals as goal

pub returns-clause-back : goal.returns-clause-back
returns-clause-back c =
    appended_back ior_is c.args.ior.now c.args.out.now c.append_ior.new.out c.append_ior.result (cc) (cc)
    c.append_ior.ensures.held c.append_ior.ensures.written
