use Rattle.giop_frag.proofs.RunLemmas.{run_joined, joined_run, alone_joined}
use Rattle.giop_frag.proofs.laws.own_pieces_are_joined.Goals as goal

pub returns-clause-value : goal.returns-clause-value
returns-clause-value c = λ limit m n acts results id pieces run none.
    (run_joined limit m n acts results id pieces run none, joined_run limit m n acts results id pieces run)

pub returns-clause-alone : goal.returns-clause-alone
returns-clause-alone c = alone_joined
