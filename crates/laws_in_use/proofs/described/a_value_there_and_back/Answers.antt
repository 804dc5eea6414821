use Rattle.laws_in_use.proofs.described.a_value_there_and_back.Goals as goal

pub returns-clause-fit : goal.returns-clause-fit
returns-clause-fit c = λ unfit. let none = c.encoded_and_decoded.ensures.err.0 unfit in absurd cc

pub returns-clause-back : goal.returns-clause-back
returns-clause-back c = c.encoded_and_decoded.ensures.back
