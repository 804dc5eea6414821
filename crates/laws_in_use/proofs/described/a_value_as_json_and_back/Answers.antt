use Rattle.laws_in_use.proofs.described.a_value_as_json_and_back.Goals as goal

pub returns-clause-fit : goal.returns-clause-fit
returns-clause-fit c = λ unfit. let none = c.written_and_read_as_json.ensures.err.0 unfit in absurd cc

pub returns-clause-back : goal.returns-clause-back
returns-clause-back c = c.written_and_read_as_json.ensures.back
