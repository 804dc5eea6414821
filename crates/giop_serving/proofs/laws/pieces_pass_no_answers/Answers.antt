use Rattle.giop_serving.proofs.laws.pieces_pass_no_answers.Goals as goal

pub returns : goal.returns
returns c = λ served limits fault s refused t sends. sends.1
