use Rattle.giop_serving.proofs.serve.in_turn.Passed.pass_for.Goals as goal

pub returns-in-Given : goal.returns-in-Given
returns-in-Given c = rw c.in-Given.is (rw (c.object_for-object.ensures, c.as_slice-name.ensures) at c.pass_at.ensures)
