use Rattle.std.proofs.Common.{refl}
use Rattle.giop_serving.specs.Serve.Serving.{desk}
use Rattle.laws_in_use.specs.Serving.{answering, ping_passed}
use Rattle.laws_in_use.proofs.PiecesLeft.{all_sent, none_sent}
use Rattle.laws_in_use.proofs.serving.all_pieces_are_put_out_or_none.Goals as goal

pub returns-clause-sends : goal.returns-clause-sends
returns-clause-sends c = λ served limits. (all_sent, refl)

pub returns-clause-fails : goal.returns-clause-fails
returns-clause-fails c = λ served limits. (none_sent, refl)

pub returns-clause-passed : goal.returns-clause-passed
returns-clause-passed c = λ served limits fault refused t sends.
    c.pieces_pass_no_answers.ensures served limits fault (desk answering ping_passed) refused t sends
