use Rattle.giop_end.specs.declared.session_fault.SessionFault.TheVariants.{Closed}
use Rattle.laws_in_use.specs.Serving.{answering}
use Rattle.laws_in_use.proofs.PiecesLeft.{fails, sends}
use Rattle.laws_in_use.proofs.serving.a_piece_is_put_out_or_not.Goals as goal

pub returns-clause-sends : goal.returns-clause-sends
returns-clause-sends c = sends

pub returns-clause-fails : goal.returns-clause-fails
returns-clause-fails c = fails

pub returns-clause-only : goal.returns-clause-only
returns-clause-only c = λ result t piece. c.failed_ends_send_nothing.ensures answering Closed 7 result t piece
