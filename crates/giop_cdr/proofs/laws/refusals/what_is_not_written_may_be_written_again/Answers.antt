use Rattle.std.proofs.Common.{◌∙◌, ap, subst}
use Rattle.giop_cdr.specs.Writing.Outcome.{Grows}
use Rattle.giop_cdr.proofs.laws.refusals.what_is_not_written_may_be_written_again.Goals as goal

pub returns : goal.returns
returns c = λ write old mid new e x stays (is, grows). (is ∙ ap write stays, subst (λ it. Grows it new) stays grows)
