use Rattle.std.proofs.Common.{refl}
use Rattle.giop_msg.specs.declared.version.Version.TheVariants.{V11, V12}
use Rattle.laws_in_use.specs.Exchange.{ping, pong}
use Rattle.laws_in_use.proofs.spelled.replies_of_a_version.Goals as goal

pub returns-clause-same : goal.returns-clause-same
returns-clause-same c = (c.answers_fit_their_calls.ensures.asked (ping V12) (pong V12) 1).1 refl

pub returns-clause-other : goal.returns-clause-other
returns-clause-other c = λ ok.
    let version = (c.answers_fit_their_calls.ensures.asked (ping V12) (pong V11) 1).0 ok in absurd cc

pub returns-clause-no_exception : goal.returns-clause-no_exception
returns-clause-no_exception c = λ call ok.
    let body = ((c.answers_fit_their_calls.ensures.undecoded call (pong V12) 1).0 ok).2.3 in absurd cc
