use Rattle.std.proofs.Common.{◌∙◌}
use Rattle.laws_in_use.proofs.serving.a_number_and_no_call.Goals as goal

pub returns : goal.returns
returns c = λ served limits lines s refused t streams none told.
    c.no_turns_tell_no_calls.ensures served limits lines s refused t streams none ∙ told
