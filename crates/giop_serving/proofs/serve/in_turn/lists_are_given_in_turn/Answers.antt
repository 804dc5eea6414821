use Rattle.giop_serving.proofs.OnServe.InTurnLemmas.{in_turn, objects_apart}
use Rattle.giop_serving.proofs.serve.in_turn.lists_are_given_in_turn.Goals as goal

pub returns : goal.returns
returns c = record { turn = in_turn; apart = objects_apart }
