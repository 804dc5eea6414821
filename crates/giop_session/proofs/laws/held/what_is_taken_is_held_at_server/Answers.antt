use Rattle.giop_session.proofs.OnItems.ServerHeldLemmas.{server_held}
use Rattle.giop_session.proofs.laws.held.what_is_taken_is_held_at_server.Goals as goal

pub returns : goal.returns
returns c = λ interface limits inputs answers acts left k taken. server_held interface limits inputs answers acts left k taken
