use Rattle.giop_session.proofs.OnItems.ClientHeldLemmas.{client_held}
use Rattle.giop_session.proofs.laws.held.what_is_taken_is_held_at_client.Goals as goal

pub returns : goal.returns
returns c = λ interface limits inputs answers acts left k taken. client_held interface limits inputs answers acts left k taken
