use Rattle.giopctl.proofs.SessionsLemmas.{served}
use Rattle.giopctl.proofs.commands.serve.serve_over.Goals as goal

pub returns : goal.returns
returns g c = served c.args.number c.args.interface.now _ _ _ _ c.tell.result c.tell.ensures.text c.tell.ensures.ok
