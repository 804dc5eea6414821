use Rattle.giopctl.proofs.SessionsLemmas.{called}
use Rattle.giopctl.proofs.commands.call.call_over.Goals as goal

pub returns : goal.returns
returns g c = called c.args.interface.now _ _ _ _ _ c.tell.result c.tell.ensures.text c.tell.ensures.ok
