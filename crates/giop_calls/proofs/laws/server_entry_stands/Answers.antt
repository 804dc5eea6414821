use Rattle.giop_calls.proofs.ServerStands.{entry_stands}
use Rattle.giop_calls.proofs.laws.server_entry_stands.Goals as goal

pub returns : goal.returns
returns c = record { value = entry_stands }
