use Rattle.giop_calls.proofs.ClientStands.{entry_stands}
use Rattle.giop_calls.proofs.laws.client_entry_stands.Goals as goal

pub returns : goal.returns
returns c = record { value = entry_stands }
