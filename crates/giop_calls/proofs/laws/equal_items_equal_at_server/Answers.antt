use Rattle.std.specs.Prelude.{None}
use Rattle.giop_calls.specs.ServerItems.{server_turn, server_words}
use Rattle.giop_calls.proofs.EqualItems.{equal_items}
use Rattle.giop_calls.proofs.ServerGathers.{server_gathers}
use Rattle.giop_calls.proofs.laws.equal_items_equal_at_server.Goals as goal

pub returns : goal.returns
returns c = record { value = equal_items server_turn server_words server_gathers None }
