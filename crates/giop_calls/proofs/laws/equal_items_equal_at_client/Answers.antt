use Rattle.std.specs.Prelude.{None}
use Rattle.giop_calls.specs.ClientItems.{client_turn, client_words}
use Rattle.giop_calls.proofs.EqualItems.{equal_items}
use Rattle.giop_calls.proofs.ClientGathers.{client_gathers}
use Rattle.giop_calls.proofs.laws.equal_items_equal_at_client.Goals as goal

pub returns : goal.returns
returns c = record { value = equal_items client_turn client_words client_gathers None }
