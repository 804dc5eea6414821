use Rattle.std.proofs.Common.{arith}
use Rattle.giop_ids.proofs.SlotLemmas.{len_within}
use Rattle.giop_mux.proofs.mux.Mux.apply.Goals as goal

pub returns-clause-within : goal.returns-clause-within
returns-clause-within g c = let most = len_within (λ slot. slot) c.step_call.new.table.entries in omega arith
