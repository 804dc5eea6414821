-- The rule of the timed table: sums that are added to, closed and removed.
use Rattle.std.specs.Prelude.{◌≡◌, ℕ, ◌+◌, ◌%◌, ◌^◌, Bool, true, false, Option, Some, None, Ok, Err, IsErr, refl}
use Rattle.giop_mux.specs.declared.step.Step.{Step}
use Rattle.giop_mux.specs.Faults.{no_fault}
use Rattle.giop_bench.specs.declared.mux.Entry.{Entry}
use Rattle.giop_bench.specs.declared.mux.Entry.TheVariants.{Open, Closed}
use Rattle.giop_bench.specs.declared.mux.Event.{Event}
use Rattle.giop_bench.specs.declared.mux.Event.TheVariants.{Add, Close, Remove}
use Rattle.giop_bench.specs.declared.mux.NotOpen.{NotOpen}

-- what an event does to a sum
abbrev pub step_of : Option Entry → Event → Step Entry ℕ NotOpen
step_of None (Add n) = record { entry = Some (Open n); outcome = Ok n }
step_of (Some (Open sum)) (Add n) =
    let total = (sum + n) % 2 ^ 64 in
    record { entry = Some (Open total); outcome = Ok total }
step_of (Some (Open sum)) Close = record { entry = Some (Closed sum); outcome = Ok sum }
step_of (Some (Closed sum)) Remove = record { entry = None; outcome = Ok sum }
step_of entry _ = record { entry = entry; outcome = Err (record {}) }

-- a sum that takes no more
abbrev pub is_closed : Entry → Bool
is_closed (Open sum) = false
is_closed (Closed sum) = true

-- a refused event leaves the sum
pub fault_keeps : (entry : Option Entry) (event : Event)
    → IsErr (step_of entry event).outcome → (step_of entry event).entry ≡ entry
fault_keeps None (Add n) fault = no_fault fault
fault_keeps (Some (Open sum)) (Add n) fault = no_fault fault
fault_keeps (Some (Open sum)) Close fault = no_fault fault
fault_keeps (Some (Closed sum)) Remove fault = no_fault fault
fault_keeps None Close fault = refl
fault_keeps None Remove fault = refl
fault_keeps (Some (Open sum)) Remove fault = refl
fault_keeps (Some (Closed sum)) (Add n) fault = refl
fault_keeps (Some (Closed sum)) Close fault = refl
