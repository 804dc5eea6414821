-- A table that keeps what is put under an id.
use Rattle.std.specs.Prelude.{◌≡◌, Option, Some, Ok, IsErr}
use Rattle.giop_mux.specs.Faults.{no_fault}
use Rattle.giop_mux.specs.declared.step.Step.{Step}
use Rattle.giop_trace.specs.declared.flow.Flow.{Flow}

-- the flow that is put stands there then
abbrev pub kept : Option Flow → Flow → Step Flow (Unit {0}) (Unit {0})
kept entry flow = record { entry = Some flow; outcome = Ok tt }

-- none is refused
pub fault_keeps : (entry : Option Flow) (flow : Flow)
    → IsErr (kept entry flow).outcome → (kept entry flow).entry ≡ entry
fault_keeps entry flow fault = no_fault fault
