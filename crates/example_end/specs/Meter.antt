-- The toy rule: what each event does to a message.
use Rattle.std.specs.Prelude.{◌≡◌, Bool, true, false, Option, Some, None, Ok, Err, IsErr, refl}
use Rattle.giop_mux.specs.Faults.{no_fault}
use Rattle.giop_mux.specs.declared.step.Step.{Step}
use Rattle.example_end.specs.declared.meter.Entry.{Entry}
use Rattle.example_end.specs.declared.meter.Entry.TheVariants.{Arriving, Whole, Cancelled}
use Rattle.example_end.specs.declared.meter.Event.{Event}
use Rattle.example_end.specs.declared.meter.Event.TheVariants.{Begin, End, Cancel}
use Rattle.example_end.specs.declared.meter.MeterFault.{MeterFault}
use Rattle.example_end.specs.declared.meter.MeterFault.TheVariants.{InUse, Stray}

-- an accepted step, and a refused one
abbrev pub taken : Option Entry → Step Entry (Unit {0}) MeterFault
taken entry = record { entry = entry; outcome = Ok tt }

abbrev pub refused : Option Entry → MeterFault → Step Entry (Unit {0}) MeterFault
refused entry fault = record { entry = entry; outcome = Err fault }

-- what an event does to a message with this entry, or to an id without one
abbrev pub step_of : Option Entry → Event → Step Entry (Unit {0}) MeterFault
step_of (Some Arriving) Begin = refused (Some Arriving) InUse
step_of (Some (Whole n)) Begin = taken (Some Arriving)
step_of (Some Cancelled) Begin = taken (Some Arriving)
step_of None Begin = taken (Some Arriving)
step_of (Some Arriving) (End n) = taken (Some (Whole n))
step_of (Some (Whole m)) (End n) = refused (Some (Whole m)) Stray
step_of (Some Cancelled) (End n) = taken (Some Cancelled)
step_of None (End n) = refused None Stray
step_of (Some Arriving) Cancel = taken (Some Cancelled)
step_of (Some (Whole m)) Cancel = taken (Some (Whole m))
step_of (Some Cancelled) Cancel = taken (Some Cancelled)
step_of None Cancel = taken None

-- whether the message is over
abbrev pub is_closed : Entry → Bool
is_closed Arriving = false
is_closed (Whole n) = true
is_closed Cancelled = true

-- a refused event leaves the entry
pub fault_keeps : (entry : Option Entry) (event : Event)
    → IsErr (step_of entry event).outcome → (step_of entry event).entry ≡ entry
fault_keeps (Some Arriving) Begin fault = refl
fault_keeps (Some (Whole n)) Begin fault = no_fault fault
fault_keeps (Some Cancelled) Begin fault = no_fault fault
fault_keeps None Begin fault = no_fault fault
fault_keeps (Some Arriving) (End n) fault = no_fault fault
fault_keeps (Some (Whole m)) (End n) fault = refl
fault_keeps (Some Cancelled) (End n) fault = no_fault fault
fault_keeps None (End n) fault = refl
fault_keeps (Some Arriving) Cancel fault = no_fault fault
fault_keeps (Some (Whole m)) Cancel fault = refl
fault_keeps (Some Cancelled) Cancel fault = refl
fault_keeps None Cancel fault = refl
