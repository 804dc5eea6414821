-- How refusals are reported: their numbers, and their names.
use Rattle.std.specs.Prelude.{ℕ, List, codes}
use Rattle.giop_frag.specs.declared.fault.GatherFault.{GatherFault}
use Rattle.giop_frag.specs.declared.fault.GatherFault.TheVariants.{Stray, OrderDiffers, GatherFull, NoMemory}

-- the number of a refusal
abbrev pub gather_fault_number : GatherFault → ℕ
gather_fault_number Stray = 1
gather_fault_number OrderDiffers = 2
gather_fault_number GatherFull = 3
gather_fault_number NoMemory = 4

-- the name of a refusal
abbrev pub gather_fault_name : GatherFault → List ℕ
gather_fault_name Stray = codes "Stray"
gather_fault_name OrderDiffers = codes "OrderDiffers"
gather_fault_name GatherFull = codes "GatherFull"
gather_fault_name NoMemory = codes "NoMemory"
