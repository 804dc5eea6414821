-- How faults of descriptions are reported: their numbers, and their names.
use Rattle.std.specs.Prelude.{ℕ, List, codes}
use Rattle.giop_types.specs.declared.description.desc_fault.DescFault.{DescFault}
use Rattle.giop_types.specs.declared.description.desc_fault.DescFault.TheVariants.{Empty, Doubled, BadDiscriminant, TooDeep}

-- the number of a fault
abbrev pub desc_fault_number : DescFault → ℕ
desc_fault_number Empty = 1
desc_fault_number Doubled = 2
desc_fault_number BadDiscriminant = 3
desc_fault_number TooDeep = 4

-- the name of a fault
abbrev pub desc_fault_name : DescFault → List ℕ
desc_fault_name Empty = codes "Empty"
desc_fault_name Doubled = codes "Doubled"
desc_fault_name BadDiscriminant = codes "BadDiscriminant"
desc_fault_name TooDeep = codes "TooDeep"
