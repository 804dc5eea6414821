-- The numbers and the names of the faults of JSON forms, and of descriptions.
use Rattle.std.specs.Prelude.{ℕ, List, codes}
use Rattle.giop_json.specs.declared.form_fault.FormFault.{FormFault}
use Rattle.giop_json.specs.declared.form_fault.FormFault.TheVariants.{BadJson, BadShape, BadDesc, Unfit, NoMemory}

-- the number of a fault
abbrev pub form_fault_number : FormFault → ℕ
form_fault_number BadJson = 1
form_fault_number BadShape = 2
form_fault_number (BadDesc fault) = 3
form_fault_number Unfit = 4
form_fault_number NoMemory = 5

-- the name of a fault
abbrev pub form_fault_name : FormFault → List ℕ
form_fault_name BadJson = codes "BadJson"
form_fault_name BadShape = codes "BadShape"
form_fault_name (BadDesc fault) = codes "BadDesc"
form_fault_name Unfit = codes "Unfit"
form_fault_name NoMemory = codes "NoMemory"
