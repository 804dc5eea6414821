-- The numbers and the texts of the faults.
use Rattle.std.specs.Prelude.{ℕ, List, codes}
use Rattle.giop_calls.specs.declared.fault.CallFault.{CallFault}
use Rattle.giop_calls.specs.declared.fault.CallFault.TheVariants.{IdInUse, Stray, OrderDiffers, UnknownReply, WrongKind, NotOpen, Unfit, UnknownOperation, NothingToSend}

-- the number of a fault
abbrev pub fault_number : CallFault → ℕ
fault_number IdInUse = 1
fault_number Stray = 2
fault_number OrderDiffers = 3
fault_number UnknownReply = 4
fault_number WrongKind = 5
fault_number NotOpen = 6
fault_number Unfit = 7
fault_number UnknownOperation = 8
fault_number NothingToSend = 9

-- its name
abbrev pub fault_name : CallFault → List ℕ
fault_name IdInUse = codes "IdInUse"
fault_name Stray = codes "Stray"
fault_name OrderDiffers = codes "OrderDiffers"
fault_name UnknownReply = codes "UnknownReply"
fault_name WrongKind = codes "WrongKind"
fault_name NotOpen = codes "NotOpen"
fault_name Unfit = codes "Unfit"
fault_name UnknownOperation = codes "UnknownOperation"
fault_name NothingToSend = codes "NothingToSend"
