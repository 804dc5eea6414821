-- How the end reports a gatherer's fault.
use Rattle.giop_frag.specs.declared.fault.GatherFault.{GatherFault}
use Rattle.giop_frag.specs.declared.fault.GatherFault.TheVariants as gather
use Rattle.example_end.specs.declared.fault.EndFault.{EndFault}
use Rattle.example_end.specs.declared.fault.EndFault.TheVariants.{Stray, OrderDiffers, GatherFull, NoMemory}

-- by the same name
abbrev pub fault_of : GatherFault → EndFault
fault_of gather.Stray = Stray
fault_of gather.OrderDiffers = OrderDiffers
fault_of gather.GatherFull = GatherFull
fault_of gather.NoMemory = NoMemory
