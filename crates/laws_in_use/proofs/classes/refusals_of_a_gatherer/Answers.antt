use Rattle.std.proofs.Common.{◌≡◌, Bool, true, false, Option, Some, None, Err, if◌then◌else◌, ap, sym, refl}
use Rattle.giop_frag.specs.declared.fault.GatherFault.{GatherFault}
use Rattle.giop_frag.specs.declared.fault.GatherFault.TheVariants.{GatherFull, OrderDiffers, Stray}
use Rattle.giop_frag.specs.Gathered.{Pieces, room_fault, same_order}
use Rattle.giop_frag.specs.Runs.{Adds, Begins, Happening, IsDiscarded, IsFinished, is_of_id, room, turn, unless}
use Rattle.laws_in_use.proofs.classes.refusals_of_a_gatherer.Goals as goal

-- no room is GatherFull
of_room : (over : Bool) (why : GatherFault) → room_fault over ≡ Some why → is_of_id why ≡ false
of_room true why is = let same : GatherFull ≡ why = cc in ap is_of_id (sym same)
of_room false why is = absurd cc

of_limit : (limit : _) (m : _) (what : Happening) (why : GatherFault) → room limit m what ≡ Some why → is_of_id why ≡ false
of_limit limit m (Begins order octets) why is = of_room _ why is
of_limit limit m (Adds order octets) why is = of_room _ why is
of_limit limit m IsFinished why is = absurd cc
of_limit limit m IsDiscarded why is = absurd cc

pub returns-clause-classes : goal.returns-clause-classes
returns-clause-classes c = λ limit. record { limits = λ m act why is. of_limit limit m act.what why is; memory = refl }

-- pieces of another order, or of none that began
of_order : (same : Bool) (held : Option Pieces) (why : GatherFault) → unless (if same then None else Some OrderDiffers) held ≡ Err why
    → is_of_id why ≡ true
of_order true held why is = absurd cc
of_order false held why is = let same : OrderDiffers ≡ why = cc in ap is_of_id (sym same)

own : (held : Option Pieces) (what : Happening) (why : GatherFault) → turn held what ≡ Err why → is_of_id why ≡ true
own held (Begins order octets) why is = absurd cc
own None (Adds order octets) why is = let same : Stray ≡ why = cc in ap is_of_id (sym same)
own (Some pieces) (Adds order octets) why is = of_order (same_order order pieces.order) _ why is
own None IsFinished why is = let same : Stray ≡ why = cc in ap is_of_id (sym same)
own (Some pieces) IsFinished why is = absurd cc
own held IsDiscarded why is = absurd cc

pub returns-clause-own : goal.returns-clause-own
returns-clause-own c = own
