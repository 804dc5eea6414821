use Rattle.std.proofs.Common.{◌≡◌, Bool, true, false, List, [], Option, Some, None, Err, if◌then◌else◌, refl}
use Rattle.giop_cdr.specs.declared.order.Order.TheVariants.{Big, Little}
use Rattle.giop_frag.specs.declared.fault.GatherFault.{GatherFault}
use Rattle.giop_frag.specs.declared.fault.GatherFault.TheVariants.{Stray, OrderDiffers, GatherFull, NoMemory}
use Rattle.giop_frag.specs.Gathered.{Pieces, grown, same_order}
use Rattle.giop_frag.specs.Runs.{Happening, Begins, Adds, IsFinished, IsDiscarded, unless, turn, is_of_id}
use Rattle.giop_frag.proofs.laws.refusals.own_faults_are_of_ids.Goals as goal

abbrev IsTurned : GatherFault → Type 0
IsTurned fault = (held : Option Pieces) × (act : Happening) × (turn held act ≡ Err fault)

-- each fault of an id's own is met
met : (fault : GatherFault) → is_of_id fault ≡ true → IsTurned fault
met Stray own = (None, IsFinished, refl)
met OrderDiffers own = (Some (record { order = Big; octets = [] }), Adds Little [], refl)
met GatherFull own = absurd cc
met NoMemory own = absurd cc

-- what joins to no other order is refused for that alone
joins : (same : Bool) (held : Option Pieces) (fault : GatherFault)
    → unless (if same then None else Some OrderDiffers) held ≡ Err fault → is_of_id fault ≡ true
joins true held fault is = absurd cc
joins false held OrderDiffers is = refl
joins false held fault is = absurd cc

own : (held : Option Pieces) (act : Happening) (fault : GatherFault) → turn held act ≡ Err fault → is_of_id fault ≡ true
own held (Begins order octets) fault is = absurd cc
own None (Adds order octets) Stray is = refl
own None (Adds order octets) fault is = absurd cc
own (Some pieces) (Adds order octets) fault is =
    joins (same_order order pieces.order) (grown (Some pieces) octets) fault is
own None IsFinished Stray is = refl
own None IsFinished fault is = absurd cc
own (Some pieces) IsFinished fault is = absurd cc
own held IsDiscarded fault is = absurd cc

pub returns : goal.returns
returns c = λ fault. (met fault, λ (held, act, is). own held act fault is)
