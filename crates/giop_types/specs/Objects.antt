-- What an object offers, among those that one connection reaches.
use Rattle.std.specs.Prelude.{ℕ, List, Option, Some, None, Vec}
use Rattle.std.specs.BTreeMap.{get_by}
use Rattle.std.specs.Cmp.Lexicographic.{slice_cmp}
use Rattle.std.specs.declared.alloc.Global.{Global}
use Rattle.std.specs.declared.cmp.Ordering.{Ordering}
use Rattle.std.specs.Ordering.{nat_cmp}
use Rattle.giop_types.specs.declared.interfaces.interface.Interface.{Interface}
use Rattle.giop_types.specs.declared.interfaces.offer.Offer.{Offer}

-- the offer that was given for a key; where none was, that of all other objects
abbrev pub own_or : Offer → Option Offer → Offer
own_or general (Some own) = own
own_or general None = general

-- what the object at a key offers
abbrev pub offer_of : Interface → List ℕ → Offer
offer_of interface key =
    own_or interface.general (get_by (λ k. slice_cmp nat_cmp key k.items) interface.objects)

-- how keys are ordered
abbrev pub by_octets : Vec ℕ Global → Vec ℕ Global → Ordering
by_octets k k' = slice_cmp nat_cmp k.items k'.items
