use Rattle.std.proofs.Common.{refl, codes, ◌++◌, ◌∷◌, []}
use Rattle.giop_cdr.specs.declared.order.Order.TheVariants.{Big}
use Rattle.giop_msg.specs.declared.version.Version.TheVariants.{V12}
use Rattle.laws_in_use.specs.Framed.{asked_head, asked_octets}
use Rattle.laws_in_use.proofs.messages.an_object_beside_others.Goals as goal

pub returns : goal.returns
returns c = λ one other same.
    (c.objects_are_apart.ensures one other (codes "k") same).0 V12 Big (asked_octets ++ 9 ∷ []) asked_head _
    c.heads_in_three_versions.ensures.asked refl
