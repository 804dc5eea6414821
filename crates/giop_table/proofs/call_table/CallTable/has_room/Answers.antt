use Rattle.std.proofs.Common.{ap, arith, ◌≡◌, true, ◌≤◌, ◌-◌, length}
use Rattle.std.proofs.lemmas.Bool.Decides.{nat_tests}
use Rattle.std.specs.FinMap as finite
use Rattle.giop_frag.specs.Gathered.{octets_in}
use Rattle.giop_ids.proofs.Sums.{weight_within}
use Rattle.giop_table.proofs.call_table.CallTable.has_room.Goals as goal

pub returns-clause-most : goal.returns-clause-most
returns-clause-most g c id fits =
    let among = weight_within (λ p. length p.octets) c.self.inside.gather.lists id in
    let held = ap (λ h. octets_in (finite.get h.gathered id)) c.self.view_is in
    let is : lib.Dec.leb c.args.more (c.limit.result - c.total.result) ≡ true = fits in
    let most : c.args.more ≤ c.limit.result - c.total.result = grind (arith, nat_tests) in
    let total = c.total.ensures.value in
    let within = c.total.ensures.within in
    let limit = c.limit.ensures.within in
    omega arith
