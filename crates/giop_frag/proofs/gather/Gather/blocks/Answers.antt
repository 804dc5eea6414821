use Rattle.std.proofs.Common.{ap, arith}
use Rattle.giop_frag.specs.Gathered.{blocks_of}
use Rattle.giop_frag.proofs.gather.Gather.blocks.Goals as goal

pub returns-clause-least : goal.returns-clause-least
returns-clause-least c =
    let free = c.self.invariant.held.free in
    let lists = ap (λ g. blocks_of g.lists) c.self.view_is in
    omega arith
