use Rattle.std.proofs.Common.{rules, ◌≡◌, ◌%◌, length, ◌++◌, ◌∷◌, [], ap, ◌∙◌, arith}
use Rattle.giop_frag.specs.Blocks.{blank}
use Rattle.giop_frag.proofs.ChunkLemmas.{IsLonger, begun_as, chunk_begun, length-in_order}
use Rattle.giop_frag.proofs.blocks.Blocks.begin_chunk.Goals as goal

pub overflow_add-self : goal.overflow_add-self
overflow_add-self c =
    let count = length-in_order _ _ c.self.invariant in
    let same = ap length c.self.view_is in
    let few = c.requires.small in
    record { fits = omega arith }

begun : (c : goal.After-self-1) → IsLonger c.self.inside.chunks.items c.push-2.new.self.items c.self.inside.count blank
begun c =
    let count = length-in_order _ _ c.self.invariant in
    let same = ap length c.self.view_is in
    let is : c.self.inside.count ≡ length c.args.self.now = omega arith in
    let now : c.push-2.new.self.items ≡ c.reserve.new.self.items ++ c.push.new.self ∷ [] = search rules in
    begun_as _ _ _ _ _ (c.reserve.ensures.items) c.in_ok-chunk.ensures c.push.ensures now
    (chunk_begun _ _ blank c.self.invariant (ap (λ k. k % 64) is ∙ c.requires.even))

pub invariant_of-self-2 : goal.invariant_of-self-2
invariant_of-self-2 c = (begun c).are

pub returns-clause-ok : goal.returns-clause-ok
returns-clause-ok c = (begun c).in_order_is ∙ ap (λ l. l ++ blank ∷ []) c.self.view_is
