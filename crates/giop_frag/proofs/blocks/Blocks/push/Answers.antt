use Rattle.std.proofs.Common.{rules, length, ◌++◌, ◌≡◌, ◌%◌, ◌∷◌, [], refl, ap, ◌∙◌, arith}
use Rattle.giop_frag.specs.Blocks.{blank}
use Rattle.giop_frag.proofs.ChunkLemmas.{has_room, length-in_order, pushed_in}
use Rattle.giop_frag.proofs.blocks.Blocks.push.Goals as goal

pub index_mut-requires : goal.index_mut-requires
index_mut-requires c = let within = (has_room _ _ c.self.invariant c.if-self-eq0.false).within in search rules

pub push-requires : goal.push-requires
push-requires c =
    (pushed_in _ _ _ (c.index_mut.result.now ++ blank ∷ []) blank (has_room _ _ c.self.invariant c.if-self-eq0.false)
    c.index_mut.ensures.value refl).0

pub begin_chunk-requires-clause-even : goal.begin_chunk-requires-clause-even
begin_chunk-requires-clause-even c =
    let count = length-in_order _ _ c.self.invariant in
    let same = ap length c.self.view_is in
    let is : length c.args.self.now ≡ c.self.inside.count = omega arith in
    ap (λ k. k % 64) is ∙ c.if-self-eq0.true

pub overflow_add-self : goal.overflow_add-self
overflow_add-self c =
    let count = length-in_order _ _ c.self.invariant in
    let same = ap length c.self.view_is in
    let few = c.requires in
    record { fits = omega arith }

pub invariant_of-self : goal.invariant_of-self
invariant_of-self c =
    (pushed_in _ _ _ _ _ (has_room _ _ c.self.invariant c.if-self-eq0.false) c.index_mut.ensures.value c.push.ensures).1.are

pub returns-clause-ok : goal.returns-clause-ok
returns-clause-ok c =
    (pushed_in _ _ _ _ _ (has_room _ _ c.self.invariant c.if-self-eq0.false) c.index_mut.ensures.value c.push.ensures).1.in_order_is
    ∙ ap (λ l. l ++ blank ∷ []) c.self.view_is
