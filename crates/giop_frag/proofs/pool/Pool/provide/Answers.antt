use Rattle.std.proofs.Common.{length, arith, length-append, ◌∷◌, []}
use Rattle.giop_frag.proofs.MadeLemmas.{no_growth, grown_more}
use Rattle.giop_frag.proofs.pool.Pool.provide.Goals as goal

pub loop-self-init : goal.loop-self-init
loop-self-init c = record { grown = no_growth _; few = omega arith }

pub loop-self-preserved : goal.loop-self-preserved
loop-self-preserved c =
    let grown = grown_more _ _ c.loop-self.invariant.grown in
    let few = c.loop-self.invariant.few in
    let below = c.loop-self-test.true in
    let longer = length-append c.loop-self.self.free (length c.loop-self.self.blocks ∷ []) in
    let is = c.in_ok-make.ensures.ok in
    rw is (record { grown = grown; few = omega arith })
