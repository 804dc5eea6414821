use Rattle.std.proofs.Common.{◌≡◌, ◌-◌, ◌++◌, length, drop, sym, ap, ◌∙◌, refl, subst, arith}
use Rattle.giop_frag.specs.Gathered.{blocks_for}
use Rattle.giop_frag.specs.Blocks.{AreApart}
use Rattle.giop_frag.specs.Placed.{Placed}
use Rattle.giop_frag.proofs.FillLemmas.{taken_apart, filled_as, filled_by}
use Rattle.giop_frag.proofs.joined.Joined.fill.Goals as goal

pub write-requires-clause-apart : goal.write-requires-clause-apart
write-requires-clause-apart c =
    let numbers =
    c.take.ensures.value
    ∙ ap (λ p. p.numbers ++ drop (length c.args.pool.now.free - (c.blocks_for.result - c.count.result)) c.args.pool.now.free) c.self.view_is in
    taken_apart _ _ _ _ _ c.requires.apart (c.deref.ensures.value ∙ numbers) c.take.ensures.ok

pub returns : goal.returns
returns c =
    let A : Placed → Type 0 = λ p. AreApart c.args.pool.now.blocks (p.numbers ++ c.args.pool.now.free) in
    let C : Placed → Type 0 = λ p. length p.numbers ≡ blocks_for p.size in
    let held = ap (λ p. length p.numbers) c.self.view_is in
    let size = ap (λ p. p.size) c.self.view_is in
    let value = rw c.deref.ensures.value at c.write.ensures.value in
    let written = rw c.deref.ensures.value at c.write.ensures.written in
    let all = c.blocks_for.ensures.value in
    let counted = c.count.ensures in
    let enough = c.requires.free in
    filled_as _ _ _ _ _ _ c.self.view_is
    (filled_by _ _ _ c.take.new.self _ (c.blocks_for.result - c.count.result) _
    (subst A (sym c.self.view_is) c.requires.apart) (subst C (sym c.self.view_is) c.requires.count)
    (omega arith) (omega arith) c.take.ensures.value c.take.ensures.ok c.take.ensures.whole
    value written c.write.ensures.free c.write.ensures.whole refl refl)
