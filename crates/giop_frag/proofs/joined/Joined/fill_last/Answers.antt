use Rattle.std.proofs.Common.{◌≡◌, ◌++◌, ◌<◌, ◌≤◌, ◌%◌, ◌+◌, length, sym, ap, ◌∙◌, refl, subst}
use Rattle.giop_frag.specs.Gathered.{blocks_for}
use Rattle.giop_frag.specs.Blocks.{AreApart}
use Rattle.giop_frag.specs.Placed.{Placed}
use Rattle.giop_frag.proofs.FillLemmas.{first_part, joined_as, joined_last}
use Rattle.giop_frag.proofs.joined.Joined.fill_last.Goals as goal

pub write_behind-requires-clause-apart : goal.write_behind-requires-clause-apart
write_behind-requires-clause-apart c =
    subst (AreApart c.args.pool.now.blocks) (sym (c.deref.ensures.value ∙ ap (λ p. p.numbers) c.self.view_is))
    (first_part _ _ _ c.requires.apart)

pub returns : goal.returns
returns c =
    let A : Placed → Type 0 = λ p. AreApart c.args.pool.now.blocks (p.numbers ++ c.args.pool.now.free) in
    let C : Placed → Type 0 = λ p. length p.numbers ≡ blocks_for p.size in
    let B : Placed → Type 0 = λ p. 0 < p.size % 512 in
    let W : Placed → Type 0 = λ p. p.size % 512 + length c.args.octets.now ≤ 512 in
    let value = rw c.deref.ensures.value at c.write_behind.ensures.value in
    let written = rw c.deref.ensures.value at c.write_behind.ensures.written in
    joined_as _ _ _ _ _ _ c.self.view_is
    (joined_last _ _ _ _ _ (subst A (sym c.self.view_is) c.requires.apart) (subst C (sym c.self.view_is) c.requires.count)
    (subst B (sym c.self.view_is) c.requires.behind) (subst W (sym c.self.view_is) c.requires.within)
    c.write_behind.ensures.before value written c.write_behind.ensures.free c.write_behind.ensures.whole refl)
