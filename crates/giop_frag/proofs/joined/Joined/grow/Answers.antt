use Rattle.std.proofs.Common.{ap, ◌∙◌}
use Rattle.giop_frag.proofs.FillLemmas.{grown_apart}
use Rattle.giop_frag.proofs.joined.Joined.grow.Goals as goal

pub fill-requires-clause-apart : goal.fill-requires-clause-apart
fill-requires-clause-apart c =
    grown_apart _ _ _ _ c.requires.apart (c.reserve.ensures.items ∙ ap (λ p. p.numbers) c.self.view_is) c.provide.ensures.provided.grown
