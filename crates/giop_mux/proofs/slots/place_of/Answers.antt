use Rattle.std.proofs.Common.{◌≡◌, ◌∙◌, ◌++◌, length, take, ap, arith, List, ℕ}
use Rattle.std.specs.List.{insert}
use Rattle.giop_mux.proofs.SlotLemmas.{one_passed, placed_last}
use Rattle.giop_mux.proofs.slots.place_of.Goals as goal

pub loop-at-preserved : goal.loop-at-preserved
loop-at-preserved c = one_passed c.args.id c.loop-at.at c.args.ids.now (omega arith) (omega arith) c.loop-at.invariant

pub returns-clause-value : goal.returns-clause-value
returns-clause-value c =
    let ids = c.args.ids.now in
    let all : c.loop-at.at ≡ length ids = omega arith in
    c.loop-at.invariant
    ∙ ap (λ (rest : List ℕ). take c.loop-at.at ids ++ rest) (placed_last c.args.id c.loop-at.at ids c.loop-at-test.false)
    ∙ ap (λ (at : ℕ). insert ids at c.args.id) all
