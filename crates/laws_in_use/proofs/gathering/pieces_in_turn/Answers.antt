use Rattle.std.proofs.Common.{[], ◌∷◌, None, ap, refl, ◌∙◌, arith}
use Rattle.giop_ids.specs.Runs.{accepted, alone, own, told_alone}
use Rattle.giop_frag.specs.Runs.{turn}
use Rattle.laws_in_use.specs.Gathering.{acts, none, of_seven, results}
use Rattle.laws_in_use.proofs.GatheringRuns.{none_at, run, total_none}
use Rattle.laws_in_use.proofs.gathering.pieces_in_turn.Goals as goal

pub returns-clause-run : goal.returns-clause-run
returns-clause-run c = run

pub returns-clause-met_none : goal.returns-clause-met_none
returns-clause-met_none c = (refl, (refl, (refl, tt)))

pub returns-clause-met_one : goal.returns-clause-met_one
returns-clause-met_one c = λ met. absurd cc

pub returns-clause-are_joined : goal.returns-clause-are_joined
returns-clause-are_joined c = record { before = []; first = 1 ∷ 2 ∷ 3 ∷ []; rest = (5 ∷ 6 ∷ []) ∷ []; parts = refl; octets = refl }

pub returns-clause-seven : goal.returns-clause-seven
returns-clause-seven c = λ n run.
    (c.own_pieces_are_joined.ensures.value 8 none n acts results 7 of_seven run (none_at 7)).1 (returns-clause-are_joined c)

pub returns-clause-latest : goal.returns-clause-latest
returns-clause-latest c = c.own_pieces_are_joined.ensures.alone None of_seven (own 7 (accepted acts results)) (returns-clause-are_joined c)

pub returns-clause-own_alone : goal.returns-clause-own_alone
returns-clause-own_alone c = λ n run.
    c.each_id_alone.ensures.value 8 none n acts results 7 run (returns-clause-met_none c)
    ∙ ap (λ held. alone turn held (own 7 acts)) (none_at 7)

pub returns-clause-told : goal.returns-clause-told
returns-clause-told c = λ n answers run met.
    c.each_id_alone.ensures.told 8 none n acts answers 7 run met ∙ ap (λ held. told_alone turn held (own 7 acts)) (none_at 7)

pub returns-clause-total : goal.returns-clause-total
returns-clause-total c = λ n run. c.total_stays_within.ensures 8 none n acts results run (omega (arith, total_none))
