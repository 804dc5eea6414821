use Rattle.std.proofs.Common.{refl, ap, ◌∙◌}
use Rattle.giop_ids.specs.Runs.{alone, own, told_alone}
use Rattle.giop_mux.specs.Runs.{turn}
use Rattle.laws_in_use.specs.Doors.{doors, is_closed, step_of, take_results, takes}
use Rattle.laws_in_use.proofs.DoorRuns.{none_at, take_run}
use Rattle.laws_in_use.proofs.tables.doors_are_taken_out.Goals as goal

pub returns-clause-run : goal.returns-clause-run
returns-clause-run c = take_run

pub returns-clause-met_none : goal.returns-clause-met_none
returns-clause-met_none c = (refl, (refl, (refl, (refl, tt))))

pub returns-clause-met_one : goal.returns-clause-met_one
returns-clause-met_one c = λ met. let one = met.0 in absurd cc

pub returns-clause-seven : goal.returns-clause-seven
returns-clause-seven c = λ n run.
    c.each_call_alone.ensures.value 2 doors n takes take_results 7 run (returns-clause-met_none c)
    ∙ ap (λ door. alone (turn step_of is_closed) door (own 7 takes)) (none_at 7)

pub returns-clause-told : goal.returns-clause-told
returns-clause-told c = λ n answers run met.
    c.each_call_alone.ensures.told 2 doors n takes answers 7 run met
    ∙ ap (λ door. told_alone (turn step_of is_closed) door (own 7 takes)) (none_at 7)
