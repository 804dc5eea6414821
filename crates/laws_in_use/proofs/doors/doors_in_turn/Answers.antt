use Rattle.std.proofs.Common.{◌≡◌, Bool, true, false, if◌then◌else◌, Some, None, refl, sym, ap, ◌∙◌}
use Rattle.giop_ids.specs.Runs.{alone, own, told_alone}
use Rattle.giop_ids.proofs.Puts.{get-put}
use Rattle.giop_mux.specs.declared.refusal.Refusal.{Refusal}
use Rattle.giop_mux.specs.declared.refusal.Refusal.TheVariants.{TooManyCalls}
use Rattle.laws_in_use.specs.declared.doors.Stuck.{Stuck}
use Rattle.laws_in_use.specs.Doors.{at_once, both_shut, in_turn, is_of_door, more, more_results, none_open, pushes, results, rules, seven_shut}
use Rattle.laws_in_use.proofs.DoorRuns.{last, none_at, run, same}
use Rattle.laws_in_use.proofs.doors.doors_in_turn.Goals as goal

-- what a limit refuses is no door's own
of_limit : (full : Bool) (why : Refusal Stuck) → (if full then Some TooManyCalls else None) ≡ Some why → is_of_door why ≡ false
of_limit true why is = let same : TooManyCalls ≡ why = cc in ap is_of_door (sym same)
of_limit false why is = absurd cc

pub returns-clause-apart : goal.returns-clause-apart
returns-clause-apart c = λ s id door q. get-put s.entries id door q

pub returns-clause-classes : goal.returns-clause-classes
returns-clause-classes c = record { limits = λ s act why is. of_limit _ why is; memory = refl }

pub returns-clause-run : goal.returns-clause-run
returns-clause-run c = run

pub returns-clause-met_none : goal.returns-clause-met_none
returns-clause-met_none c = (refl, (refl, (refl, tt)))

pub returns-clause-met_one : goal.returns-clause-met_one
returns-clause-met_one c = λ met. let one = met.0 in absurd cc

pub returns-clause-seven : goal.returns-clause-seven
returns-clause-seven c = λ s run.
    c.each_id_of_a_run_alone.ensures.value rules is_of_door (returns-clause-apart c) (returns-clause-classes c) none_open s pushes results 7 run
    (returns-clause-met_none c)
    ∙ ap (λ door. alone rules.turn door (own 7 pushes)) (none_at 7)

pub returns-clause-told : goal.returns-clause-told
returns-clause-told c = λ s answers run met.
    c.each_id_of_a_run_alone.ensures.told rules is_of_door (returns-clause-apart c) (returns-clause-classes c) none_open s pushes answers 7 run met
    ∙ ap (λ door. told_alone rules.turn door (own 7 pushes)) (none_at 7)

pub returns-clause-accepted : goal.returns-clause-accepted
returns-clause-accepted c = λ s run. c.refused_acts_leave_nothing.ensures rules none_open s pushes results run

pub returns-clause-continued : goal.returns-clause-continued
returns-clause-continued c = c.runs_go_on.ensures rules none_open seven_shut both_shut pushes more results more_results run last

pub returns-clause-alone : goal.returns-clause-alone
returns-clause-alone c =
    c.each_id_alone.ensures.value rules (returns-clause-apart c) none_open pushes 7
    ∙ ap (λ door. alone rules.turn door (own 7 pushes)) (none_at 7)

pub returns-clause-told_alone : goal.returns-clause-told_alone
returns-clause-told_alone c =
    c.each_id_alone.ensures.told rules (returns-clause-apart c) none_open pushes 7
    ∙ ap (λ door. told_alone rules.turn door (own 7 pushes)) (none_at 7)

pub returns-clause-same : goal.returns-clause-same
returns-clause-same c = λ id. c.any_interleaving.ensures.value rules (returns-clause-apart c) none_open in_turn at_once same id

pub returns-clause-same_told : goal.returns-clause-same_told
returns-clause-same_told c = λ id. c.any_interleaving.ensures.told rules (returns-clause-apart c) none_open in_turn at_once same id
