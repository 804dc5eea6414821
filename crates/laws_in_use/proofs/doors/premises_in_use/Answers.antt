use Rattle.std.proofs.Common.{[], ◌∷◌, refl, inl}
use Rattle.giop_mux.specs.declared.refusal.Refusal.TheVariants.{NoMemory}
use Rattle.laws_in_use.specs.Doors.{is_of_door, more, more_results, pushes, stuck}
use Rattle.laws_in_use.proofs.doors.premises_in_use.Goals as goal

pub returns-clause-refused : goal.returns-clause-refused
returns-clause-refused c = inl refl

pub returns-clause-found : goal.returns-clause-found
returns-clause-found c = λ why refused. c.memory_is_told_last.ensures.found NoMemory why stuck refused

pub returns-clause-memory : goal.returns-clause-memory
returns-clause-memory c = λ why refused. c.memory_is_told_last.ensures.none NoMemory why refused

pub returns-clause-met : goal.returns-clause-met
returns-clause-met c = c.premises_are_met.ensures.accepted is_of_door 9 more more_results (refl, tt)

pub returns-clause-none : goal.returns-clause-none
returns-clause-none c = c.premises_are_met.ensures.empty (7 ∷ [])

pub returns-clause-listed : goal.returns-clause-listed
returns-clause-listed c = c.premises_are_met.ensures.listed pushes
