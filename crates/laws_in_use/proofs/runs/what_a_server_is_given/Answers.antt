use Rattle.std.proofs.Common.{◌∙◌, [], ◌∷◌, None, ap, refl, sym}
use Rattle.giop_cdr.specs.declared.order.Order.TheVariants.{Big}
use Rattle.giop_msg.specs.declared.version.Version.TheVariants.{V10, V12}
use Rattle.giop_ids.specs.Runs.{alone}
use Rattle.giop_calls.specs.ServerItems.{server_turn}
use Rattle.giop_calls.specs.ServerStanding.{standing}
use Rattle.laws_in_use.specs.Locating.{answering, door, door_begins, door_ends, here_big, limits}
use Rattle.laws_in_use.specs.Runs.{server_answers, server_given, server_said}
use Rattle.laws_in_use.proofs.LocatingSpelled.{door_cut}
use Rattle.laws_in_use.proofs.ServerRunActs.{run_acts}
use Rattle.laws_in_use.proofs.ServerRunFits.{otherwise_fits, run_fits}
use Rattle.laws_in_use.proofs.ServerRunHolds.{door_told, run_holds}
use Rattle.laws_in_use.proofs.ServerRunTaken.{run_taken}
use Rattle.laws_in_use.proofs.ServerRunWithin.{run_within}
use Rattle.laws_in_use.proofs.runs.what_a_server_is_given.Goals as goal

pub returns-clause-holds : goal.returns-clause-holds
returns-clause-holds c = λ interface. (
  _,
  _,
  record {
    acts = run_acts (answering here_big);
    taken = run_taken interface;
    holds =
        run_holds interface (c.locate_requests_are_spelled.ensures V10) (c.locate_requests_are_spelled.ensures V12)
        (c.what_is_cut_is_carried.ensures.locate interface V12 Big door 24 (door_begins ∷ door_ends ∷ []) None door_cut) (answering here_big) refl;
  },
)

pub returns-clause-stands : goal.returns-clause-stands
unfolding returns-clause-holds
returns-clause-stands c = λ interface.
    let held = returns-clause-holds c interface in
    let stands = c.entries_stand_at_server.ensures interface limits server_given server_answers held.0 held.1 server_said held.2 7 in
    let told = door_told interface (c.locate_requests_are_spelled.ensures V10) (c.locate_requests_are_spelled.ensures V12)
    (c.what_is_cut_is_carried.ensures.locate interface V12 Big door 24 (door_begins ∷ door_ends ∷ []) None door_cut) in (
      held.0,
      held.1,
      held.2,
      told,
      stands.as_said,
      ap (alone server_turn None) (sym told) ∙ sym stands.by_steps ∙ stands.as_said,
      ap standing (sym told) ∙ sym stands.by_latest ∙ stands.as_said,
    )

pub returns-clause-taken : goal.returns-clause-taken
returns-clause-taken c = λ interface. (run_acts (answering here_big), _, _, run_taken interface)

pub returns-clause-held : goal.returns-clause-held
returns-clause-held c = λ interface.
    let held = c.what_is_taken_is_held_at_server.ensures interface limits server_given server_answers (run_acts (answering here_big)) _ _
    (run_taken interface) in
    (_, _, held.0, held.1)

pub returns-clause-none : goal.returns-clause-none
returns-clause-none c = tt

pub returns-clause-within : goal.returns-clause-within
returns-clause-within c = run_within

pub returns-clause-says : goal.returns-clause-says
returns-clause-says c = λ interface.
    run_fits interface (c.locate_requests_are_spelled.ensures V10) (c.locate_requests_are_spelled.ensures V12)
    (c.what_is_cut_is_carried.ensures.locate interface V12 Big door 24 (door_begins ∷ door_ends ∷ []) None door_cut)

pub returns-clause-fits : goal.returns-clause-fits
returns-clause-fits c = λ interface. (returns-clause-says c interface).0

pub returns-clause-otherwise : goal.returns-clause-otherwise
returns-clause-otherwise c = λ interface.
    otherwise_fits interface (c.locate_requests_are_spelled.ensures V10) (c.locate_requests_are_spelled.ensures V12)
    (c.what_is_cut_is_carried.ensures.locate interface V12 Big door 24 (door_begins ∷ door_ends ∷ []) None door_cut)
