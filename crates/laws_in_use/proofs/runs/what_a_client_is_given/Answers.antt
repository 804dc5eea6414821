use Rattle.std.proofs.Common.{◌∙◌, None, ap, sym}
use Rattle.giop_ids.specs.Runs.{alone}
use Rattle.giop_calls.specs.ClientItems.{client_turn}
use Rattle.giop_calls.specs.ClientStanding.{standing}
use Rattle.giop_msg.specs.declared.version.Version.TheVariants.{V10, V12}
use Rattle.laws_in_use.specs.Asking.{own_acts}
use Rattle.laws_in_use.specs.Locating.{limits}
use Rattle.laws_in_use.specs.Runs.{client_answers, client_given, client_told}
use Rattle.laws_in_use.proofs.AskingHolds.{own_told}
use Rattle.laws_in_use.proofs.ClientRunActs.{run_acts}
use Rattle.laws_in_use.proofs.ClientRunFits.{run_fits}
use Rattle.laws_in_use.proofs.ClientRunHolds.{asking_told, run_holds}
use Rattle.laws_in_use.proofs.ClientRunTaken.{run_taken}
use Rattle.laws_in_use.proofs.ClientRunWithin as within
use Rattle.laws_in_use.proofs.runs.what_a_client_is_given.Goals as goal

pub returns-clause-forms : goal.returns-clause-forms
returns-clause-forms c = within.forms

pub returns-clause-holds : goal.returns-clause-holds
returns-clause-holds c = λ interface forms. (
  _,
  _,
  record {
    acts = run_acts own_acts;
    taken = run_taken interface forms;
    holds =
        run_holds interface (c.locate_replies_are_spelled.ensures V10) (c.locate_replies_are_spelled.ensures V12) own_acts own_told;
  },
)

pub returns-clause-stands : goal.returns-clause-stands
unfolding returns-clause-holds
returns-clause-stands c = λ interface forms.
    let held = returns-clause-holds c interface forms in
    let stands = c.entries_stand_at_client.ensures interface limits (client_given forms) client_answers held.0 held.1 client_told held.2 7 in
    let told = asking_told interface (c.locate_replies_are_spelled.ensures V10) (c.locate_replies_are_spelled.ensures V12) in (
      held.0,
      held.1,
      held.2,
      told,
      stands.as_said,
      ap (alone client_turn None) (sym told) ∙ sym stands.by_steps ∙ stands.as_said,
      ap standing (sym told) ∙ sym stands.by_latest ∙ stands.as_said,
    )

pub returns-clause-taken : goal.returns-clause-taken
returns-clause-taken c = λ interface forms. (run_acts own_acts, _, _, run_taken interface forms)

pub returns-clause-held : goal.returns-clause-held
returns-clause-held c = λ interface forms.
    let held = c.what_is_taken_is_held_at_client.ensures interface limits (client_given forms) client_answers (run_acts own_acts) _ _
    (run_taken interface forms) in
    (_, _, held.0, held.1)

pub returns-clause-none : goal.returns-clause-none
returns-clause-none c = tt

pub returns-clause-within : goal.returns-clause-within
returns-clause-within c = λ forms. within.run_within forms

pub returns-clause-says : goal.returns-clause-says
returns-clause-says c = λ interface forms.
    run_fits interface forms (c.locate_replies_are_spelled.ensures V10) (c.locate_replies_are_spelled.ensures V12)

pub returns-clause-fits : goal.returns-clause-fits
returns-clause-fits c = λ interface forms. (returns-clause-says c interface forms).0
