use Rattle.std.proofs.Common.{ap, sym, subst, ◌∙◌, ◌==◌, if◌then◌else◌, ◌∷◌, []}
use Rattle.giop_ids.proofs.Puts.{eq_apart}
use Rattle.giop_msg.specs.declared.version.Version.TheVariants.{V10, V12}
use Rattle.giop_calls.specs.declared.client.call.Call.TheVariants as asked
use Rattle.giop_calls.specs.declared.client.entry.ClientEntry.TheVariants.{Waiting}
use Rattle.giop_calls.specs.ClientTable.{settles}
use Rattle.giop_session.specs.declared.laws.inputs.Answered.TheVariants as answer
use Rattle.giop_session.specs.Items.Carries.{behind_all}
use Rattle.giop_session.specs.Items.ClientCarries.{client_telling, unknown}
use Rattle.giop_session.specs.Runs.RunLimits.{ClientIsGivenWithin}
use Rattle.laws_in_use.specs.Asking.{told_of_seven}
use Rattle.laws_in_use.specs.Locating.{key, limits}
use Rattle.laws_in_use.specs.Runs.{client_told, told_and_taken}
use Rattle.laws_in_use.proofs.AskingMessages.{decoded}
use Rattle.laws_in_use.proofs.Closings.{client_closes_by}
use Rattle.laws_in_use.proofs.PutOutKinds.{client_puts_none}
use Rattle.laws_in_use.proofs.ClientRunFits.{given_fits}
use Rattle.laws_in_use.proofs.ClientRunHolds.{holds_of_run}
use Rattle.laws_in_use.proofs.ClientRunWithin.{run_within}
use Rattle.laws_in_use.proofs.runs.a_run_of_a_client.Goals as goal

pub returns-clause-holds : goal.returns-clause-holds
returns-clause-holds c = λ forms given none sound.
    holds_of_run c.args.interface.now (c.locate_replies_are_spelled.ensures V10) (c.locate_replies_are_spelled.ensures V12)
    forms c.args.inputs.items _ _ _ given (c.in_ok-run_client.ensures.apart.taken none sound)

pub returns-clause-seven : goal.returns-clause-seven
returns-clause-seven c = λ forms given none sound.
    c.in_ok-run_client.ensures.apart.table client_told (returns-clause-holds c forms given none sound) 7

pub returns-clause-nine : goal.returns-clause-nine
returns-clause-nine c = λ forms given none sound.
    c.in_ok-run_client.ensures.apart.table client_told (returns-clause-holds c forms given none sound) 9

pub returns-clause-told : goal.returns-clause-told
returns-clause-told c = λ forms given none sound.
    c.in_ok-run_client.ensures.apart.returned client_told (returns-clause-holds c forms given none sound) 9
    ∙ ap (λ told. answer.Done ∷ answer.Done ∷ answer.Done
    ∷ answer.Taken (settles (Waiting (asked.Locate key)) (asked.Locate key) told).entry ∷ []) (decoded c.args.interface.now).short

pub returns-clause-others : goal.returns-clause-others
returns-clause-others c = λ forms given none sound id seven nine.
    c.in_ok-run_client.ensures.apart.table client_told (returns-clause-holds c forms given none sound) id
    ∙ ap (λ items. (behind_all (client_telling c.args.interface.now) unknown items).entry)
    (ap (λ b. if b then told_of_seven else if id == 9 then told_and_taken else []) (eq_apart id 7 seven)
    ∙ ap (λ b. if b then told_and_taken else []) (eq_apart id 9 nine))

pub returns-clause-accepted : goal.returns-clause-accepted
returns-clause-accepted c = λ forms given.
    let fits = given_fits c.args.interface.now forms (c.locate_replies_are_spelled.ensures V10) (c.locate_replies_are_spelled.ensures V12)
    c.args.inputs.items given in
    c.in_ok-run_client.ensures.apart.fits fits.0

pub returns-clause-comes : goal.returns-clause-comes
returns-clause-comes c = λ forms given.
    let fits = given_fits c.args.interface.now forms (c.locate_replies_are_spelled.ensures V10) (c.locate_replies_are_spelled.ensures V12)
    c.args.inputs.items given in
    (c.in_ok-run_client.ensures.apart.said fits.0 client_told fits.1 7).entry

pub returns-clause-alone : goal.returns-clause-alone
returns-clause-alone c = λ forms given.
    let fits = given_fits c.args.interface.now forms (c.locate_replies_are_spelled.ensures V10) (c.locate_replies_are_spelled.ensures V12)
    c.args.inputs.items given in
    (fits.0, c.in_ok-run_client.ensures.apart.alone fits.0 9)

pub returns-clause-free : goal.returns-clause-free
returns-clause-free c = λ forms given.
    c.in_ok-run_client.ensures.apart.free (subst (λ inputs. ClientIsGivenWithin limits inputs) (sym given) (run_within forms))

pub returns-clause-same : goal.returns-clause-same
returns-clause-same c = c.in_ok-run_client.ensures.same.1

pub returns-clause-closed : goal.returns-clause-closed
returns-clause-closed c = λ given.
    client_closes_by c.args.interface.now limits c.args.inputs.items _ _ c.in_ok-run_client.ensures.value given

pub returns-clause-put_out : goal.returns-clause-put_out
returns-clause-put_out c = λ octets. client_puts_none _ octets c.in_ok-run_client.ensures.put_out
