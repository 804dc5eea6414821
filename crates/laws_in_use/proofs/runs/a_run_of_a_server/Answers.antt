use Rattle.std.proofs.Common.{ap, sym, subst, ◌∙◌, ◌==◌, if◌then◌else◌, Some, None, [], ◌∷◌, inr}
use Rattle.giop_ids.proofs.Puts.{eq_apart}
use Rattle.giop_cdr.specs.declared.order.Order.TheVariants.{Big}
use Rattle.giop_msg.specs.declared.version.Version.TheVariants.{V10, V12}
use Rattle.giop_calls.specs.ServerTable.{arrived}
use Rattle.giop_session.specs.Items.Carries.{behind_all}
use Rattle.giop_session.specs.Runs.RunLimits.{ServerIsGivenWithin}
use Rattle.giop_session.specs.Items.ServerCarries.{server_telling}
use Rattle.laws_in_use.specs.Locating.{door, door_begins, door_ends, limits, said_of_nine}
use Rattle.laws_in_use.specs.Runs.{said_and_taken, server_said}
use Rattle.laws_in_use.proofs.Closings.{server_closes_by}
use Rattle.laws_in_use.proofs.LocatingMessages.{decoded}
use Rattle.laws_in_use.proofs.LocatingSpelled.{door_cut}
use Rattle.laws_in_use.proofs.PutOutKinds.{server_puts_none}
use Rattle.laws_in_use.proofs.ServerRunFits.{either_fits}
use Rattle.laws_in_use.proofs.ServerRunHolds.{holds_of_run}
use Rattle.laws_in_use.proofs.ServerRunWithin.{run_within}
use Rattle.laws_in_use.proofs.runs.a_run_of_a_server.Goals as goal

pub returns-clause-holds : goal.returns-clause-holds
returns-clause-holds c = λ given none sound.
    holds_of_run c.args.interface.now (c.locate_requests_are_spelled.ensures V10) (c.locate_requests_are_spelled.ensures V12)
    (c.what_is_cut_is_carried.ensures.locate c.args.interface.now V12 Big door 24 (door_begins ∷ door_ends ∷ []) None door_cut)
    c.args.inputs.items _ _ _ given (c.in_ok-run_server.ensures.apart.taken none sound)

pub returns-clause-seven : goal.returns-clause-seven
returns-clause-seven c = λ given none sound.
    c.in_ok-run_server.ensures.apart.table server_said (returns-clause-holds c given none sound) 7

pub returns-clause-told : goal.returns-clause-told
returns-clause-told c = λ given none sound.
    c.in_ok-run_server.ensures.apart.returned server_said (returns-clause-holds c given none sound) 7

pub returns-clause-nine : goal.returns-clause-nine
returns-clause-nine c = λ given none sound.
    c.in_ok-run_server.ensures.apart.table server_said (returns-clause-holds c given none sound) 9
    ∙ ap (λ call. Some (arrived call)) (decoded c.args.interface.now).bad

pub returns-clause-others : goal.returns-clause-others
returns-clause-others c = λ given none sound id seven nine.
    c.in_ok-run_server.ensures.apart.table server_said (returns-clause-holds c given none sound) id
    ∙ ap (λ items. behind_all (server_telling c.args.interface.now) None items)
    (ap (λ b. if b then said_and_taken else if id == 9 then said_of_nine else []) (eq_apart id 7 seven)
    ∙ ap (λ b. if b then said_of_nine else []) (eq_apart id 9 nine))

pub returns-clause-accepted : goal.returns-clause-accepted
returns-clause-accepted c = λ given.
    let fits = either_fits c.args.interface.now (c.locate_requests_are_spelled.ensures V10) (c.locate_requests_are_spelled.ensures V12)
    (c.what_is_cut_is_carried.ensures.locate c.args.interface.now V12 Big door 24 (door_begins ∷ door_ends ∷ []) None door_cut)
    c.args.inputs.items given in
    c.in_ok-run_server.ensures.apart.fits fits.0

pub returns-clause-either : goal.returns-clause-either
returns-clause-either c = λ given.
    let fits = either_fits c.args.interface.now (c.locate_requests_are_spelled.ensures V10) (c.locate_requests_are_spelled.ensures V12)
    (c.what_is_cut_is_carried.ensures.locate c.args.interface.now V12 Big door 24 (door_begins ∷ door_ends ∷ []) None door_cut)
    c.args.inputs.items given in
    let said = c.in_ok-run_server.ensures.apart.said fits.0 server_said fits.1 7 in
    (said.entry, said.returned)

pub returns-clause-alone : goal.returns-clause-alone
returns-clause-alone c = λ given.
    let fits = either_fits c.args.interface.now (c.locate_requests_are_spelled.ensures V10) (c.locate_requests_are_spelled.ensures V12)
    (c.what_is_cut_is_carried.ensures.locate c.args.interface.now V12 Big door 24 (door_begins ∷ door_ends ∷ []) None door_cut)
    c.args.inputs.items (inr given) in
    (fits.0, c.in_ok-run_server.ensures.apart.alone fits.0 9)

pub returns-clause-free : goal.returns-clause-free
returns-clause-free c = λ given.
    c.in_ok-run_server.ensures.apart.free (subst (λ inputs. ServerIsGivenWithin limits inputs) (sym given) run_within)

pub returns-clause-same : goal.returns-clause-same
returns-clause-same c = c.in_ok-run_server.ensures.same.1

pub returns-clause-closed : goal.returns-clause-closed
returns-clause-closed c = λ given.
    server_closes_by c.args.interface.now limits c.args.inputs.items _ _ c.in_ok-run_server.ensures.value given

pub returns-clause-put_out : goal.returns-clause-put_out
returns-clause-put_out c = λ octets. server_puts_none _ octets c.in_ok-run_server.ensures.put_out
