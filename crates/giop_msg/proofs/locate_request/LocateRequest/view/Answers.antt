use Rattle.std.proofs.Common.{sym, ap, ◌∙◌, arith}
use Rattle.std.proofs.lemmas.Result.{err_from_is_err_and}
use Rattle.giop_msg.specs.Locate.{locate_request}
use Rattle.giop_msg.proofs.JoinedLemmas.{whole_found, whole_trails, whole_refused, whole_is, whole_only}
use Rattle.giop_msg.proofs.LocateLemmas.{locate_request_is}
use Rattle.giop_msg.proofs.locate_request.LocateRequest.view.Goals as goal

pub returns-in_err-request-clause-exact : goal.returns-in_err-request-clause-exact
returns-in_err-request-clause-exact g c =
    let p = err_from_is_err_and c.from_residual.result c.from_residual.ensures.1 in
    rw (p.1, p.2) (sym (whole_refused (locate_request c.args.version) c.args.order (g.S.Octets.octets c.args.octets.now) c.in_err-request.field-0.0
    (ap (locate_request c.args.version).read (sym c.new-input.ensures) ∙ c.in_err-request.ensures)))

pub returns-in_err-request-clause-only : goal.returns-in_err-request-clause-only
returns-in_err-request-clause-only g c = λ request is.
    returns-in_err-request-clause-exact g c ∙ whole_only (locate_request_is c.args.version) c.args.order (g.S.Octets.octets c.args.octets.now) request is

pub returns-then-remaining-gt0-clause-exact : goal.returns-then-remaining-gt0-clause-exact
returns-then-remaining-gt0-clause-exact g c =
    rw c.position.ensures (sym (whole_trails (locate_request c.args.version) c.args.order (g.S.Octets.octets c.args.octets.now) c.in_ok-request.request
    c.view_request.new.input (ap (locate_request c.args.version).read (sym c.new-input.ensures) ∙ c.in_ok-request.ensures)
    (omega (arith, c.remaining.ensures, c.if-remaining-gt0.true))))

pub returns-then-remaining-gt0-clause-only : goal.returns-then-remaining-gt0-clause-only
returns-then-remaining-gt0-clause-only g c = λ request is.
    returns-then-remaining-gt0-clause-exact g c
    ∙ whole_only (locate_request_is c.args.version) c.args.order (g.S.Octets.octets c.args.octets.now) request is

pub returns-clause-exact : goal.returns-clause-exact
returns-clause-exact g c =
    sym (whole_found (locate_request c.args.version) c.args.order (g.S.Octets.octets c.args.octets.now) c.in_ok-request.request c.view_request.new.input
    (ap (locate_request c.args.version).read (sym c.new-input.ensures) ∙ c.in_ok-request.ensures)
    (omega (arith, c.remaining.ensures, c.if-remaining-gt0.false)))

pub returns-clause-found : goal.returns-clause-found
returns-clause-found g c =
    whole_is (locate_request_is c.args.version) c.args.order (g.S.Octets.octets c.args.octets.now) c.in_ok-request.request (sym (returns-clause-exact g c))

pub returns-clause-only : goal.returns-clause-only
returns-clause-only g c = λ request is.
    returns-clause-exact g c ∙ whole_only (locate_request_is c.args.version) c.args.order (g.S.Octets.octets c.args.octets.now) request is
