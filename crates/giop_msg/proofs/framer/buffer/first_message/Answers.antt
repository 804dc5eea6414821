use Rattle.std.proofs.Common.{refl, inr, ◌∙◌, arith}
use Rattle.std.proofs.lemmas.Result.{err_from_is_err_and}
use Rattle.giop_msg.proofs.FramerLemmas.{begins_with_header, BeginsWithHeader, waits_for_header, waits_for_payload, message_at_front}
use Rattle.giop_msg.proofs.framer.buffer.first_message.Goals as goal

pub returns-in_default-clause-waits : goal.returns-in_default-clause-waits
returns-in_default-clause-waits c = waits_for_header c.args.limit c.args.octets.now c.in_default.ensures.cases

pub returns-in_default-get-clause-waits : goal.returns-in_default-get-clause-waits
returns-in_default-get-clause-waits c =
    let begins : BeginsWithHeader c.args.limit c.args.octets.now c.in_ok-header.header =
    begins_with_header _ _ _ _ c.in-Some.ensures.cases.same c.in_ok-header.ensures.ok.0 c.in_ok-header.ensures.ok.1 in
    waits_for_payload _ _ _ begins (omega (arith, c.in_default-get.ensures.lookup))

pub returns-in_err-copied-clause-err : goal.returns-in_err-copied-clause-err
returns-in_err-copied-clause-err c =
    let begins : BeginsWithHeader c.args.limit c.args.octets.now c.in_ok-header.header =
    begins_with_header _ _ _ _ c.in-Some.ensures.cases.same c.in_ok-header.ensures.ok.0 c.in_ok-header.ensures.ok.1 in
    let part = c.in-Some-get.ensures.lookup.0 in
    let m = message_at_front _ _ _ c.in-Some-get.payload.now (λ i. (c.type_inv.octets i).fits) begins c.ranges.limit.fits part.1 part.2 in
    let p = err_from_is_err_and c.from_residual-in_err-copied.result c.from_residual-in_err-copied.ensures.1 in
    rw (p.1, p.2) (inr (refl, (_, _, m.0, m.1)))

pub returns-clause-found : goal.returns-clause-found
returns-clause-found c =
    let begins : BeginsWithHeader c.args.limit c.args.octets.now c.in_ok-header.header =
    begins_with_header _ _ _ _ c.in-Some.ensures.cases.same c.in_ok-header.ensures.ok.0 c.in_ok-header.ensures.ok.1 in
    let part = c.in-Some-get.ensures.lookup.0 in
    message_at_front _ _ _ c.from.result (λ i. (c.type_inv.octets i).fits) begins c.ranges.limit.fits part.1 (c.from.ensures ∙ c.in_ok-copied.ensures ∙ part.2)
