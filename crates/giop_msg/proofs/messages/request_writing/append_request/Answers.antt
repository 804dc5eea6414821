use Rattle.std.proofs.Common.{map, sym, ◌∙◌}
use Rattle.giop_types.specs.Values.Views.{value_view}
use Rattle.giop_msg.specs.Messages.Request.{request}
use Rattle.giop_msg.proofs.BackLemmas.{where_ok}
use Rattle.giop_msg.proofs.WholeMessages.HeldLemmas.{request_holds}
use Rattle.giop_msg.proofs.WholeMessages.RequestLemmas.{appends_then, fits_body, fits_head, fits_unknown, parts_written, written_unknown}
use Rattle.giop_msg.proofs.messages.request_writing.append_request.Goals as goal

pub append-requires : goal.append-requires
append-requires c = fits_head c.args.interface.now c.args.q.now.head.version c.args.q.now c.requires

pub returns-in_default-clause-written : goal.returns-in_default-clause-written
returns-in_default-clause-written c =
    let q = c.args.q.now in
    let put = c.in_ok-append.ensures.written in
    (put.0 ∙ sym (written_unknown c.args.interface.now q.head.version q c.args.out.now c.in_default.ensures), put.1)

pub returns-in_default-clause-held : goal.returns-in_default-clause-held
returns-in_default-clause-held c =
    let q = c.args.q.now in
    let unfit = fits_unknown c.args.interface.now q.head.version q c.in_default.ensures in
    absurd (cc (sym unfit ∙ c.requires))

pub append_body-requires : goal.append_body-requires
append_body-requires c =
    let q = c.args.q.now in
    let fit = fits_body c.args.interface.now q.head.version q c.in-Some.operation.now c.in-Some.ensures c.requires in
    rw (c.as_slice.ensures.same, c.as_slice-2.ensures) fit

pub returns-clause-written : goal.returns-clause-written
returns-clause-written c =
    let q = c.args.q.now in
    let put = c.in_ok-append.ensures.written in
    appends_then c.append_body.result c.args.out.now c.append.new.out c.append_body.new.out _ _ put.1 c.append_body.ensures
    (parts_written c.args.interface.now q.head.version q c.in-Some.operation.now c.args.out.now c.append.new.out
    c.as_slice.result.now (map value_view c.as_slice-2.result.now) c.in-Some.ensures c.as_slice.ensures.same c.as_slice-2.ensures put.0)

pub returns-clause-held : goal.returns-clause-held
returns-clause-held c =
    let q = c.args.q.now in
    where_ok c.append_body.result ((request c.args.interface.now q.head.version).holds q)
    (request_holds c.args.interface.now q.head.version q c.in-Some.operation.now c.in-Some.ensures
    c.in_ok-append.ensures.held)
