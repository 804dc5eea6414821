use Rattle.std.proofs.Common.{◌≡◌, ◌&&◌, true, false, map, sym, ap, ◌∙◌}
use Rattle.giop_types.specs.Values.Fits.{fields_fit}
use Rattle.giop_types.specs.Values.Views.{value_view}
use Rattle.giop_msg.specs.Messages.Body.{fields_in}
use Rattle.giop_msg.specs.RequestHead.{request_head}
use Rattle.giop_msg.proofs.WholeMessages.RequestLemmas.{fits_known, fits_unknown}
use Rattle.giop_msg.proofs.messages.request.Request.is_writable.Goals as goal

pub returns-in_default : goal.returns-in_default
returns-in_default c =
    sym (fits_unknown c.args.interface.now c.args.self.now.head.version c.args.self.now c.in_default.ensures)

pub returns-then-is_writable : goal.returns-then-is_writable
returns-then-is_writable c =
    let q = c.args.self.now in
    let known = fits_known c.args.interface.now q.head.version q c.in-Some.operation.now c.in-Some.ensures in
    let head : (request_head q.head.version).fits q.head ≡ true = sym c.is_writable.ensures ∙ c.if-is_writable.true in
    let body : c.are_fitting.result ≡ fields_fit (fields_in c.in-Some.operation.now.ins.list.items) q.body
    = c.are_fitting.ensures ∙ ap (λ ps. fields_fit (fields_in ps) (map value_view c.as_slice-then-is_writable.result.now)) c.as_slice.ensures.same
    ∙ ap (fields_fit (fields_in c.in-Some.operation.now.ins.list.items)) c.as_slice-then-is_writable.ensures in
    body ∙ sym (known ∙ ap (λ b. b && fields_fit (fields_in c.in-Some.operation.now.ins.list.items) q.body) head)

pub returns-else-is_writable : goal.returns-else-is_writable
returns-else-is_writable c =
    let q = c.args.self.now in
    let known = fits_known c.args.interface.now q.head.version q c.in-Some.operation.now c.in-Some.ensures in
    let head : (request_head q.head.version).fits q.head ≡ false = sym c.is_writable.ensures ∙ c.if-is_writable.false in
    c.if-is_writable.false ∙
    sym (known ∙ ap (λ b. b && fields_fit (fields_in c.in-Some.operation.now.ins.list.items) q.body) head)
