use Rattle.std.proofs.Common.{inl, inr, refl, sym, ap, ◌∙◌}
use Rattle.giop_msg.specs.RequestHead.{request_head}
use Rattle.giop_msg.proofs.WholeMessages.RequestLemmas.{unknown_answer, body_told, body_refused}
use Rattle.giop_msg.proofs.messages.request.read_request.Goals as goal

pub returns-in_default : goal.returns-in_default
returns-in_default g c =
    inl (unknown_answer c.args.interface.now c.args.version c.args.order (g.S.Octets.octets c.args.octets.now) c.in-Ok.head c.in-Ok.head
    c.read_head.new.input (ap (request_head c.args.version).read (sym c.new-input.ensures) ∙ (rw c.in-Ok.is at c.read_head.ensures)) refl
    c.in_default.ensures)

pub returns-in-Ok-read_body : goal.returns-in-Ok-read_body
returns-in-Ok-read_body g c =
    body_told c.args.interface.now c.args.version c.args.order (g.S.Octets.octets c.args.octets.now) c.in-Ok.head c.in-Ok.head
    c.read_head.new.input c.in-Some.operation.now c.as_slice.result.now c.in-Ok-read_body.body
    (ap (request_head c.args.version).read (sym c.new-input.ensures) ∙ (rw c.in-Ok.is at c.read_head.ensures)) refl
    c.in-Some.ensures c.as_slice.ensures.same c.in-Ok-read_body.ensures

pub returns-in-Err-read_body : goal.returns-in-Err-read_body
returns-in-Err-read_body g c =
    elim c.in-Err-read_body.ensures [
      | inl refused ↦ inl (body_refused c.args.interface.now c.args.version c.args.order (g.S.Octets.octets c.args.octets.now) c.in-Ok.head
          c.in-Ok.head c.read_head.new.input c.in-Some.operation.now c.as_slice.result.now c.in-Err-read_body.fault
          (ap (request_head c.args.version).read (sym c.new-input.ensures) ∙ (rw c.in-Ok.is at c.read_head.ensures)) refl
          c.in-Some.ensures c.as_slice.ensures.same refused)
      | inr want ↦ inr want
    ]
