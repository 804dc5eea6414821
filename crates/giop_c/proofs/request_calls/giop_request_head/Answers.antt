-- `giop_request_head`: the head that is viewed is the one that the octets begin with, and what is
-- copied is its operation and its key.
use Rattle.std.proofs.Common.{◌≡◌, ℕ, List, refl, sym, subst, ◌∙◌}
use Rattle.std.specs.Prelude.{Result, Ok}
use Rattle.giop_cdr.specs.declared.fault.CdrFault.{CdrFault}
use Rattle.giop_cdr.specs.declared.order.Order.{Order}
use Rattle.giop_msg.specs.declared.version.Version.{Version}
use Rattle.giop_msg.specs.Joined.{body_place, head_of_joined}
use Rattle.giop_msg.specs.RequestHead.{Head, request_head}
use Rattle.giop_msg.specs.Target.{key_of}
use Rattle.giop_c.specs.Heads.{Copied, Reads, c_order, c_version}
use Rattle.giop_c.proofs.request_calls.giop_request_head.Goals as goal

-- the head at the front of joined octets
abbrev head_at : Version → Order → List ℕ → Result (Head × ℕ) CdrFault
head_at version = head_of_joined (request_head version) (body_place version)

pub returns-in-Ok : goal.returns-in-Ok
returns-in-Ok c =
    let m = c.args.message.now in
    let head = c.in-Ok.head in
    let viewed : Result (Head × ℕ) CdrFault = Ok (head, c.in-Ok.body) in
    let begins : head_at (c_version m) (c_order m) c.args.payload.now ≡ viewed =
    subst (λ version. head_at version (c_order m) c.args.payload.now ≡ viewed) c.version_of.ensures
    (subst (λ order. head_at c.version_of.result order c.args.payload.now ≡ viewed) c.order_of.ensures
    (subst (λ octets. head_at c.version_of.result c.order_of.result octets ≡ viewed) c.new-joined.ensures
    (sym c.view.ensures.exact ∙ c.in-Ok.is))) in
    let copies : List ℕ → List ℕ → Type 0 = λ operation key. Copied operation key c.args.operation.now
    c.copy_both.new.operation c.args.key.now c.copy_both.new.key c.copy_both.result in
    let copied : copies head.operation (key_of head.target) =
    subst (λ operation. copies operation (key_of head.target)) c.as_slice.ensures
    (subst (λ key. copies c.as_slice.result.now key) c.key_of.ensures c.copy_both.ensures) in
    subst (λ r. Reads r c.args.request.now c.written.result c.args.operation.now c.copy_both.new.operation
    c.args.key.now c.copy_both.new.key c.args.fault.now c.args.fault.now c.copy_both.result) (sym begins)
    (c.written.ensures, refl, copied)
