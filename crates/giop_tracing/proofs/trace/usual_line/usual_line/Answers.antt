use Rattle.std.proofs.Common.{◌≡◌, false, Ok, IfOk, IfSome, string_bytes, refl, sym, subst}
use Rattle.giop_msg.specs.declared.kind.Kind.TheVariants as kind
use Rattle.giop_msg.specs.Messages.RequestAnswer.{request_of_joined}
use Rattle.giop_show.specs.Forms.{ended}
use Rattle.giop_tracing.proofs.TracedLemmas.{usual_call}
use Rattle.giop_tracing.proofs.trace.usual_line.usual_line.Goals as goal

pub returns-in-Ok : goal.returns-in-Ok
returns-in-Ok c =
    let one = c.in-Some-Some.asked in
    let other = c.in-Some-Some.answer in
    let exact = rw c.in-Ok.is at c.decode.ensures.exact in
    let decoded : request_of_joined c.args.interface.now one.version one.order one.payload ≡ Ok c.in-Ok.request =
    rw (c.new-joined.ensures, c.as_slice.ensures) at exact in
    let requested : one.kind ≡ kind.Request = c.if-not-is_whole.ensures.kind refl in
    let whole : one.more ≡ false = c.if-not-is_whole.ensures.whole refl in
    let replied : other.kind ≡ kind.Reply = c.if-not-is_whole-2.ensures.kind refl in
    let last : other.more ≡ false = c.if-not-is_whole-2.ensures.whole refl in
    λ unanswered. subst (λ text. IfOk c.line_of_reply.result (λ made. IfSome made (λ line. string_bytes line ≡ ended text)))
    (sym (usual_call c.args.numbers c.args.interface.now c.args.id c.args.flow.now unanswered one other c.in-Ok.request
    c.in-Some-Some.is-0 c.in-Some-Some.is-1 requested whole replied last decoded))
    (c.line_of_reply.ensures c.args.flow.now unanswered c.in-Some-Some.is-1)
