use Rattle.std.proofs.Common.{Err, inl, inr, refl, ap, subst, ◌∙◌, rules}
use Rattle.giop_msg.specs.Messages.Reply.{exception_of, listed}
use Rattle.giop_c.specs.Acts.{IsReadAs, values_in}
use Rattle.giop_c.proofs.server.served.Served.answer_user.Goals as goal

pub returns-in-Err : goal.returns-in-Err
returns-in-Err c =
    let exception = c.args.exception.now in
    let read = subst (λ ps. IsReadAs (values_in ps c.args.value_form c.args.octets.now) (Err c.in-Err.why))
    (c.members_of-parameters.ensures ∙ ap (λ interface. listed (exception_of interface exception)) c.deref.ensures) c.in-Err.ensures.read in
    inr (search rules, inl (c.in-Err.why, refl, refl, read))
