use Rattle.std.proofs.Common.{◌≡◌, [], true, None, refl, inl, rules, arith}
use Rattle.giop_cdr.specs.Ending.{ended, from_multiple_of_8, leads, made_of}
use Rattle.giop_cdr.specs.Layout.{chosen, field, gives, number, octets, sequence, such, tagged, text}
use Rattle.giop_cdr.specs.declared.order.Order.TheVariants.{Big}
use Rattle.giop_types.specs.declared.interfaces.interface.Interface.{Interface}
use Rattle.giop_ior.specs.ServiceContext.{service_context, service_contexts}
use Rattle.giop_msg.specs.Messages.Body.{body_of}
use Rattle.giop_msg.specs.Messages.Reply.{allowed, completion, reply, reply_body, system_exception}
use Rattle.giop_msg.specs.Messages.Request.{request}
use Rattle.giop_msg.specs.ReplyHead.{reply_head, reply_head_1_2, reply_status}
use Rattle.giop_msg.specs.RequestHead.{request_head, request_head_1_2}
use Rattle.giop_msg.specs.declared.version.Version.TheVariants.{V12}
use Rattle.laws_in_use.specs.Framed.{refusing}
use Rattle.laws_in_use.proofs.messages.refused_and_refusing.Goals as goal

pub returns-clause-request : goal.returns-clause-request
unfolding request request_head request_head_1_2 leads field number
returns-clause-request c = λ interface. ((c.requests_are_spelled.ensures.table interface V12).exact _).refuses _ (inl (inl (omega arith, refl)))

pub returns-clause-told : goal.returns-clause-told
unfolding request_head request_head_1_2 field number
returns-clause-told c = λ interface. (c.requests_are_spelled.ensures.refused interface V12 Big [] _).1 (inl (omega arith, refl))

pub returns-clause-requests : goal.returns-clause-requests
unfolding request_head request_head_1_2 field number
returns-clause-requests c = λ interface answer decodes.
    c.refusals_are_told.ensures.requests interface V12 Big [] answer _ decodes (inl (omega arith, refl))

pub returns-clause-replies : goal.returns-clause-replies
unfolding reply reply_head reply_head_1_2 leads field number
returns-clause-replies c = λ interface answer decodes.
    c.refusals_are_told.ensures.replies interface None V12 Big [] answer _ decodes (inl (inl (omega arith, refl)))

fits : (interface : Interface) → (reply interface None V12).fits refusing ≡ true
unfolding reply reply_head reply_head_1_2 reply_status service_contexts service_context tagged leads made_of allowed body_of reply_body chosen
    system_exception completion ended from_multiple_of_8 field gives number octets sequence such text
fits interface = refl

holds : (interface : Interface) → (reply interface None V12).holds refusing
unfolding reply reply_head reply_head_1_2 reply_status service_contexts service_context tagged leads made_of allowed body_of reply_body chosen
    system_exception completion ended from_multiple_of_8 field gives number octets sequence such text
holds interface = search rules

pub returns-clause-exception : goal.returns-clause-exception
returns-clause-exception c = λ interface. (c.replies_are_spelled.ensures interface None V12).back Big refusing (fits interface) (holds interface)

pub returns-clause-back : goal.returns-clause-back
returns-clause-back c = λ interface q fits holds. c.requests_are_spelled.ensures.back interface V12 Big q fits holds
