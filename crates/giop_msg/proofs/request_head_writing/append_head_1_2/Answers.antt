use Rattle.std.proofs.Common.{arith}
use Rattle.std.proofs.lemmas.Grind.{common_steps}
use Rattle.giop_cdr.specs.Layout.{field, such, number, text, gives}
use Rattle.giop_msg.specs.RequestHead.{request_head_1_2, response_flags}
use Rattle.giop_msg.proofs.RequestHeadLemmas.{late_holds}
use Rattle.giop_msg.proofs.request_head_writing.append_head_1_2.Goals as goal

pub returns-in_err-write_octet-clause-written : goal.returns-in_err-write_octet-clause-written
returns-in_err-write_octet-clause-written c = grind (arith, common_steps)

pub returns-in_err-append_reserved-clause-written : goal.returns-in_err-append_reserved-clause-written
returns-in_err-append_reserved-clause-written c = grind (arith, common_steps)

pub returns-in_err-append_target-clause-written : goal.returns-in_err-append_target-clause-written
returns-in_err-append_target-clause-written c = grind (arith, common_steps)

pub returns-in_err-write_string-clause-written : goal.returns-in_err-write_string-clause-written
returns-in_err-write_string-clause-written c = grind (arith, common_steps)

pub returns-in_err-append_contexts-clause-written : goal.returns-in_err-append_contexts-clause-written
returns-in_err-append_contexts-clause-written c = grind (arith, common_steps)

pub returns-clause-written : goal.returns-clause-written
unfolding request_head_1_2 response_flags field such number text gives
returns-clause-written c = grind (arith, common_steps)

pub returns-clause-held : goal.returns-clause-held
returns-clause-held c = λ is.
    late_holds c.args.head.now c.as_slice-2.result.now c.as_slice-2.ensures is c.in_ok-write_ulong.ensures.held c.in_ok-write_octet.ensures.held
    c.in_ok-append_reserved.ensures.held c.in_ok-append_target.ensures.held c.in_ok-append_contexts.ensures.held
