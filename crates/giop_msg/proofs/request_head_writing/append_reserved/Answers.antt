use Rattle.std.proofs.Common.{arith}
use Rattle.std.proofs.lemmas.Grind.{common_steps}
use Rattle.giop_cdr.specs.Layout.{reserved, field, number, gives}
use Rattle.giop_msg.specs.RequestHead.{reserved_octet, reserved_octets}
use Rattle.giop_msg.proofs.request_head_writing.append_reserved.Goals as goal

pub returns-in_err-write_octet-2-clause-written : goal.returns-in_err-write_octet-2-clause-written
returns-in_err-write_octet-2-clause-written c = grind (arith, common_steps)

pub returns-in_err-write_octet-3-clause-written : goal.returns-in_err-write_octet-3-clause-written
returns-in_err-write_octet-3-clause-written c = grind (arith, common_steps)

pub returns-clause-written : goal.returns-clause-written
unfolding reserved_octets reserved_octet reserved field number gives
returns-clause-written c = grind (arith, common_steps)
