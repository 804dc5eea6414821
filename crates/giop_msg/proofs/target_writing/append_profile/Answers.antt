use Rattle.std.proofs.Common.{arith}
use Rattle.std.proofs.lemmas.Grind.{common_steps}
use Rattle.giop_cdr.specs.Layout.{tagged, field, number, octets, gives}
use Rattle.giop_ior.specs.Ior.{tagged_profile}
use Rattle.giop_msg.proofs.target_writing.append_profile.Goals as goal

pub returns-in_err-write_octets-clause-written : goal.returns-in_err-write_octets-clause-written
returns-in_err-write_octets-clause-written c = grind (arith, common_steps)

pub returns-clause-written : goal.returns-clause-written
unfolding tagged_profile tagged field number octets gives
returns-clause-written c = grind (arith, common_steps)
