use Rattle.std.proofs.Common.{arith}
use Rattle.std.proofs.lemmas.Grind.{common_steps}
use Rattle.giop_cdr.specs.Layout.{chosen, field, gives, number, octets, signed, such}
use Rattle.giop_msg.specs.Target.{disposition, key_target, profile_target, reference_target, target_by, target_layout}
use Rattle.giop_msg.proofs.target_writing.append_target.Goals as goal

pub returns-in_err-write_octets-in-Key-clause-written : goal.returns-in_err-write_octets-in-Key-clause-written
returns-in_err-write_octets-in-Key-clause-written c = grind (arith, common_steps)

pub returns-in_err-append_profile-in-Profile-clause-written : goal.returns-in_err-append_profile-in-Profile-clause-written
returns-in_err-append_profile-in-Profile-clause-written c = grind (arith, common_steps)

pub returns-in_err-write_ulong-in-Reference-clause-written : goal.returns-in_err-write_ulong-in-Reference-clause-written
returns-in_err-write_ulong-in-Reference-clause-written c = grind (arith, common_steps)

pub returns-in_err-append_reference-in-Reference-clause-written : goal.returns-in_err-append_reference-in-Reference-clause-written
returns-in_err-append_reference-in-Reference-clause-written c = grind (arith, common_steps)

pub returns-in_ok-write_octets-in-Key-clause-written : goal.returns-in_ok-write_octets-in-Key-clause-written
unfolding target_layout target_by disposition key_target such signed chosen field gives octets
returns-in_ok-write_octets-in-Key-clause-written c = grind (arith, common_steps)

pub returns-in_ok-append_profile-in-Profile-clause-written : goal.returns-in_ok-append_profile-in-Profile-clause-written
unfolding target_layout target_by disposition profile_target such signed chosen field gives
returns-in_ok-append_profile-in-Profile-clause-written c = grind (arith, common_steps)

pub returns-in_ok-append_reference-in-Reference-clause-written : goal.returns-in_ok-append_reference-in-Reference-clause-written
unfolding target_layout target_by disposition reference_target such signed number chosen field gives
returns-in_ok-append_reference-in-Reference-clause-written c = grind (arith, common_steps)

pub returns-in_ok-write_octets-in-Key-clause-held : goal.returns-in_ok-write_octets-in-Key-clause-held
unfolding target_layout target_by disposition key_target profile_target reference_target such signed number chosen field gives octets
returns-in_ok-write_octets-in-Key-clause-held c = grind (arith, common_steps)

pub returns-in_ok-append_profile-in-Profile-clause-held : goal.returns-in_ok-append_profile-in-Profile-clause-held
unfolding target_layout target_by disposition key_target profile_target reference_target such signed number chosen field gives octets
returns-in_ok-append_profile-in-Profile-clause-held c = grind (arith, common_steps)

pub returns-in_ok-append_reference-in-Reference-clause-held : goal.returns-in_ok-append_reference-in-Reference-clause-held
unfolding target_layout target_by disposition key_target profile_target reference_target such signed number chosen field gives octets
returns-in_ok-append_reference-in-Reference-clause-held c = grind (arith, common_steps)

pub write_octets-requires : goal.write_octets-requires
unfolding target_layout target_by disposition key_target profile_target reference_target such signed number chosen field gives octets
write_octets-requires c = grind (arith, common_steps)

pub append_profile-requires : goal.append_profile-requires
unfolding target_layout target_by disposition key_target profile_target reference_target such signed number chosen field gives octets
append_profile-requires c = grind (arith, common_steps)

pub append_reference-requires : goal.append_reference-requires
unfolding target_layout target_by disposition key_target profile_target reference_target such signed number chosen field gives octets
append_reference-requires c = grind (arith, common_steps)
