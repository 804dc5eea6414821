use Rattle.giop_commands.proofs.call.all_well.Goals as goal

pub returns : goal.returns
returns c = rw (c.as_slice.ensures.value, c.in_ok-ids.ensures) at c.are_well.ensures
