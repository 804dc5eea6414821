use Rattle.std.proofs.Common.{◌≡◌, drop}
use Rattle.giop_cdr.specs.Reading.Values.{past}
use Rattle.giop_types.specs.Coding.Decoding.{fields_at}
use Rattle.giop_msg.specs.Messages.Body.{fields_in}
use Rattle.giop_msg.proofs.messages.body_checking.skip_values.Given as goal

abbrev pub invariant-loop-parameter : goal.invariant-loop-parameter
invariant-loop-parameter g l =
    past (fields_at (fields_in (drop l.parameter-index l.parameters)) l.input)
    ≡ past (fields_at (fields_in l.parameters) l.fn.input)
