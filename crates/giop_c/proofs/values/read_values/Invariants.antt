use Rattle.std.proofs.Common.{◌≡◌, drop}
use Rattle.giop_cdr.proofs.Reading.ItemLoops.{with_front}
use Rattle.giop_types.specs.Coding.Decoding.{fields_at}
use Rattle.giop_msg.specs.Messages.Body.{fields_in}
use Rattle.giop_c.proofs.values.read_values.Given as goal

abbrev pub invariant-loop-parameter : goal.invariant-loop-parameter
invariant-loop-parameter l =
    with_front l.values (fields_at (fields_in (drop l.parameter-index l.parameters)) l.input) ≡ fields_at (fields_in l.parameters) l.fn.input
