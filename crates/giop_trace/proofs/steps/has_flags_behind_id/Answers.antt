use Rattle.std.proofs.Common.{rules}
use Rattle.giop_trace.proofs.OnewayLemmas.{asks_for_reply}
use Rattle.giop_trace.proofs.steps.has_flags_behind_id.Goals as goal

pub returns : goal.returns
returns c is_1_2 asks =
    asks_for_reply c.args.message.now c.in-Ok-Ok.field-0-0 c.read_ulong.new.self c.in-Ok-Ok.flags c.read_octet.new.self is_1_2
    (search rules) (search rules) asks
