use Rattle.giop_lines.specs.DumpJson.{request_json}
use Rattle.giop_lines.proofs.json.head.RequestJsonDisplay.fmt.Goals as goal

pub returns-clause-writes : goal.returns-clause-writes
unfolding request_json
returns-clause-writes g c = λ plain ok.
    rw (← c.as_slice.ensures, ← c.len-contexts.ensures) (c.write.ensures.writes plain ok)
