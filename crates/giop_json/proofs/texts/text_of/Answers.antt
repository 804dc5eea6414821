use Rattle.std.proofs.lemmas.Str.{encodes-IsAscii}
use Rattle.giop_json.proofs.texts.text_of.Goals as goal

pub returns-in-Ok : goal.returns-in-Ok
returns-in-Ok c = rw (encodes-IsAscii c.args.octets.now c.if-is_ascii.ensures.cases, ← c.in-Ok.ensures.cases.0) c.from_str.ensures.ok
