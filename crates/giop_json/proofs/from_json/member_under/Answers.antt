use Rattle.std.proofs.lemmas.Str.{encodes-IsAscii}
use Rattle.giop_json.proofs.from_json.member_under.Goals as goal

pub returns-in-Ok : goal.returns-in-Ok
returns-in-Ok c = rw (encodes-IsAscii c.args.name.now c.if-is_ascii.ensures.cases, ← c.in-Ok.ensures.cases.0) c.get.ensures
