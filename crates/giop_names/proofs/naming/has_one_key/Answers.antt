use Rattle.giop_names.proofs.NameLemmas.{counted}
use Rattle.giop_names.proofs.naming.has_one_key.Goals as goal

pub returns-in-Some : goal.returns-in-Some
returns-in-Some c = counted c.args.json.now c.in-Some.members.now.entries c.len.result c.in-Some.ensures c.len.ensures.len
