use Rattle.giop_json.proofs.FromJsonLemmas.{object_counted}
use Rattle.giop_json.proofs.from_json.is_object_of.Goals as goal

pub returns-in-Some : goal.returns-in-Some
returns-in-Some c = object_counted c.args.json.now c.in-Some.object.now.entries c.args.count c.len.result c.in-Some.ensures c.len.ensures.len
