use Rattle.std.proofs.Common.{Some, None, inl, refl, sym}
use Rattle.serde_json.specs.View.{view}
use Rattle.giop_serving.proofs.OnServe.FoundLemmas.{raised_found}
use Rattle.giop_serving.proofs.serve.answers.reading.exception_of.Goals as goal

pub returns-in-Some-exception : goal.returns-in-Some-exception
returns-in-Some-exception c =
    let found = raised_found c.args.offer.now (view c.args.id.now) (view c.args.json.now) (view c.in-Some.members.now)
    c.in_ok-id.id c.as_slice.result.now (Some c.in-Some-exception.parameters.now)
    c.in_ok-id.ensures (sym c.in-Some.ensures) c.as_slice.ensures c.in-Some-exception.ensures in
    rw found c.raised.ensures

pub returns-in-None : goal.returns-in-None
returns-in-None c =
    let found = raised_found c.args.offer.now (view c.args.id.now) (view c.args.json.now) (view c.in-Some.members.now)
    c.in_ok-id.id c.as_slice.result.now None c.in_ok-id.ensures (sym c.in-Some.ensures) c.as_slice.ensures c.in-None.ensures in
    inl (refl, found)
