use Rattle.std.proofs.Common.{Some, None, inl, refl}
use Rattle.serde_json.specs.View.{view}
use Rattle.giop_asked_calls.proofs.FoundLemmas.{call_found}
use Rattle.giop_asked_calls.proofs.calls.call_named.Goals as goal

pub returns-in-Some : goal.returns-in-Some
returns-in-Some c =
    let found = call_found c.args.interface.now (view c.args.id.now) (view c.args.name.now) (view c.args.ins.now)
    c.in_ok-name.name c.as_slice.result.now (Some c.in-Some.operation.now) c.in_ok-name.ensures c.as_slice.ensures c.in-Some.ensures in
    rw found c.call_by.ensures

pub returns-in-None : goal.returns-in-None
returns-in-None c =
    let found = call_found c.args.interface.now (view c.args.id.now) (view c.args.name.now) (view c.args.ins.now)
    c.in_ok-name.name c.as_slice.result.now None c.in_ok-name.ensures c.as_slice.ensures c.in-None.ensures in
    inl (refl, found)
