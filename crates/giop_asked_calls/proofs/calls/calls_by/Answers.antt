use Rattle.std.proofs.Common.{option_map}
use Rattle.giop_asked_calls.proofs.FormLemmas.{calls_read}
use Rattle.giop_asked_calls.proofs.calls.calls_by.Goals as goal

pub returns : goal.returns
returns c =
    let l = c.loop-json in
    calls_read c.args.interface.now (option_map (λ v. v.items) l.calls) c.args.list.now l.json-index _ c.loop-json-test.false l.invariant
