use Rattle.std.proofs.Common.{◌≡◌, true, false, drop, take, sym, ◌∙◌, arith}
use Rattle.giop_cdr.specs.Reading.Values.{has_null}
use Rattle.giop_cdr.proofs.Reading.RunLemmas.{part_of_run, no_null_yet, null_is_among}
use Rattle.giop_cdr.proofs.input.runs.null_among.Goals as goal

pub returns-then-contains : goal.returns-then-contains
returns-then-contains g c =
    let part = part_of_run (g.S.Octets.octets c.args.source.now) c.run-run.result.now c.args.from c.runs.done c.min-part.result
    c.run-run.ensures.part (omega (arith, c.min-part.ensures)) in
    let here : has_null (take c.min-part.result (drop c.runs.done (drop c.args.from (g.S.Octets.octets c.args.source.now)))) ≡ true
    = rw (← part) (sym c.contains.ensures.value ∙ c.if-contains.true) in
    sym (null_is_among _ c.runs.done c.min-part.result c.args.count (omega (arith, c.min-part.ensures)) here)

pub runs-preserved : goal.runs-preserved
runs-preserved g c =
    let part = part_of_run (g.S.Octets.octets c.args.source.now) c.run-run.result.now c.args.from c.runs.done c.min-part.result
    c.run-run.ensures.part (omega (arith, c.min-part.ensures)) in
    let here : has_null (take c.min-part.result (drop c.runs.done (drop c.args.from (g.S.Octets.octets c.args.source.now)))) ≡ false
    = rw (← part) (sym c.contains.ensures.value ∙ c.if-contains.false) in
    (no_null_yet _ c.runs.done c.min-part.result c.runs.invariant.0 here, omega (arith, c.min-part.ensures))
