use Rattle.std.proofs.Common.{◌-◌, drop, length, ◌∙◌, arith}
use Rattle.std.proofs.lemmas.List.{take-take}
use Rattle.giop_cdr.proofs.Reading.RunLemmas.{field_of_run}
use Rattle.giop_cdr.proofs.input.runs.field_of.Goals as goal

pub returns-in-Ok : goal.returns-in-Ok
returns-in-Ok g c =
    let run = c.run-run.result.now in
    c.in-Ok.ensures.1.same
    ∙ (take-take g.row.N (length run - c.args.skipped) (drop c.args.skipped run) (omega (arith, c.if-skipped-run.true))
    ∙ field_of_run (g.S.Octets.octets c.args.source.now) run c.args.from c.args.skipped g.row.N c.run-run.ensures.part
    (omega (arith, c.if-skipped-run.true)))
