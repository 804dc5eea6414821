use Rattle.std.proofs.Common.{◌≤◌, ◌-◌, length, arith}
use Rattle.giop_cdr.proofs.Reading.RunLemmas.{run_of_part}
use Rattle.giop_cdr.proofs.input.octets_at.OctetsAtOctets.run.Goals as goal

pub returns-clause-part : goal.returns-clause-part
returns-clause-part g c =
    let short : c.min-part.result ≤ length c.run-run.result.now = omega (arith, c.min-part.ensures) in
    let fits : c.min-part.result ≤ c.self.inside.count - c.args.from = omega (arith, c.min-part.ensures) in
    let within = rw (← c.self.view_is) at c.requires in
    rw (← c.self.view_is)
    (run_of_part _ c.run-run.result.now c.self.inside.from c.self.inside.count c.args.from c.min-part.result c.run-run.ensures.part within short fits)
