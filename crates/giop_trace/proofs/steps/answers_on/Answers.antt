use Rattle.std.proofs.Common.{rules}
use Rattle.giop_trace.proofs.ContinuedLemmas.{answered_on}
use Rattle.giop_trace.proofs.steps.answers_on.Goals.{in-Some+in_ok-extend, in_default}
use Rattle.giop_trace.proofs.steps.answers_on.Goals as goal

pub returns-clause-value : goal.returns-clause-value
returns-clause-value c =
    answered_on c.args.alone c.args.told.now.over c.args.fragment c.match-told.told c.stays.result c.requires.place c.stays.ensures
    (elim c.match-told.branch [ in-Some+in_ok-extend w ↦ rw (w.told-is, w.in-Some.is, w.in_ok-extend.ensures) | in_default w ↦ search rules ])
