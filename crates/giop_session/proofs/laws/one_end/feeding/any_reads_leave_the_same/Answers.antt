use Rattle.giop_end.specs.Hearing.Heard.{hears_by}
use Rattle.giop_session.proofs.OnHearing.ReadsLemmas.{behind_a_fault, hears_same, in_two_reads}
use Rattle.giop_session.proofs.laws.one_end.feeding.any_reads_leave_the_same.Goals as goal

pub returns-clause-ok : goal.returns-clause-ok
returns-clause-ok g c = λ interface s mid t u octets more second both there there' first then whole.
    in_two_reads (hears_by g.R.CallRule.next g.R.CallRule.closed g.R.Side.gathering g.R.Hearing.in_call g.R.Hearing.breaks (g.R.Hearing.act_by interface))
    (hears_same g.R.CallRule.next g.R.CallRule.closed g.R.Side.gathering g.R.Hearing.in_call g.R.Hearing.breaks (g.R.Hearing.act_by interface))
    s mid t u octets more second both there there' first then whole

pub returns-clause-refused : goal.returns-clause-refused
returns-clause-refused g c = λ interface s mid t u octets more why second both new there there' first then whole.
    behind_a_fault (hears_by g.R.CallRule.next g.R.CallRule.closed g.R.Side.gathering g.R.Hearing.in_call g.R.Hearing.breaks (g.R.Hearing.act_by interface))
    (hears_same g.R.CallRule.next g.R.CallRule.closed g.R.Side.gathering g.R.Hearing.in_call g.R.Hearing.breaks (g.R.Hearing.act_by interface))
    s mid t u octets more why second both new there there' first then whole
