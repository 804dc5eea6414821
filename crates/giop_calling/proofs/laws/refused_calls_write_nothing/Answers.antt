use Rattle.std.proofs.Common.{◌≡◌, List, Option, Some, ap, subst}
use Rattle.giop_end.specs.Pumping.{Between, between}
use Rattle.giop_calling.specs.Call.Calling.{ClientCalls, Talks, begun}
use Rattle.giop_calling.proofs.laws.refused_calls_write_nothing.Goals as goal

pub returns : goal.returns
returns c = λ asked lines before after old new status called why is.
    let was = begun asked.limits before.input before.output called.box in
    let now = between after.input after.output called.outgoing called.unread called.left called.fault in
    let same : now ≡ was = subst (λ refused. Talks asked.interface refused was now) is called.talks in
    (ap (λ (s : Between ClientCalls). s.input) same, ap (λ (s : Between ClientCalls). s.output) same)
