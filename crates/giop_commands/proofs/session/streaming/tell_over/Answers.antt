use Rattle.std.proofs.Common.{◌≡◌, Result, Ok, Err, ap}
use Rattle.std.specs.Result.{IsErrAnd}
use Rattle.giop_commands.specs.declared.session.untold.Untold.{Untold}
use Rattle.giop_commands.specs.declared.session.untold.Untold.TheVariants.{Memory}
use Rattle.giop_show.proofs.AppendsLemmas.{Appends-kept}
use Rattle.giop_commands.proofs.OnSession.ToldLemmas.{keys_apart}
use Rattle.giop_commands.proofs.session.streaming.tell_over.Goals as goal

is_memory : (r : Result (Unit {0}) Untold) (e : Untold) → IsErrAnd r (λ x. x ≡ e) → r ≡ Err Memory → e ≡ Memory
is_memory (Ok done) e same told = absurd cc
is_memory (Err x) e same told = cc

pub tell_each_over-requires-clause-apart : goal.tell_each_over-requires-clause-apart
tell_each_over-requires-clause-apart g c = rw (c.as_slice.ensures.value, c.in_ok-ids.ensures) (keys_apart c.args.end.now.calls.table)

pub returns-in_err-tell_each_over-clause-memory : goal.returns-in_err-tell_each_over-clause-memory
returns-in_err-tell_each_over-clause-memory g c told =
    let is = is_memory c.from_residual-in_err-tell_each_over.result c.in_err-tell_each_over.field-0.0
    c.from_residual-in_err-tell_each_over.ensures.1 told in
    rw (c.as_slice.ensures.value, c.in_ok-ids.ensures) at (c.in_err-tell_each_over.ensures.memory (ap Err is))

pub returns-clause-text : goal.returns-clause-text
returns-clause-text g c =
    Appends-kept _ _ _ _ (rw (c.as_slice.ensures.value, c.in_ok-ids.ensures) at c.in_ok-tell_each_over.ensures.text) c.flush.ensures.bytes
