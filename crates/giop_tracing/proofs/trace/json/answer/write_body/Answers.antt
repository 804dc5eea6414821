use Rattle.giop_tracing.proofs.TracedLemmas.{body_brought}
use Rattle.giop_tracing.proofs.trace.json.answer.write_body.Goals as goal

pub returns-in_default-Some : goal.returns-in_default-Some
returns-in_default-Some g c =
    rw (
      c.in_default-Some.is-1,
      body_brought c.args.numbers c.args.interface.now c.in_default-Some.request.now c.args.body.now
          c.in_default-Some.not-SystemException-0,
    )
    c.write_result.ensures
