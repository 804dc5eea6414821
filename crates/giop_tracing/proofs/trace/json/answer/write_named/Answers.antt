use Rattle.giop_tracing.proofs.trace.json.answer.write_named.Goals as goal

pub returns-in_ok-write-in-Some : goal.returns-in_ok-write-in-Some
returns-in_ok-write-in-Some g c = rw c.in-Some.is (rw c.as_slice.ensures at c.in_ok-write-in-Some.ensures.bytes)
