use Rattle.giop_tracing.proofs.trace.json.asked.write_undecoded.Goals as goal

pub returns : goal.returns
returns g c = rw c.as_slice.ensures at c.in_ok-write.ensures.bytes
