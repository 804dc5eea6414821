use Rattle.giop_tracing.proofs.trace.json.asked.write_request.Goals as goal

pub returns : goal.returns
returns g c = rw (c.as_slice.ensures, c.as_str.ensures.value, c.in_ok-ins.ensures) at c.in_ok-write.ensures.bytes
