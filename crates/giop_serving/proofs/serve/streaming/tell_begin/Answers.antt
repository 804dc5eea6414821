use Rattle.giop_show.proofs.AppendsLemmas.{Appends-kept}
use Rattle.giop_serving.proofs.serve.streaming.tell_begin.Goals as goal

pub returns : goal.returns
returns g c = Appends-kept _ _ _ _ c.in_ok-write_connection.ensures c.flush.ensures.bytes
