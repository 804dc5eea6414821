use Rattle.giop_msg.proofs.RequestIdLemmas.{request_id_there}
use Rattle.giop_msg.proofs.laws.stream.request_ids.Goals as goal

pub returns : goal.returns
returns c = request_id_there
