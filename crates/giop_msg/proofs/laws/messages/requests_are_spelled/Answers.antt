use Rattle.giop_msg.proofs.WholeMessages.LawLemmas.{read_back, requests_refused, whole_of}
use Rattle.giop_msg.proofs.WholeMessages.RequestLemmas.{request_is}
use Rattle.giop_msg.proofs.laws.messages.requests_are_spelled.Goals as goal

pub returns : goal.returns
returns c = record { table = λ interface version. whole_of (request_is interface version); refused = requests_refused; back = read_back }
