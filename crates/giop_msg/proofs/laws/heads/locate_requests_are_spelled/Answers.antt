use Rattle.giop_msg.proofs.LocateLemmas.{locate_request_is}
use Rattle.giop_msg.proofs.TableLemmas.{table_of}
use Rattle.giop_msg.proofs.laws.heads.locate_requests_are_spelled.Goals as goal

pub returns : goal.returns
returns c = λ version. table_of (locate_request_is version)
