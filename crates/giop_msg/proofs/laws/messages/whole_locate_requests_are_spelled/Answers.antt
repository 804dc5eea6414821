use Rattle.giop_cdr.proofs.EndingLemmas.{ended_is}
use Rattle.giop_msg.specs.Locate.{locate_request}
use Rattle.giop_msg.proofs.JoinedLemmas.{whole_is_ended}
use Rattle.giop_msg.proofs.LocateLemmas.{locate_request_is}
use Rattle.giop_msg.proofs.WholeMessages.LawLemmas.{whole_of}
use Rattle.giop_msg.proofs.laws.messages.whole_locate_requests_are_spelled.Goals as goal

pub returns : goal.returns
returns c = record {
  table = λ version. whole_of (ended_is (locate_request_is version));
  read = λ version. whole_is_ended (locate_request version);
}
