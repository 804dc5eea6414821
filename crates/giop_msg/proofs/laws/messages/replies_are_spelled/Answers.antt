use Rattle.giop_msg.proofs.WholeMessages.LawLemmas.{whole_of}
use Rattle.giop_msg.proofs.WholeMessages.ReplyLemmas.{reply_is}
use Rattle.giop_msg.proofs.laws.messages.replies_are_spelled.Goals as goal

pub returns : goal.returns
returns c = λ interface asked version. whole_of (reply_is interface asked version)
