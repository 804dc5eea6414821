use Rattle.giop_msg.proofs.WholeMessages.LawLemmas.{whole_of}
use Rattle.giop_msg.proofs.WholeMessages.LocateReplyLemmas.{locate_reply_is}
use Rattle.giop_msg.proofs.laws.messages.locate_replies_are_spelled.Goals as goal

pub returns : goal.returns
returns c = λ version. whole_of (locate_reply_is version)
