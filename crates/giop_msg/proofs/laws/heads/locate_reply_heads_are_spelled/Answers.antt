use Rattle.giop_msg.proofs.LocateLemmas.{locate_reply_head_is}
use Rattle.giop_msg.proofs.TableLemmas.{table_of}
use Rattle.giop_msg.proofs.laws.heads.locate_reply_heads_are_spelled.Goals as goal

pub returns : goal.returns
returns c = λ version. table_of (locate_reply_head_is version)
