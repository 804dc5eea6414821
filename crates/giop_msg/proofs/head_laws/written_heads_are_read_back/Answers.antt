use Rattle.giop_cdr.proofs.LayoutLemmas.{back_of}
use Rattle.giop_msg.proofs.RequestHeadLemmas.{request_head_is}
use Rattle.giop_msg.proofs.head_laws.written_heads_are_read_back.Goals as goal

pub returns : goal.returns
returns c = back_of request_head_is
