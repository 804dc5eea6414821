use Rattle.giop_cdr.proofs.LayoutLemmas.{alone_of}
use Rattle.giop_msg.proofs.RequestHeadLemmas.{request_head_is}
use Rattle.giop_msg.proofs.head_laws.request_heads_are_spelled.Goals as goal

pub returns : goal.returns
returns c = record {
  exact = request_head_is.exact;
  alone = alone_of request_head_is;
  fits = request_head_is.fitting;
}
