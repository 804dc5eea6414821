use Rattle.giop_tracing.proofs.OrderLemmas.{an_order, order_told, the_only_order}
use Rattle.giop_tracing.proofs.laws.one_order.Goals as goal

pub returns-clause-there : goal.returns-clause-there
returns-clause-there c = λ flows client server. an_order flows client server

pub returns-clause-only : goal.returns-clause-only
returns-clause-only c = λ flows client server all others one other. the_only_order flows client server all others one other

pub returns-clause-told : goal.returns-clause-told
returns-clause-told c = λ form interface flows client server all order. order_told form interface flows client server all order
