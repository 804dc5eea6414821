use Rattle.giop_msg.proofs.WholeMessages.LawLemmas.{reply_refusals_told, request_refusals_told}
use Rattle.giop_msg.proofs.laws.messages.refusals_are_told.Goals as goal

pub returns : goal.returns
returns c = record { requests = request_refusals_told; replies = reply_refusals_told }
