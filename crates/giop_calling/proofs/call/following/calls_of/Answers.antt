use Rattle.std.proofs.Common.{rules}
use Rattle.std.proofs.lemmas.Fn.{filter_same}
use Rattle.giop_asked_calls.specs.declared.calls.CallLine.{CallLine}
use Rattle.giop_calling.specs.Call.Following.{is_one_of}
use Rattle.giop_calling.proofs.call.following.calls_of.Goals as goal

pub returns : goal.returns
returns c = filter_same _ (λ (call : CallLine). is_one_of c.args.ids.now call.id) _ (λ x b f' k. search rules) _ _ c.retain.ensures.filtered
