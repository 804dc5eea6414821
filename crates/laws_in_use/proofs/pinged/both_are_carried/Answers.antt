use Rattle.std.proofs.Common.{◌∙◌, [], ◌∷◌, Some, None, refl}
use Rattle.giop_cdr.specs.declared.order.Order.TheVariants.{Big}
use Rattle.giop_msg.specs.declared.kind.Kind.TheVariants as message
use Rattle.giop_msg.specs.declared.version.Version.TheVariants.{V12}
use Rattle.giop_calls.specs.declared.client.call.Call.TheVariants as asked
use Rattle.giop_calls.specs.declared.client.entry.ClientEntry.TheVariants as client
use Rattle.giop_session.specs.Acts.ClientCalls.{request_octets}
use Rattle.laws_in_use.specs.Exchange.{ping}
use Rattle.laws_in_use.specs.Framed.{refusing}
use Rattle.laws_in_use.specs.Pinged.{ping_begins, ping_ends, refusal_begins, refusal_ends}
use Rattle.laws_in_use.proofs.PingPlans.{ping_as, ping_written, refusal_as}
use Rattle.laws_in_use.proofs.pinged.both_are_carried.Goals as goal

pub returns-clause-written : goal.returns-clause-written
returns-clause-written c = ping_as

pub returns-clause-series : goal.returns-clause-series
returns-clause-series c = λ interface has.
    let written = ping_as interface has in
    (c.what_is_cut_is_carried.ensures.series V12 message.Request Big (request_octets interface (ping V12) Big) 40 (ping_begins ∷ ping_ends ∷ [])
    written.can_cut written.is_cut).0

pub returns-clause-again : goal.returns-clause-again
returns-clause-again c = λ interface has.
    let written = ping_as interface has in
    (c.what_is_cut_is_carried.ensures.series V12 message.Request Big (request_octets interface (ping V12) Big) 40 (ping_begins ∷ ping_ends ∷ [])
    written.can_cut written.is_cut).1 ∙ ping_written interface has

pub returns-clause-request : goal.returns-clause-request
returns-clause-request c = λ interface entry has.
    c.what_is_cut_is_carried.ensures.request interface V12 Big (ping V12) 40 (ping_begins ∷ ping_ends ∷ []) entry (ping_as interface has)

pub returns-clause-written_back : goal.returns-clause-written_back
returns-clause-written_back c = refusal_as

pub returns-clause-waits : goal.returns-clause-waits
returns-clause-waits c = refl

pub returns-clause-reply : goal.returns-clause-reply
returns-clause-reply c = λ interface.
    c.what_is_cut_is_carried.ensures.reply interface V12 Big (ping V12) refusing 32 (refusal_begins ∷ refusal_ends ∷ [])
    (record { entry = Some (client.Waiting (asked.Request (ping V12))); latest = None }) refl (refusal_as interface)
