use Rattle.std.proofs.Common.{[], ◌∷◌, refl, inl, arith}
use Rattle.giop_cdr.specs.declared.order.Order.TheVariants.{Little}
use Rattle.giop_msg.specs.declared.version.Version.TheVariants.{V10}
use Rattle.giop_calls.specs.declared.client.call.Call.TheVariants as asked
use Rattle.giop_calls.specs.declared.client.event.ClientEvent.TheVariants as event
use Rattle.giop_session.specs.Runs.Events.{Does}
use Rattle.laws_in_use.specs.Asking.{asking}
use Rattle.laws_in_use.specs.Exchange.{ping}
use Rattle.laws_in_use.specs.Left.{form, ping_sent, sends}
use Rattle.laws_in_use.specs.Locating.{door, limits}
use Rattle.laws_in_use.proofs.AskingRuns.{one_1, one_asks}
use Rattle.laws_in_use.proofs.ClientRunActs.{door_is_sent}
use Rattle.laws_in_use.proofs.PingPlans.{early_ping_holds}
use Rattle.laws_in_use.proofs.SentPlans.{cancels_so}
use Rattle.laws_in_use.proofs.left.what_a_client_plans.Goals as goal

pub returns-clause-calls : goal.returns-clause-calls
returns-clause-calls c = λ interface has. record {
  in_range = record { holds = early_ping_holds interface has; piece = omega arith };
  sent = (ping_sent interface ∷ [], (refl, inl refl), refl);
}

pub returns-clause-asks : goal.returns-clause-asks
returns-clause-asks c = door_is_sent form refl

pub returns-clause-cancels : goal.returns-clause-cancels
returns-clause-cancels c = cancels_so

pub returns-clause-called : goal.returns-clause-called
returns-clause-called c = λ interface n messages is.
    c.what_is_left_is_unsent_at_client.ensures.called interface (ping V10) form (sends (event.Call (asked.Request (ping V10)) n) messages) is

pub returns-clause-located : goal.returns-clause-located
returns-clause-located c = λ n messages is.
    c.what_is_left_is_unsent_at_client.ensures.located door form (sends (event.Call (asked.Locate door) n) messages) is

pub returns-clause-cancelled : goal.returns-clause-cancelled
returns-clause-cancelled c = λ messages is.
    c.what_is_left_is_unsent_at_client.ensures.cancelled 9 Little V10 (sends event.Cancel messages) is

pub returns-clause-planned : goal.returns-clause-planned
returns-clause-planned c = (refl, tt)

pub returns-clause-met : goal.returns-clause-met
returns-clause-met c = λ interface. (one_1 interface, (one_1 interface, (_, one_asks interface), refl))

pub returns-clause-left : goal.returns-clause-left
returns-clause-left c = λ interface k met.
    c.what_is_left_is_unsent_at_client.ensures.left interface limits (Does 7 asking ∷ []) k met (refl, tt)
