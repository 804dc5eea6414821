use Rattle.std.proofs.Common.{[], ◌∷◌, ap, ◌∙◌}
use Rattle.std.specs.Option.{option_map}
use Rattle.giop_calls.specs.ServerTable as server
use Rattle.giop_calls.specs.declared.fault.CallFault.TheVariants.{NotOpen}
use Rattle.giop_session.specs.declared.SessionFault.TheVariants.{Call as InCall}
use Rattle.giop_session.specs.Hearing.Heard.{in_call}
use Rattle.laws_in_use.specs.Left.{new_client}
use Rattle.laws_in_use.specs.Limited.{new_server}
use Rattle.laws_in_use.specs.Locating.{key_little, limits}
use Rattle.laws_in_use.proofs.PutOutKinds.{client_puts_none}
use Rattle.laws_in_use.proofs.WorldRuns.{asked_stands_by, unasked_told_by}
use Rattle.laws_in_use.proofs.worlds.a_world_of_two_ends.Goals as goal

pub returns-clause-refused : goal.returns-clause-refused
returns-clause-refused c = λ given. unasked_told_by c.args.interface.now c.args.schedule.items _ _ c.in_ok-run_world.ensures.value given

pub returns-clause-asked : goal.returns-clause-asked
returns-clause-asked c = λ forms given told.
    asked_stands_by c.args.interface.now
    (λ planned k out on_call. c.what_an_own_act_leaves.ensures.accepted in_call 9 planned (new_client limits) k [] out on_call)
    c.one_split.ensures
    (λ k through. c.own_messages_alone.ensures c.args.interface.now (new_server limits) k (key_little ∷ []) 9 through)
    forms c.args.schedule.items _ _ c.in_ok-run_world.ensures.value given told

pub returns-clause-same : goal.returns-clause-same
returns-clause-same c = (c.in_ok-run_world.ensures.same.client_within, c.in_ok-run_world.ensures.same.server_within)

pub returns-clause-joined : goal.returns-clause-joined
returns-clause-joined c = (
  c.in_ok-run_world.ensures.joined.server_inputs,
  λ more. client_puts_none _ more c.in_ok-run_world.ensures.joined.asked,
)

pub returns-clause-agreed : goal.returns-clause-agreed
returns-clause-agreed c = λ forms given client_stands server_stands client_sent server_sent stands.
    (c.in_ok-run_world.ensures.agreed client_stands server_stands).outcomes client_sent server_sent 9
    ∙ ap (option_map server.outcome) stands

pub returns-clause-stands : goal.returns-clause-stands
returns-clause-stands c = λ given is.
    c.in_ok-run_world.ensures.fails.client (InCall 9 NotOpen) is
