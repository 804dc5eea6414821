use Rattle.std.proofs.Common.{subst}
use Rattle.giop_types.specs.declared.interfaces.interface.Interface.{Interface}
use Rattle.giop_end.specs.declared.limits.Limits.{Limits}
use Rattle.giop_session.specs.Runs.Driven.{InTurn}
use Rattle.giop_end.specs.Ends.Begun.{end_state}
use Rattle.giop_session.specs.Worlds.World.{GoesBy, Happens, WorldRuns, ends_of}
use Rattle.giop_session.proofs.OnRuns.DrivenLemmas.{in_turn_seen}
use Rattle.giop_session.proofs.OnWorlds.WorldLemmas.{ends_are_joined}
use Rattle.giop_session.proofs.laws.world.run_world.Goals as goal

-- the run, as contracts see a world
seen : (c : goal.In_ok-returned)
    → GoesBy c.args.interface.now c.args.client_limits c.args.server_limits c.take_all.new.driven
    × WorldRuns c.args.interface.now c.args.client_limits c.args.server_limits c.args.schedule.items c.in_ok-returned.returned.items
    (ends_of c.take_all.new.driven)
seen c =
    let one = c.new.ensures in
    let two = c.new-2.ensures in
    let run = in_turn_seen
    (λ before happened told after. (interface : Interface) (client_limits server_limits : Limits)
    → GoesBy interface client_limits server_limits before
    → GoesBy interface client_limits server_limits after
    × Happens interface client_limits server_limits (ends_of before) happened told (ends_of after))
    (Happens c.args.interface.now c.args.client_limits c.args.server_limits) ends_of
    (GoesBy c.args.interface.now c.args.client_limits c.args.server_limits)
    (λ before after happened told keeps given. given c.args.interface.now c.args.client_limits c.args.server_limits keeps)
    (record { client = c.new.result; server = c.new-2.result }) c.take_all.new.driven c.args.schedule.items c.in_ok-returned.returned.items
    (record { client = one.interface; server = two.interface; client_within = one.limits; server_within = two.limits })
    c.in_ok-returned.ensures in (
      run.0,
      subst (λ begun. InTurn (Happens c.args.interface.now c.args.client_limits c.args.server_limits) begun
          c.args.schedule.items c.in_ok-returned.returned.items (ends_of c.take_all.new.driven))
          (λ i. record {
            client = end_state (one.unread i) (one.calls i) (one.outgoing i) (one.fault i);
            server = end_state (two.unread i) (two.calls i) (two.outgoing i) (two.fault i);
          }) run.1,
    )

pub returns-clause-value : goal.returns-clause-value
returns-clause-value c = (seen c).1

pub returns-clause-same : goal.returns-clause-same
returns-clause-same c = (seen c).0

pub returns-clause-joined : goal.returns-clause-joined
returns-clause-joined c =
    ends_are_joined c.args.interface.now c.args.client_limits c.args.server_limits (ends_of c.take_all.new.driven)
    c.args.schedule.items c.in_ok-returned.returned.items (seen c).1

pub returns-clause-agreed : goal.returns-clause-agreed
returns-clause-agreed c =
    c.two_ends_agree.ensures.agreed c.args.interface.now c.args.client_limits c.args.server_limits c.args.schedule.items c.in_ok-returned.returned.items
    (ends_of c.take_all.new.driven) (seen c).1

pub returns-clause-fails : goal.returns-clause-fails
returns-clause-fails c =
    c.two_ends_agree.ensures.fails c.args.interface.now c.args.client_limits c.args.server_limits c.args.schedule.items c.in_ok-returned.returned.items
    (ends_of c.take_all.new.driven) (seen c).1
