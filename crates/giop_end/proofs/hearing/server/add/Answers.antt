use Rattle.std.proofs.Common.{ℕ, true, List, Result, Ok, Err, refl, subst, inr}
use Rattle.std.specs.FinMap as finite
use Rattle.giop_ids.specs.Runs.{Does}
use Rattle.giop_calls.specs.declared.fault.CallFault.{CallFault}
use Rattle.giop_calls.specs.declared.server.event.ServerEvent.TheVariants as event
use Rattle.giop_calls.specs.ServerTable.{server_step, is_closed, is_gathering}
use Rattle.giop_table.specs.CallTable.{Answers, Hears, More, answered, event_reply, rules_of}
use Rattle.giop_end.specs.Hearing.Heard.{silently, silent}
use Rattle.giop_table.specs.declared.table_fault.TableFault.{TableFault}
use Rattle.giop_end.proofs.OnHearing.ServerLemmas.{more_stays}
use Rattle.giop_end.proofs.hearing.server.add.Goals as goal

pub returns-in-Ok : goal.returns-in-Ok
returns-in-Ok c =
    let h = c.args.calls.now in
    let more = silently (event.More true) in
    inr (
      Ok silent,
      subst (λ (octets : List ℕ). Does (rules_of server_step is_closed is_gathering) h (record { id = c.args.id; what = Hears more (More octets) })
          (Ok (Answers silent)) c.go_on.new.self) c.behind_id.ensures
          (subst (λ (r : Result (Unit {0}) (TableFault CallFault)). Does (rules_of server_step is_closed is_gathering) h
          (record { id = c.args.id; what = Hears more (More c.behind_id.result.now) }) (event_reply (answered silent r)) c.go_on.new.self) c.in-Ok.is
          (c.go_on.ensures more silent (more_stays (finite.get h.table c.args.id) c.args.kind c.requires.gathered))),
      refl,
    )

pub returns-in-Err : goal.returns-in-Err
returns-in-Err c =
    let h = c.args.calls.now in
    let more = silently (event.More true) in
    inr (
      Err c.in-Err.fault,
      subst (λ (octets : List ℕ). Does (rules_of server_step is_closed is_gathering) h (record { id = c.args.id; what = Hears more (More octets) })
          (Err c.in-Err.fault) c.go_on.new.self) c.behind_id.ensures
          (subst (λ (r : Result (Unit {0}) (TableFault CallFault)). Does (rules_of server_step is_closed is_gathering) h
          (record { id = c.args.id; what = Hears more (More c.behind_id.result.now) }) (event_reply (answered silent r)) c.go_on.new.self) c.in-Err.is
          (c.go_on.ensures more silent (more_stays (finite.get h.table c.args.id) c.args.kind c.requires.gathered))),
      c.result_of.ensures,
    )
