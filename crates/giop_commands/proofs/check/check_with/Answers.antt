use Rattle.giop_commands.proofs.CheckLemmas.{checked}
use Rattle.giop_commands.proofs.check.check_with.Goals as goal

pub returns-clause-text : goal.returns-clause-text
returns-clause-text g c =
    let heard = rw (c.requires.interface, c.requires.unread, c.requires.calls) at c.in_ok-hear.ensures.heard in
    checked c.args.interface.now c.args.checking.limits c.args.checking.strict c.args.checking.lines _ _ _ _ _ _ _
    c.in_ok-status.status c.strictly.result heard c.in_ok-hear.ensures.memory c.in_ok-write_table.ensures
    c.in_ok-status.ensures.text c.in_ok-status.ensures.ok c.strictly.ensures
