use Rattle.std.proofs.Common.{sym, ◌∙◌}
use Rattle.giop_end.proofs.OnHearing.ServerLemmas.{begin_refused}
use Rattle.giop_end.proofs.hearing.server.begin.Goals as goal

pub returns-then-not-is_free : goal.returns-then-not-is_free
returns-then-not-is_free c =
    let m = c.args.message.now in
    begin_refused c.args.calls.now c.args.id c.args.kind m.order m.payload (sym c.is_free.ensures ∙ c.if-not-is_free.true)
