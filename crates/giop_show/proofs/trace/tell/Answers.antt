use Rattle.giop_show.proofs.TracedLemmas.{told_lines}
use Rattle.giop_show.proofs.trace.tell.Goals as goal

pub returns-clause-text : goal.returns-clause-text
returns-clause-text g c =
    rw (← c.in_ok-told.ensures.value)
    (told_lines _ _ _ _ _ _ _ _ _ c.still_open-open.ensures c.over_as-over.ensures c.in_ok-write_flow.ensures c.in_ok-write_flow-2.ensures)
