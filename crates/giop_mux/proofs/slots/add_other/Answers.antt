use Rattle.std.proofs.Common.{Some, ap, is_ok, refl}
use Rattle.giop_mux.proofs.SlotLemmas.{is_behind, ok_part, one_behind, still_whole}
use Rattle.giop_mux.proofs.slots.add_other.Goals as goal

pub returns-in-Ok-clause-ok : goal.returns-in-Ok-clause-ok
returns-in-Ok-clause-ok g c =
    let old = c.args.slots.now in
    let added = (ok_part c.insert.result (ap is_ok c.in-Ok.is) c.insert.ensures.updates).0 in
    one_behind old (record old { others = c.insert.new.self }) c.args.id (Some c.args.entry) refl refl added
    (is_behind _ old.id c.args.id old.front c.requires.front c.requires.absent)

pub returns-in-Ok-clause-whole : goal.returns-in-Ok-clause-whole
returns-in-Ok-clause-whole g c =
    let old = c.args.slots.now in
    let added = (ok_part c.insert.result (ap is_ok c.in-Ok.is) c.insert.ensures.updates).0 in
    still_whole old (record old { others = c.insert.new.self }) c.args.id (Some c.args.entry) refl added
    (is_behind _ old.id c.args.id old.front c.requires.front c.requires.absent) c.requires.whole
