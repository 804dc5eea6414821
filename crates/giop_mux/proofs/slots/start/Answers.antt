use Rattle.std.proofs.Common.{arith, rules}
use Rattle.std.proofs.lemmas.Grind.{common_steps}
use Rattle.giop_ids.proofs.Puts.{put_absent}
use Rattle.giop_mux.proofs.JudgedLemmas.{refused_new}
use Rattle.giop_mux.proofs.slots.start.Goals as goal
use Rattle.giop_mux.proofs.slots.start.Goals.{in-Some+in_ok-add_slot, in_default}

pub returns-in_err-add_slot-clause-err : goal.returns-in_err-add_slot-clause-err
returns-in_err-add_slot-clause-err g c =
    search (rules, refused_new)

pub returns-clause-ok : goal.returns-clause-ok
returns-clause-ok g c =
    let none = put_absent _ c.args.id c.requires.absent in
    elim c.match-step-2.branch [ in-Some+in_ok-add_slot w ↦ grind (arith, common_steps) | in_default w ↦ grind (arith, common_steps, none) ]
