use Rattle.std.proofs.Common.{ap}
use Rattle.giop_frag.specs.Gathered.{Gathered}
use Rattle.giop_dumping.proofs.JoiningLemmas.{ended_piece, ended_there}
use Rattle.giop_dumping.proofs.dump.joining.go_on.Goals as goal

pub returns-in-Ok-2-clause-value : goal.returns-in-Ok-2-clause-value
returns-in-Ok-2-clause-value c =
    let only = rw c.brought.ensures at c.in-Ok-2.ensures.only in
    let ok = rw c.brought.ensures at c.in-Ok-2.ensures.ok in
    ended_piece c.args.gather.now.lists _ c.args.id c.args.message.now _ _ only c.if-message.false (ap (λ (g : Gathered). g.lists) ok) c.finish.ensures.value

pub returns-in-Ok-2-clause-lists : goal.returns-in-Ok-2-clause-lists
returns-in-Ok-2-clause-lists c =
    let only = rw c.brought.ensures at c.in-Ok-2.ensures.only in
    let ok = rw c.brought.ensures at c.in-Ok-2.ensures.ok in
    ended_there c.args.gather.now.lists _ _ c.args.id c.args.message.now _ _ only c.if-message.false (ap (λ (g : Gathered). g.lists) ok) c.finish.ensures.lists
