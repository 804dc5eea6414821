use Rattle.std.proofs.Common.{None, ap, ◌∙◌}
use Rattle.std.specs.FinMap as finite
use Rattle.giop_ids.proofs.Puts.{get-put_same}
use Rattle.giop_frag.specs.Gathered.{Gathered}
use Rattle.giop_dumping.proofs.JoiningLemmas.{begun_there}
use Rattle.giop_dumping.proofs.dump.joining.begin.Goals as goal

pub begin-requires : goal.begin-requires
begin-requires c =
    ap (λ (g : Gathered). finite.get g.lists c.args.id) c.discard.ensures.ok ∙ get-put_same c.args.gather.now.lists c.args.id None

pub returns-in-Ok-clause-lists : goal.returns-in-Ok-clause-lists
returns-in-Ok-clause-lists c =
    let only = rw (c.discard.ensures.ok, c.as_slice.ensures) at c.in-Ok.ensures.only in
    let ok = rw (c.discard.ensures.ok, c.as_slice.ensures) at c.in-Ok.ensures.ok in
    begun_there c.args.gather.now.lists _ c.args.id c.args.message.now _ only (ap (λ (g : Gathered). g.lists) ok)
