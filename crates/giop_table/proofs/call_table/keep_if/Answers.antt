use Rattle.std.proofs.Common.{cond, None, sym, ap, ◌∙◌}
use Rattle.std.specs.FinMap as finite
use Rattle.giop_ids.specs.ById.{put}
use Rattle.giop_table.proofs.TableLemmas.{put_itself}
use Rattle.giop_table.proofs.call_table.keep_if.Goals as goal

pub returns-in-true : goal.returns-in-true
returns-in-true c =
    ap (λ m. record c.args.gather.now { lists = m }) (put_itself c.args.gather.now.lists c.args.id
    ∙ ap (λ b. put c.args.gather.now.lists c.args.id (cond b (finite.get c.args.gather.now.lists c.args.id) None)) (sym c.in-true.is))
