use Rattle.std.proofs.Common.{sym, ◌∙◌}
use Rattle.giop_frag.proofs.TableLemmas.{looked_up}
use Rattle.giop_frag.proofs.lists.list_in.Goals as goal

pub returns : goal.returns
returns c = c.get.ensures.value ∙ sym (looked_up c.args.table.now.entries c.args.id)
