use Rattle.std.proofs.Common.{sym}
use Rattle.giop_cdr.specs.Reading.View.{tagged_at}
use Rattle.giop_cdr.proofs.Reading.ViewLemmas.{length-lying}
use Rattle.giop_cdr.proofs.input.tagged_list_at.TaggedListAt.len.Goals as goal

pub returns : goal.returns
returns g c = rw (← c.self.view_is) (sym (length-lying (tagged_at g.I.Tagged.made) c.self.inside.count c.self.inside.items c.self.invariant))
