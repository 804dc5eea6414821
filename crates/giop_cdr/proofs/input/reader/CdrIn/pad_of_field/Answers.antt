use Rattle.std.proofs.Common.{◌∙◌, sym, ap}
use Rattle.giop_cdr.specs.Reading.Values.{field_at}
use Rattle.giop_cdr.proofs.Reading.FieldLemmas.{field_is_short}
use Rattle.giop_cdr.proofs.input.reader.CdrIn.pad_of_field.Goals as goal

pub returns-then-self-pad-clause-short : goal.returns-then-self-pad-clause-short
returns-then-self-pad-clause-short g c =
    let inside = c.self.inside in
    let short = field_is_short g.row.N inside.order inside.at inside.index inside.end (g.S.Octets.octets inside.source.now)
    c.self.invariant.0 c.self.invariant.1 c.if-self-pad.true in
    ap (field_at g.row.N) (sym c.self.view_is) ∙ short
