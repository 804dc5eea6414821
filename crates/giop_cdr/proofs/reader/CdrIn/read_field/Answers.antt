use Rattle.std.proofs.Common.{refl, ◌∙◌, sym, ap}
use Rattle.giop_cdr.specs.Reading.{field_at}
use Rattle.giop_cdr.proofs.FieldLemmas.{field_is_short, field_is_there}
use Rattle.giop_cdr.proofs.reader.CdrIn.read_field.Goals as goal

pub returns-then-self-pad-clause-value : goal.returns-then-self-pad-clause-value
returns-then-self-pad-clause-value g c =
    let inside = c.self.inside in
    let short = field_is_short g.row.N inside.order inside.at inside.index inside.end (g.S.Octets.octets inside.source.now)
    c.self.invariant.0 c.self.invariant.1 c.if-self-pad.true in
    (ap (field_at g.row.N) (sym c.self.view_is) ∙ short, refl)

pub returns-clause-value : goal.returns-clause-value
returns-clause-value g c =
    let inside = c.self.inside in
    let there = field_is_there g.row.N inside.order inside.at inside.index inside.end (g.S.Octets.octets inside.source.now)
    c.self.invariant.0 c.self.invariant.1 c.if-self-pad.false in
    ap (field_at g.row.N) (sym c.self.view_is) ∙ there ∙ rw c.field_of-octets.ensures refl
