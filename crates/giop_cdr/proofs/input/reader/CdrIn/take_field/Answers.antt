use Rattle.std.proofs.Common.{◌≡◌, ◌≤◌, ◌-◌, ◌+◌, length, refl, ap, sym, ◌∙◌}
use Rattle.giop_cdr.specs.Reading.Cursor.{pad}
use Rattle.giop_cdr.specs.Reading.Values.{field_at}
use Rattle.giop_cdr.proofs.Reading.FieldLemmas.{field_is_there}
use Rattle.giop_cdr.proofs.Reading.WindowLemmas.{length-window}
use Rattle.giop_cdr.proofs.input.reader.CdrIn.take_field.Goals as goal

pub returns : goal.returns
returns g c =
    let inside = c.self.inside in
    let octets = g.S.Octets.octets inside.source.now in
    let left : length c.args.self.now.rest ≡ inside.end - inside.index
    = rw (← c.self.view_is) (length-window inside.index inside.end octets c.self.invariant.0 c.self.invariant.1) in
    let aligned : c.args.skipped ≡ pad g.row.N inside.at = c.requires.aligned ∙ ap (λ view. pad g.row.N view.at) (sym c.self.view_is) in
    let within : pad g.row.N inside.at + g.row.N ≤ inside.end - inside.index = rw (← aligned, ← left) c.requires.there in
    let there = field_is_there g.row.N inside.order inside.at inside.index inside.end octets
    c.self.invariant.0 c.self.invariant.1 within in
    ap (field_at g.row.N) (sym c.self.view_is) ∙ there ∙ rw (c.field_of-octets.ensures, aligned) refl
