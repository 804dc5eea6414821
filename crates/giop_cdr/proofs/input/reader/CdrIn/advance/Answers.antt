use Rattle.std.proofs.Common.{◌≡◌, ◌≤◌, ◌-◌, ◌+◌, length, ap, sym, ◌∙◌, arith}
use Rattle.giop_cdr.specs.Reading.Cursor.{skip}
use Rattle.giop_cdr.proofs.Reading.FieldLemmas.{skip_standing}
use Rattle.giop_cdr.proofs.Reading.WindowLemmas.{length-window}
use Rattle.giop_cdr.proofs.input.reader.CdrIn.advance.Goals as goal

pub returns : goal.returns
returns g c =
    let inside = c.self.inside in
    let octets = g.S.Octets.octets inside.source.now in
    let left : length c.args.self.now.rest ≡ inside.end - inside.index
    = rw (← c.self.view_is) (length-window inside.index inside.end octets c.self.invariant.0 c.self.invariant.1) in
    let within : inside.index + c.args.count ≤ inside.end = omega (arith, c.requires, c.self.invariant.0) in
    sym (skip_standing c.args.count inside.order inside.at inside.index inside.end octets within) ∙ ap (skip c.args.count) c.self.view_is
