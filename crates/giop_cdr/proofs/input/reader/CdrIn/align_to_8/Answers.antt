use Rattle.std.proofs.Common.{◌≡◌, ◌<◌, ◌-◌, ◌+◌, length, ap, sym, ◌∙◌, arith}
use Rattle.giop_cdr.specs.Reading.Cursor.{pad, skip}
use Rattle.giop_cdr.proofs.Reading.WindowLemmas.{length-window, skip-over}
use Rattle.giop_cdr.proofs.input.reader.CdrIn.align_to_8.Goals as goal

pub returns : goal.returns
returns g c =
    let inside = c.self.inside in
    let octets = g.S.Octets.octets inside.source.now in
    let left : length c.args.self.now.rest ≡ inside.end - inside.index
    = rw (← c.self.view_is) (length-window inside.index inside.end octets c.self.invariant.0 c.self.invariant.1) in
    let over : inside.end < inside.index + pad 8 inside.at = omega (arith, left, c.remaining.ensures, c.if-pad-remaining.false, c.self.invariant.0) in
    sym (skip-over (pad 8 inside.at) inside.order inside.at inside.index inside.end octets c.self.invariant.0 c.self.invariant.1 over)
    ∙ ap (λ r. skip (pad 8 r.at) r) c.self.view_is
