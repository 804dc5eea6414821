use Rattle.std.proofs.Common.{◌≡◌, ◌≤◌, ◌<◌, ◌+◌, ◌-◌, length, sym, ◌∙◌, arith}
use Rattle.giop_cdr.proofs.Reading.WindowLemmas.{length-window}
use Rattle.giop_cdr.proofs.Encapsulation.OpenLemmas.{opened_big, opened_little, opened_badly}
use Rattle.giop_cdr.proofs.input.reader.CdrIn.content.Goals as goal
use Rattle.giop_cdr.proofs.input.reader.CdrIn.content.Goals.{in-0, in-1}

pub returns-in_default : goal.returns-in_default
returns-in_default g c =
    let inside = c.self.inside in
    let octets = g.S.Octets.octets inside.source.now in
    let left : length c.args.self.now.rest ≡ inside.end - inside.index
    = rw (← c.self.view_is) (length-window inside.index inside.end octets c.self.invariant.0 c.self.invariant.1) in
    let within : inside.index + c.args.count ≤ inside.end = omega (arith, c.requires, c.self.invariant.0) in
    let some : 0 < c.args.count = omega arith in
    rw (← c.self.view_is) (opened_badly c.args.count inside.index inside.end c.args.at octets _ some within c.self.invariant.1
    (λ z. let h : c.at.result ≡ 0 = c.at.ensures ∙ z in absurd (omega (arith, c.in_default)))
    (λ z. let h : c.at.result ≡ 1 = c.at.ensures ∙ z in absurd (omega (arith, c.in_default))))

pub returns : goal.returns
returns g c =
    let inside = c.self.inside in
    let octets = g.S.Octets.octets inside.source.now in
    let left : length c.args.self.now.rest ≡ inside.end - inside.index
    = rw (← c.self.view_is) (length-window inside.index inside.end octets c.self.invariant.0 c.self.invariant.1) in
    let within : inside.index + c.args.count ≤ inside.end = omega (arith, c.requires, c.self.invariant.0) in
    let some : 0 < c.args.count = omega arith in
    elim c.match-at.branch [
      | in-0 w ↦ rw (← c.self.view_is, c.new.ensures, w.order-is)
          (opened_big c.args.count inside.index inside.end c.args.at octets _ some within c.self.invariant.1
          (let h : c.at.result ≡ 0 = omega (arith, w.in-0) in sym c.at.ensures ∙ h))
      | in-1 w ↦ rw (← c.self.view_is, c.new.ensures, w.order-is)
          (opened_little c.args.count inside.index inside.end c.args.at octets _ some within c.self.invariant.1
          (let h : c.at.result ≡ 1 = omega (arith, w.in-1) in sym c.at.ensures ∙ h))
    ]
