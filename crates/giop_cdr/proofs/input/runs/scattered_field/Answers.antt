use Rattle.std.proofs.Common.{◌≡◌, drop, take, ◌∙◌, sym, ◌<◌, length, arith, length-drop, length-set, get_or}
use Rattle.std.proofs.lemmas.List.{get_or-drop, take_all}
use Rattle.giop_cdr.proofs.Reading.RunLemmas.{take-set_next}
use Rattle.giop_cdr.proofs.input.runs.scattered_field.Goals as goal

pub loop-i-preserved : goal.loop-i-preserved
loop-i-preserved g c =
    let source = drop c.args.from (g.S.Octets.octets c.args.source.now) in
    let there : c.loop-i.i < length source = omega (arith, length-drop c.args.from (g.S.Octets.octets c.args.source.now)) in
    let room : c.loop-i.i < length c.loop-i.octets = omega (arith, c.loop-i.invariant.1) in
    let next : c.at.result ≡ get_or source c.loop-i.i 0 = rw get_or-drop c.at.ensures in
    (take-set_next _ source c.loop-i.i _ room there c.loop-i.invariant.0 next, rw length-set c.loop-i.invariant.1)

pub returns : goal.returns
returns g c =
    let done : c.loop-i.i ≡ g.row.N = omega arith in
    let all : take c.loop-i.i c.loop-i.octets ≡ c.loop-i.octets = take_all c.loop-i.i c.loop-i.octets (omega (arith, c.loop-i.invariant.1)) in
    sym all ∙ (c.loop-i.invariant.0 ∙ rw done)
