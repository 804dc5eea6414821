use Rattle.std.proofs.Common.{◌≡◌, ◌-◌, ◌==◌, false, true, drop, get_or, refl, arith, length-drop}
use Rattle.std.proofs.lemmas.Bool.{eq-eqb, ne_eqb}
use Rattle.std.proofs.lemmas.List.{get_or-drop}
use Rattle.giop_cdr.proofs.Reading.RunLemmas.{is_text-take}
use Rattle.giop_cdr.proofs.input.runs.text_lies_at.Goals as goal

pub returns-then-at-eq0 : goal.returns-then-at-eq0
returns-then-at-eq0 g c =
    let octets = drop c.args.from (g.S.Octets.octets c.args.source.now) in
    let whole = is_text-take octets c.args.count (c.args.count - 1) (omega arith)
    (omega (arith, length-drop c.args.from (g.S.Octets.octets c.args.source.now))) in
    let null : (c.at.result == 0) ≡ true = eq-eqb c.at.result 0 c.if-at-eq0.true in
    let last : (get_or octets (c.args.count - 1) 0 == 0) ≡ true = rw (get_or-drop, ← c.at.ensures) null in
    rw (c.null_among.ensures, whole, last) refl

pub returns-else-at-eq0 : goal.returns-else-at-eq0
returns-else-at-eq0 g c =
    let octets = drop c.args.from (g.S.Octets.octets c.args.source.now) in
    let whole = is_text-take octets c.args.count (c.args.count - 1) (omega arith)
    (omega (arith, length-drop c.args.from (g.S.Octets.octets c.args.source.now))) in
    let other : (c.at.result == 0) ≡ false = ne_eqb c.at.result 0 c.if-at-eq0.false in
    let last : (get_or octets (c.args.count - 1) 0 == 0) ≡ false = rw (get_or-drop, ← c.at.ensures) other in
    rw (whole, last, other) refl
