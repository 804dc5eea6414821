use Rattle.std.proofs.Common.{◌≡◌, ap, ◌∙◌, length, arith}
use Rattle.giop_cdr.proofs.Reading.LongLemmas.{fours_counted}
use Rattle.giop_cdr.proofs.input.reader.CdrIn.read_longs.Goals as goal

pub returns-clause-countable : goal.returns-clause-countable
returns-clause-countable g c =
    let long : length c.in-Ok.longs.items ≡ c.in_ok-count.count = ap length c.in-Ok.ensures ∙ fours_counted _ _ _ in
    omega (arith, long, c.in_ok-count.ensures.countable)
