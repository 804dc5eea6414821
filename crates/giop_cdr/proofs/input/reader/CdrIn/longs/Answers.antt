use Rattle.std.proofs.Common.{◌≡◌, ◌*◌, ◌∙◌, take}
use Rattle.giop_cdr.proofs.Reading.LongLemmas.{fours_there, run_is_all}
use Rattle.giop_cdr.proofs.input.reader.CdrIn.longs.Goals as goal

pub returns-then-run-count : goal.returns-then-run-count
returns-then-run-count g c =
    let all : c.run-run.result.now ≡ take (4 * c.args.count) c.args.self.now.rest =
    run_is_all _ _ _ _ c.here-octets.ensures c.run-run.ensures.part c.if-run-count.true in
    rw (← (fours_there _ _ _ c.requires.there all), ← c.order.ensures) c.longs_in.ensures

pub returns : goal.returns
returns g c =
    let all : c.as_slice.result.now ≡ take (4 * c.args.count) c.args.self.now.rest = c.as_slice.ensures.value ∙ c.in_ok-copy.ensures in
    rw (← (fours_there _ _ _ c.requires.there all), ← c.order-2.ensures) c.longs_in-2.ensures
