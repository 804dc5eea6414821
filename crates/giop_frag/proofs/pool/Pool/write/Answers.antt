use Rattle.std.proofs.Common.{length, arith, ◌≡◌, ◌+◌, ap, sym, ◌∙◌, add-zero, append-nil, refl, ◌++◌, take}
use Rattle.giop_frag.proofs.CountLemmas.{apart_same, named, times_at}
use Rattle.giop_frag.proofs.WrittenLemmas.{nothing_written, step_written, place_within}
use Rattle.giop_frag.specs.Blocks.{octets_at, AreWritten}
use Rattle.giop_frag.proofs.pool.Pool.write.Goals as goal

pub loop-done-init : goal.loop-done-init
loop-done-init c = record {
  within = omega arith;
  value = ap (octets_at c.args.self.now.blocks c.args.numbers.now) (add-zero c.args.at) ∙ sym (append-nil _);
  written = nothing_written _ _;
  whole = c.requires.whole;
  free = refl;
}

pub write_part-requires-clause-number : goal.write_part-requires-clause-number
write_part-requires-clause-number c =
    let place = place_within c.args.at c.loop-done.done c.min-n.result _ (length c.args.numbers.now) c.loop-done-test.true c.requires.room in
    named _ _ _ (apart_same _ _ _ c.requires.apart c.loop-done.invariant.written.number) (times_at _ _ place)

-- the octets that this round writes
step : (c : goal.After-write_part)
    → (octets_at c.write_part.new.self.blocks c.args.numbers.now (c.args.at + (c.loop-done.done + c.min-n.result))
    ≡ octets_at c.args.self.now.blocks c.args.numbers.now c.args.at ++ take (c.loop-done.done + c.min-n.result) c.args.octets.now)
    × AreWritten c.args.numbers.now c.args.self.now.blocks c.write_part.new.self.blocks
step c =
    step_written _ _ _ c.args.numbers.now c.args.octets.now c.args.at c.loop-done.done c.min-n.result
    c.loop-done.invariant.whole c.requires.apart c.loop-done.invariant.written c.loop-done.invariant.value c.requires.room c.loop-done-test.true c.min-n.ensures
    (ap (λ p. p.blocks) c.write_part.ensures.ok)

pub loop-done-preserved : goal.loop-done-preserved
loop-done-preserved c =
    let more = c.loop-done-test.true in
    let is = c.min-n.ensures in
    record {
      within = omega arith;
      value = (step c).0;
      written = (step c).1;
      whole = c.write_part.ensures.whole;
      free = ap (λ p. p.free) c.write_part.ensures.ok ∙ c.loop-done.invariant.free;
    }
