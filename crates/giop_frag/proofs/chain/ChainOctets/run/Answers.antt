use Rattle.std.proofs.Common.{◌≡◌, ◌<◌, length, take, drop, sym, ap, ◌∙◌, arith}
use Rattle.giop_frag.proofs.LaidLemmas.{length-chained, named_at, run_part}
use Rattle.giop_frag.proofs.chain.ChainOctets.run.Goals as goal

pub part-requires-clause-number : goal.part-requires-clause-number
part-requires-clause-number c =
    let size = sym (ap length (sym c.self.view_is) ∙ length-chained _ _ _ c.self.invariant) in
    let within = c.requires in
    (named_at _ _ c.self.inside.size c.args.from c.self.invariant (omega arith)).1

-- the run is the rest of a block, as far as octets go
is_run : (c : goal.After-part) → (0 < length c.part.result.now) × (c.part.result.now ≡ take (length c.part.result.now) (drop c.args.from c.args.self.now))
is_run c =
    let size = sym (ap length (sym c.self.view_is) ∙ length-chained _ _ _ c.self.invariant) in
    let within = c.requires in
    let run = run_part _ _ c.part.result.now c.self.inside.size c.args.from c.min-end.result c.self.invariant (omega arith) c.min-end.ensures c.part.ensures in
    (run.0, run.1 ∙ ap (λ l. take (length c.part.result.now) (drop c.args.from l)) c.self.view_is)

pub returns-clause-some : goal.returns-clause-some
returns-clause-some c = (is_run c).0

pub returns-clause-part : goal.returns-clause-part
returns-clause-part c = (is_run c).1
