use Rattle.std.proofs.Common.{◌/◌, ap}
use Rattle.giop_frag.proofs.CountLemmas.{named, times_at}
use Rattle.giop_frag.proofs.WrittenLemmas.{nothing_written, one_written, place_behind, written_at}
use Rattle.giop_frag.proofs.pool.Pool.write_behind.Goals as goal

pub write_part-requires-clause-number : goal.write_part-requires-clause-number
write_part-requires-clause-number c =
    named _ _ _ c.requires.apart (times_at _ _ (place_behind _ _ c.requires.behind c.requires.room))

pub returns-clause-value : goal.returns-clause-value
returns-clause-value c =
    written_at _ _ c.args.numbers.now c.args.at c.args.octets.now c.write_part.ensures.before c.requires.apart
    (place_behind _ _ c.requires.behind c.requires.room) c.requires.within (ap (λ p. p.blocks) c.write_part.ensures.ok)

pub returns-clause-written : goal.returns-clause-written
returns-clause-written c =
    one_written _ _ _ c.args.numbers.now (c.args.at / 512) _ (nothing_written _ _)
    (place_behind _ _ c.requires.behind c.requires.room) (ap (λ p. p.blocks) c.write_part.ensures.ok)
