use Rattle.giop_types.specs.Descriptions.CheckedShape.{checked_shape}
use Rattle.giop_types.proofs.Coding.DecodeLemmas.{found_there, answered_there, bounded_there}
use Rattle.giop_types.proofs.codec.decoder.decode.Goals as goal

pub returns-clause-found : goal.returns-clause-found
returns-clause-found g c = found_there (checked_shape c.args.desc.now) (rw c.desc.ensures.same at c.desc.ensures.full) c.args.input.now c.value_of.result
    c.value_of.new.input (rw c.desc.ensures.same at c.value_of.ensures)

pub returns-clause-only : goal.returns-clause-only
returns-clause-only g c = λ tree after. answered_there (checked_shape c.args.desc.now) (rw c.desc.ensures.same at c.desc.ensures.full) c.args.input.now
    c.value_of.result c.value_of.new.input (rw c.desc.ensures.same at c.value_of.ensures) tree after

pub returns-clause-bounded : goal.returns-clause-bounded
returns-clause-bounded g c = bounded_there (checked_shape c.args.desc.now) (rw c.desc.ensures.same at c.desc.ensures.full) c.args.input.now
    c.value_of.result c.value_of.new.input (rw c.desc.ensures.same at c.value_of.ensures)
