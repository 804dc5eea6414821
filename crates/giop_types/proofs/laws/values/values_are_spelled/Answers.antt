use Rattle.giop_cdr.proofs.Reading.Stretches.{stands_alone}
use Rattle.giop_types.specs.Coding.Decoding.{decode_at}
use Rattle.giop_types.specs.Coding.Spells.{Spells}
use Rattle.giop_types.specs.Coding.Refusals.{RefusedShape}
use Rattle.giop_types.proofs.Coding.ShapeExact.{shape_exact}
use Rattle.giop_types.proofs.laws.values.values_are_spelled.Goals as goal

pub returns-clause-exact : goal.returns-clause-exact
returns-clause-exact c = shape_exact

pub returns-clause-alone : goal.returns-clause-alone
returns-clause-alone c = λ shape full. stands_alone (Spells shape) (RefusedShape shape) (decode_at shape) (shape_exact shape full)
