use Rattle.giop_types.specs.Coding.Decoding.{decode_at}
use Rattle.giop_types.specs.Coding.Spells.{Spells}
use Rattle.giop_types.specs.Coding.Refusals.{RefusedShape}
use Rattle.giop_ior_text.proofs.IorTextLemmas.{texts_read, one_text}
use Rattle.giop_types.proofs.Coding.ShapeExact.{shape_exact}
use Rattle.giop_json.proofs.laws.ior_texts.ior_texts_are_read.Goals as goal

pub returns-clause-exact : goal.returns-clause-exact
returns-clause-exact c = λ shape full. texts_read (Spells shape) (RefusedShape shape) (decode_at shape) (shape_exact shape full)

pub returns-clause-alone : goal.returns-clause-alone
returns-clause-alone c = λ shape full. one_text (Spells shape) (RefusedShape shape) (decode_at shape) (shape_exact shape full)
