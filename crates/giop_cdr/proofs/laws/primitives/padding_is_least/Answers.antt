use Rattle.giop_cdr.proofs.Spelling.PaddingLemmas.{padded_is_aligned, pad_is_least}
use Rattle.giop_cdr.proofs.laws.primitives.padding_is_least.Goals as goal

pub returns-clause-aligned : goal.returns-clause-aligned
returns-clause-aligned c = padded_is_aligned

pub returns-clause-least : goal.returns-clause-least
returns-clause-least c = pad_is_least
