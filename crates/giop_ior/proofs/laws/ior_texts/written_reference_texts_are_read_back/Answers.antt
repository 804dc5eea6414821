use Rattle.giop_ior.proofs.IorTextLemmas.{iors_read, text_says}
use Rattle.giop_ior.proofs.laws.ior_texts.written_reference_texts_are_read_back.Goals as goal

pub returns-clause-written : goal.returns-clause-written
returns-clause-written c = text_says

pub returns-clause-again : goal.returns-clause-again
returns-clause-again c = λ ior fits held all. iors_read.only _ ior (text_says ior fits held all)
