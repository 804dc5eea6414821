use Rattle.giop_ior_text.proofs.IorTextLemmas.{one_text}
use Rattle.giop_ior.specs.Ior.{ior_layout}
use Rattle.giop_ior.proofs.IorLemmas.{ior_is}
use Rattle.giop_ior.proofs.IorTextLemmas.{iors_read, text_fits}
use Rattle.giop_ior.proofs.laws.ior_texts.reference_texts_are_read.Goals as goal

pub returns-clause-exact : goal.returns-clause-exact
returns-clause-exact c = iors_read

pub returns-clause-alone : goal.returns-clause-alone
returns-clause-alone c = one_text ior_layout.spells ior_layout.refused ior_layout.read ior_is.exact

pub returns-clause-fits : goal.returns-clause-fits
returns-clause-fits c = text_fits ior_layout ior_is
