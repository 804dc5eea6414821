use Rattle.std.proofs.Common.{◌∙◌, sym}
use Rattle.giop_types.proofs.Values.FitLemmas.{text_judged}
use Rattle.giop_types.proofs.codec.fitting.is_text_of.Goals as goal

pub returns-then-text : goal.returns-then-text
returns-then-text c =
    c.is_counted.ensures ∙ text_judged c.args.bound c.args.text.now c.type_inv.text (sym c.contains.ensures.value ∙ c.if-contains.false) c.if-text.true
