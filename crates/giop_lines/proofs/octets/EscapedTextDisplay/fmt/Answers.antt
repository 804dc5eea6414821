use Rattle.std.proofs.Common.{sym, ◌∙◌}
use Rattle.std.proofs.Output.{has_written_of_eq}
use Rattle.giop_lines.proofs.OctetsLemmas.{percent_encode-escaped}
use Rattle.giop_lines.proofs.octets.EscapedTextDisplay.fmt.Goals as goal

pub returns-clause-writes : goal.returns-clause-writes
returns-clause-writes g c =
    let text = c.percent_encode.ensures.text ∙ percent_encode-escaped _ (sym c.is_empty.ensures ∙ c.if-is_empty.false) in
    λ plain ok. has_written_of_eq _ _ _ _ _ text (c.write.ensures.writes plain ok)
