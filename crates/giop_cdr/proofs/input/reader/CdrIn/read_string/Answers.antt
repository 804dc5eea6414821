use Rattle.std.proofs.Common.{take, ap, ◌∙◌}
use Rattle.giop_cdr.specs.Reading.Values.{has_null}
use Rattle.giop_cdr.proofs.Spelling.TextSpelling.{text_inside}
use Rattle.giop_cdr.proofs.input.reader.CdrIn.read_string.Goals as goal

pub returns-clause-text : goal.returns-clause-text
returns-clause-text g c =
    let counted = c.in_ok-count.ensures in
    let same = c.in-Ok.ensures ∙ ap (λ k. take k c.text_count.new.self.rest) c.saturating_sub.ensures in
    ap has_null same ∙ text_inside c.in_ok-count.count c.text_count.new.self.rest counted.within counted.text
