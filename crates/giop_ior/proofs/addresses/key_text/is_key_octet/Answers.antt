use Rattle.std.proofs.Common.{not, ap, ◌∙◌}
use Rattle.giop_ior.proofs.KeyLemmas.{keeps}
use Rattle.giop_ior.proofs.addresses.key_text.is_key_octet.Goals as goal

pub returns : goal.returns
returns c = ap not c.should_percent_encode.ensures ∙ keeps c.args.octet
