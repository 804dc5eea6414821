use Rattle.std.proofs.Common.{◌<◌, arith}
use Rattle.std.proofs.lemmas.List.Elements.{All-from_get_or}
use Rattle.giop_ior.proofs.references.ior_text.text_of_octets.Goals as goal

pub returns-clause-held : goal.returns-clause-held
returns-clause-held c =
    All-from_get_or (λ octet. octet < 256) c.args.octets.now 0 (λ i there. let fits = c.type_inv.octets i in omega arith)
