use Rattle.giop_ior.proofs.IorTextLemmas.{text_found, text_only, text_writable}
use Rattle.giop_ior.proofs.references.ior_text.ior_from_text.Goals as goal

pub returns-clause-found : goal.returns-clause-found
returns-clause-found c = text_found c.args.text.now _ c.ior_of.ensures

pub returns-clause-only : goal.returns-clause-only
returns-clause-only c = text_only c.args.text.now _ c.ior_of.ensures

pub returns-clause-writable : goal.returns-clause-writable
returns-clause-writable c = text_writable c.args.text.now _ c.ior_of.ensures
