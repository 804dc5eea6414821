use Rattle.giop_ior.proofs.IiopLemmas.{view_found, view_only}
use Rattle.giop_ior.proofs.references.iiop_reading.profile_body.Goals as goal

pub returns-clause-found : goal.returns-clause-found
returns-clause-found c = view_found _ _ c.iiop_of.ensures.value

pub returns-clause-only : goal.returns-clause-only
returns-clause-only c = view_only _ _ c.iiop_of.ensures.value c.iiop_of.ensures.err
