use Rattle.giop_ior.proofs.IiopLemmas.{view_found, view_only}
use Rattle.giop_ior.proofs.references.iiop_reading.iiop_view.Goals as goal

pub returns-clause-found : goal.returns-clause-found
returns-clause-found c = rw (← c.as_slice.ensures) (view_found c.as_slice.result.now _ c.iiop_of.ensures.value)

pub returns-clause-only : goal.returns-clause-only
returns-clause-only c = rw (← c.as_slice.ensures) (view_only c.as_slice.result.now _ c.iiop_of.ensures.value c.iiop_of.ensures.err)
