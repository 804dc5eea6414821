use Rattle.giop_ior.proofs.IiopLemmas.{iiop_is, iiop_found, iiop_only, iiop_refused, iiop_refuses, iiop_written, iiop_back}
use Rattle.giop_ior.proofs.laws.references.profiles_are_read.Goals as goal

pub returns : goal.returns
returns c = record {
  exact = iiop_is.exact;
  found = iiop_found;
  only = iiop_only;
  refused = iiop_refused;
  refuses = iiop_refuses;
  written = iiop_written;
  again = iiop_back;
}
