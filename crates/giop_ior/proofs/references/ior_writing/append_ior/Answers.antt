use Rattle.std.proofs.Common.{refl}
use Rattle.giop_cdr.specs.Layout.{field, text, gives}
use Rattle.giop_cdr.proofs.Writing.WriterLemmas.{grows_then}
use Rattle.giop_ior.specs.Ior.{ior_layout, tagged_profile}
use Rattle.giop_ior.proofs.GrowsLemmas.{stopped}
use Rattle.giop_ior.proofs.references.ior_writing.append_ior.Goals as goal

pub returns-in_err-append_tagged-clause-written : goal.returns-in_err-append_tagged-clause-written
returns-in_err-append_tagged-clause-written c =
    stopped _ _ _ _ c.from_residual-in_err-append_tagged.ensures.0
    (grows_then _ _ _ c.in_ok-write_string.ensures.1 c.in_err-append_tagged.ensures.written)

pub returns-clause-written : goal.returns-clause-written
unfolding ior_layout tagged_profile field text gives
returns-clause-written c = (
  rw (c.in_ok-append_tagged.ensures.written.0, c.as_slice-2.ensures, c.in_ok-write_string.ensures.0, c.as_slice.ensures) refl,
  grows_then _ _ _ c.in_ok-write_string.ensures.1 c.in_ok-append_tagged.ensures.written.1,
)
