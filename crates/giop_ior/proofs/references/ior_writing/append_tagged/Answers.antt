use Rattle.std.proofs.Common.{refl}
use Rattle.giop_cdr.specs.Layout.{sequence}
use Rattle.giop_cdr.specs.Writing.Output.{sequence_out}
use Rattle.giop_cdr.proofs.Writing.WriterLemmas.{grows_then}
use Rattle.giop_ior.proofs.GrowsLemmas.{stopped}
use Rattle.giop_ior.proofs.references.ior_writing.append_tagged.Goals as goal

pub returns-in_err-append_each-clause-written : goal.returns-in_err-append_each-clause-written
returns-in_err-append_each-clause-written g c =
    stopped _ _ _ _ c.from_residual-in_err-append_each.ensures.0
    (grows_then _ _ _ c.in_ok-write_ulong.ensures.written.1 c.in_err-append_each.ensures.written)

pub returns-clause-written : goal.returns-clause-written
unfolding sequence sequence_out
returns-clause-written g c = (
  rw (c.in_ok-append_each.ensures.written.0, c.in_ok-write_ulong.ensures.written.0) refl,
  grows_then _ _ _ c.in_ok-write_ulong.ensures.written.1 c.in_ok-append_each.ensures.written.1,
)

pub returns-clause-held : goal.returns-clause-held
unfolding sequence
returns-clause-held g c = c.in_ok-append_each.ensures.held
