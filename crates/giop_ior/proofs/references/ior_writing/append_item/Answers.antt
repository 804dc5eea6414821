use Rattle.std.proofs.Common.{refl}
use Rattle.giop_cdr.specs.Layout.{tagged, field, number, octets, gives}
use Rattle.giop_cdr.proofs.Writing.WriterLemmas.{grows_then}
use Rattle.giop_ior.proofs.GrowsLemmas.{still_grown, stopped}
use Rattle.giop_ior.proofs.references.ior_writing.append_item.Goals as goal

pub returns-in_err-write_octets-clause-written : goal.returns-in_err-write_octets-clause-written
returns-in_err-write_octets-clause-written g c =
    stopped _ _ _ _ c.from_residual-in_err-write_octets.ensures.0
    (still_grown _ _ _ c.in_ok-write_ulong.ensures.written.1 c.in_err-write_octets.ensures)

pub returns-clause-written : goal.returns-clause-written
unfolding tagged field number octets gives
returns-clause-written g c = (
  rw (c.in_ok-write_octets.ensures.0, c.contents.ensures, c.in_ok-write_ulong.ensures.written.0, c.tag.ensures) refl,
  grows_then _ _ _ c.in_ok-write_ulong.ensures.written.1 c.in_ok-write_octets.ensures.1,
)
