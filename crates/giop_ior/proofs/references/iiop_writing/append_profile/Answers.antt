use Rattle.std.proofs.Common.{refl}
use Rattle.giop_cdr.specs.Layout.{field, such, number, octets, text, gives}
use Rattle.giop_cdr.proofs.Writing.WriterLemmas.{grows_then}
use Rattle.giop_ior.specs.Iiop.{iiop_layout, major_version}
use Rattle.giop_ior.proofs.GrowsLemmas.{still_grown, stopped}
use Rattle.giop_ior.proofs.references.iiop_writing.append_profile.Goals as goal

pub returns-in_err-write_octet-2-clause-written : goal.returns-in_err-write_octet-2-clause-written
returns-in_err-write_octet-2-clause-written c =
    stopped _ _ _ _ c.from_residual-in_err-write_octet-2.ensures.0
    (still_grown _ _ _ c.in_ok-write_octet.ensures.written.1 c.in_err-write_octet-2.ensures.written)

pub returns-in_err-write_string-clause-written : goal.returns-in_err-write_string-clause-written
returns-in_err-write_string-clause-written c =
    let octets = grows_then _ _ _ c.in_ok-write_octet.ensures.written.1 c.in_ok-write_octet-2.ensures.written.1 in
    stopped _ _ _ _ c.from_residual-in_err-write_string.ensures.0 (still_grown _ _ _ octets c.in_err-write_string.ensures)

pub returns-in_err-write_ushort-clause-written : goal.returns-in_err-write_ushort-clause-written
returns-in_err-write_ushort-clause-written c =
    let octets = grows_then _ _ _ c.in_ok-write_octet.ensures.written.1 c.in_ok-write_octet-2.ensures.written.1 in
    let host = grows_then _ _ _ octets c.in_ok-write_string.ensures.1 in
    stopped _ _ _ _ c.from_residual-in_err-write_ushort.ensures.0 (still_grown _ _ _ host c.in_err-write_ushort.ensures.written)

pub returns-in_err-write_octets-clause-written : goal.returns-in_err-write_octets-clause-written
returns-in_err-write_octets-clause-written c =
    let octets = grows_then _ _ _ c.in_ok-write_octet.ensures.written.1 c.in_ok-write_octet-2.ensures.written.1 in
    let host = grows_then _ _ _ octets c.in_ok-write_string.ensures.1 in
    let port = grows_then _ _ _ host c.in_ok-write_ushort.ensures.written.1 in
    stopped _ _ _ _ c.from_residual-in_err-write_octets.ensures.0 (still_grown _ _ _ port c.in_err-write_octets.ensures)

pub returns-in_err-append_components-clause-written : goal.returns-in_err-append_components-clause-written
returns-in_err-append_components-clause-written c =
    let octets = grows_then _ _ _ c.in_ok-write_octet.ensures.written.1 c.in_ok-write_octet-2.ensures.written.1 in
    let host = grows_then _ _ _ octets c.in_ok-write_string.ensures.1 in
    let port = grows_then _ _ _ host c.in_ok-write_ushort.ensures.written.1 in
    let key = grows_then _ _ _ port c.in_ok-write_octets.ensures.1 in
    stopped _ _ _ _ c.from_residual-in_err-append_components.ensures.0
    (grows_then _ _ _ key c.in_err-append_components.ensures.written)

pub returns-clause-written : goal.returns-clause-written
unfolding iiop_layout major_version field such number octets text gives
returns-clause-written c =
    let octets = grows_then _ _ _ c.in_ok-write_octet.ensures.written.1 c.in_ok-write_octet-2.ensures.written.1 in
    let host = grows_then _ _ _ octets c.in_ok-write_string.ensures.1 in
    let port = grows_then _ _ _ host c.in_ok-write_ushort.ensures.written.1 in
    let key = grows_then _ _ _ port c.in_ok-write_octets.ensures.1 in (
      rw (
        c.in_ok-append_components.ensures.written.0,
        c.as_slice-3.ensures,
        c.in_ok-write_octets.ensures.0,
        c.as_slice-2.ensures,
        c.in_ok-write_ushort.ensures.written.0,
        c.in_ok-write_string.ensures.0,
        c.as_slice.ensures,
        c.in_ok-write_octet-2.ensures.written.0,
        c.in_ok-write_octet.ensures.written.0,
      ) refl,
      grows_then _ _ _ key c.in_ok-append_components.ensures.written.1,
    )
