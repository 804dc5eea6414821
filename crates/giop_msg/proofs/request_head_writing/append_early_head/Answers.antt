use Rattle.std.proofs.Common.{◌≡◌, Result, Ok, Err, IsErr, sym, subst, arith}
use Rattle.std.proofs.lemmas.Grind.{common_steps}
use Rattle.giop_cdr.specs.Writing.Output.{Output}
use Rattle.giop_cdr.specs.Writing.Outcome.{Appends, Grows}
use Rattle.giop_cdr.proofs.Writing.WriterLemmas.{grows_then}
use Rattle.giop_cdr.specs.Layout.{boolean, field, gives, number, octets, reserved, text}
use Rattle.giop_msg.specs.Meaning.{meaning}
use Rattle.giop_msg.specs.RequestHead.{early_request_head, principal, response_expected}
use Rattle.giop_msg.proofs.RequestHeadLemmas.{early_holds}
use Rattle.giop_msg.proofs.request_head_writing.append_early_head.Goals as goal

-- the last step was refused memory, and left nothing
stops_at : {X E : Type 0} (r : Result X E) (out mid new done : Output) → IsErr r → Grows out mid → new ≡ mid → Appends out r new done
stops_at (Ok x) out mid new done is grown same = absurd cc
stops_at (Err e) out mid new done is grown same = subst (Grows out) (sym same) grown

pub returns-in_err-write_ulong-clause-written : goal.returns-in_err-write_ulong-clause-written
returns-in_err-write_ulong-clause-written c = grind (arith, common_steps)

pub returns-in_err-write_boolean-clause-written : goal.returns-in_err-write_boolean-clause-written
returns-in_err-write_boolean-clause-written c = grind (arith, common_steps)

pub returns-in_err-append_reserved_of-clause-written : goal.returns-in_err-append_reserved_of-clause-written
returns-in_err-append_reserved_of-clause-written c = grind (arith, common_steps)

pub returns-in_err-append_key-clause-written : goal.returns-in_err-append_key-clause-written
returns-in_err-append_key-clause-written c = grind (arith, common_steps)

pub returns-in_err-write_string-clause-written : goal.returns-in_err-write_string-clause-written
returns-in_err-write_string-clause-written c =
    let flags = grows_then _ _ _ c.in_ok-append_contexts.ensures.written.1
    (grows_then _ _ _ c.in_ok-write_ulong.ensures.written.1 c.in_ok-write_boolean.ensures.1) in
    let key = grows_then _ _ _ c.in_ok-append_reserved_of.ensures.written.1 c.in_ok-append_key.ensures.written.1 in
    stops_at _ _ _ _ _ c.from_residual-in_err-write_string.ensures.0 (grows_then _ _ _ flags key) c.in_err-write_string.ensures

pub returns-in_err-write_octets-clause-written : goal.returns-in_err-write_octets-clause-written
returns-in_err-write_octets-clause-written c =
    let flags = grows_then _ _ _ c.in_ok-append_contexts.ensures.written.1
    (grows_then _ _ _ c.in_ok-write_ulong.ensures.written.1 c.in_ok-write_boolean.ensures.1) in
    let key = grows_then _ _ _ c.in_ok-append_reserved_of.ensures.written.1 c.in_ok-append_key.ensures.written.1 in
    stops_at _ _ _ _ _ c.from_residual-in_err-write_octets.ensures.0
    (grows_then _ _ _ flags (grows_then _ _ _ key c.in_ok-write_string.ensures.1)) c.in_err-write_octets.ensures

pub returns-clause-written : goal.returns-clause-written
unfolding early_request_head response_expected meaning boolean principal reserved octets field number text gives
returns-clause-written c =
    let whole : c.write_octets.new.self ≡ (early_request_head c.args.version).written c.args.head.now c.args.out.now =
    cc (
      c.in_ok-append_contexts.ensures.written.0,
      c.in_ok-write_ulong.ensures.written.0,
      c.in_ok-write_boolean.ensures.0,
      c.in_ok-append_reserved_of.ensures.written.0,
      c.in_ok-append_key.ensures.written.0,
      c.in_ok-write_string.ensures.0,
      c.in_ok-write_octets.ensures.0,
    ) in (whole, grind (arith, common_steps))

pub returns-clause-held : goal.returns-clause-held
returns-clause-held c = λ is.
    early_holds c.args.version c.args.head.now c.as_slice.result.now c.as_slice.ensures is c.in_ok-append_contexts.ensures.held
    c.in_ok-write_ulong.ensures.held c.in_ok-append_reserved_of.ensures.held c.in_ok-append_key.ensures.held
