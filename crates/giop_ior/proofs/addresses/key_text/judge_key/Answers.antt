use Rattle.std.proofs.Common.{◌+◌, Some, ap, sym, ◌∙◌, arith}
use Rattle.giop_ior.proofs.KeyFaultLemmas.{key_goes_on_within, key_stops_within}
use Rattle.giop_ior.specs.CorbalocFault.{fault}
use Rattle.giop_ior.proofs.addresses.key_text.judge_key.Goals as goal

pub overflow_add-i : goal.overflow_add-i
overflow_add-i c =
    let step = key_goes_on_within c.args.at c.loop-i.i c.key_octet_len-len.result c.args.text.now c.loop-i-test.true
    (sym c.key_octet_len-len.ensures) c.if-len-eq0.false in
    omega (arith, step.0)

pub loop-i-preserved : goal.loop-i-preserved
loop-i-preserved c =
    let step = key_goes_on_within c.args.at c.loop-i.i c.key_octet_len-len.result c.args.text.now c.loop-i-test.true
    (sym c.key_octet_len-len.ensures) c.if-len-eq0.false in
    record { same = c.loop-i.invariant.same ∙ step.1; within = step.0 }

pub returns-then-len-eq0 : goal.returns-then-len-eq0
returns-then-len-eq0 c =
    c.loop-i.invariant.same ∙ key_stops_within c.args.at c.loop-i.i c.args.text.now c.loop-i-test.true (sym c.key_octet_len-len.ensures ∙ c.if-len-eq0.true)
    ∙ ap (λ kind. Some (fault (c.args.at + c.loop-i.i) kind)) (sym c.wrong_key_octet.ensures)
