use Rattle.std.proofs.Common.{◌≡◌, bytes_eq, true, false, ap, sym, ◌∙◌, arith}
use Rattle.giop_types.specs.JsonForms.JsonText.{text_of}
use Rattle.giop_types.specs.JsonForms.FromJson.{ordinal_in}
use Rattle.giop_types.proofs.JsonForms.FromJsonLemmas.{ordinal_found, ordinal_passed, ordinal_absent}
use Rattle.giop_types.proofs.json.read_leaves.ordinal_in.Goals as goal

pub returns-then-eq : goal.returns-then-eq
returns-then-eq c =
    let name : c.as_str.result.now ≡ text_of c.index-names-i.result = c.as_str.ensures.value ∙ c.in_ok-text_of.ensures ∙ ap text_of c.as_slice.ensures in
    let test : bytes_eq (text_of c.index-names-i.result) c.args.text.now ≡ true = rw name at (sym c.if-eq.ensures) in
    ordinal_found c.args.text.now c.args.names.now c.loop-i.i c.index-names-i.result (ordinal_in c.args.text.now c.args.names.now)
    c.loop-i-test.true c.index-names-i.is test c.loop-i.invariant

pub loop-i-preserved : goal.loop-i-preserved
loop-i-preserved c =
    let name : c.as_str.result.now ≡ text_of c.index-names-i.result = c.as_str.ensures.value ∙ c.in_ok-text_of.ensures ∙ ap text_of c.as_slice.ensures in
    let test : bytes_eq (text_of c.index-names-i.result) c.args.text.now ≡ false = rw name at (sym c.if-eq.ensures) in
    ordinal_passed c.args.text.now c.args.names.now c.loop-i.i c.index-names-i.result (ordinal_in c.args.text.now c.args.names.now)
    c.loop-i-test.true c.index-names-i.is test c.loop-i.invariant

pub returns : goal.returns
returns c =
    let at_end =
    ordinal_absent c.args.text.now c.args.names.now c.loop-i.i (ordinal_in c.args.text.now c.args.names.now) c.loop-i-test.false c.loop-i.invariant in
    omega arith
