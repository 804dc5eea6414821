use Rattle.std.proofs.Common.{◌≡◌, ◌∙◌, bytes_eq, true, false, sym, arith}
use Rattle.giop_json.specs.JsonText.{text_of}
use Rattle.giop_json.specs.FromJson.{ordinal_in}
use Rattle.giop_json.proofs.FromJsonLemmas.{ordinal_found, ordinal_passed, ordinal_absent}
use Rattle.giop_json.proofs.read_leaves.ordinal_in.Goals as goal

pub returns-then-is_text_of : goal.returns-then-is_text_of
returns-then-is_text_of c =
    let test : bytes_eq (text_of c.index-names-i.result) c.args.text.now ≡ true = rw c.as_slice.ensures at (sym c.is_text_of.ensures ∙ c.if-is_text_of.true) in
    ordinal_found c.args.text.now c.args.names.now c.loop-i.i c.index-names-i.result (ordinal_in c.args.text.now c.args.names.now)
    c.loop-i-test.true c.index-names-i.is test c.loop-i.invariant

pub loop-i-preserved : goal.loop-i-preserved
loop-i-preserved c =
    let test : bytes_eq (text_of c.index-names-i.result) c.args.text.now ≡ false =
    rw c.as_slice.ensures at (sym c.is_text_of.ensures ∙ c.if-is_text_of.false) in
    ordinal_passed c.args.text.now c.args.names.now c.loop-i.i c.index-names-i.result (ordinal_in c.args.text.now c.args.names.now)
    c.loop-i-test.true c.index-names-i.is test c.loop-i.invariant

pub returns : goal.returns
returns c =
    let at_end =
    ordinal_absent c.args.text.now c.args.names.now c.loop-i.i (ordinal_in c.args.text.now c.args.names.now) c.loop-i-test.false c.loop-i.invariant in
    omega arith
