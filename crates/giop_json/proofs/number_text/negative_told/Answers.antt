use Rattle.std.proofs.Common.{◌≡◌, ◌∙◌, true, drop, option_map, option_and_then, sym, ap, arith, to_z, of_z}
use Rattle.std.specs.Int.{w64}
use Rattle.std.proofs.lemmas.Int.{to_z-of_z}
use Rattle.std.specs.Result.{result_ok}
use Rattle.serde_json.specs.Find.{of_integer}
use Rattle.giop_json.specs.NumberText.{leads, if_below_zero, whole_told}
use Rattle.giop_json.proofs.NumberTextLemmas.{all_behind, negative_parsed}
use Rattle.giop_json.proofs.number_text.negative_told.Goals as goal

pub returns-in-Ok : goal.returns-in-Ok
returns-in-Ok c =
    let s = c.args.text.now in
    let lead : leads (drop 1 s) ≡ true = rw (c.as_bytes.ensures.value, all_behind s) at (sym c.leads.ensures ∙ c.if-not-leads.false) in
    let told : whole_told s ≡ option_and_then if_below_zero (result_ok c.parse.result) =
    negative_parsed s c.parse.result c.parse.ensures.value.0 c.requires.minus lead in
    let n = c.in-Ok.number in
    let same : to_z w64 (of_z w64 n) ≡ n = grind (arith, to_z-of_z) in
    (rw same at c.below_zero.ensures) ∙ ap (option_map of_integer) (sym (told ∙ ap (λ r. option_and_then if_below_zero (result_ok r)) c.in-Ok.is))

pub returns-in-Err : goal.returns-in-Err
returns-in-Err c =
    let s = c.args.text.now in
    let lead : leads (drop 1 s) ≡ true = rw (c.as_bytes.ensures.value, all_behind s) at (sym c.leads.ensures ∙ c.if-not-leads.false) in
    let told : whole_told s ≡ option_and_then if_below_zero (result_ok c.parse.result) =
    negative_parsed s c.parse.result c.parse.ensures.value.0 c.requires.minus lead in
    ap (option_map of_integer) (sym (told ∙ ap (λ r. option_and_then if_below_zero (result_ok r)) c.in-Err.is))
