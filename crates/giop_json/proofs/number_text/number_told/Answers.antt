use Rattle.std.proofs.Common.{◌≡◌, ◌==◌, ◌∙◌, false, slice_index, Some, option_map, pos, sym, ap}
use Rattle.std.specs.Result.{result_ok}
use Rattle.serde_json.specs.Find.{of_integer}
use Rattle.giop_json.specs.NumberText.{whole_told}
use Rattle.giop_json.proofs.NumberTextLemmas.{natural_parsed}
use Rattle.giop_json.proofs.number_text.number_told.Goals as goal

pub returns-in-Ok : goal.returns-in-Ok
returns-in-Ok c =
    let s = c.args.text.now in
    let minus : (slice_index s 0 == 45) ≡ false = rw c.as_bytes-octets.ensures.value at (sym c.has_minus.ensures.value ∙ c.if-has_minus.false) in
    let lead = rw c.as_bytes-octets.ensures.value at (sym c.leads.ensures ∙ c.if-not-leads.false) in
    let told : whole_told s ≡ option_map pos (result_ok c.parse.result) = natural_parsed s c.parse.result c.parse.ensures.value.0 minus lead in
    ap (λ n. Some n) c.from.ensures ∙ ap (option_map of_integer) (sym (told ∙ ap (λ r. option_map pos (result_ok r)) c.in-Ok.is))

pub returns-in-Err : goal.returns-in-Err
returns-in-Err c =
    let s = c.args.text.now in
    let minus : (slice_index s 0 == 45) ≡ false = rw c.as_bytes-octets.ensures.value at (sym c.has_minus.ensures.value ∙ c.if-has_minus.false) in
    let lead = rw c.as_bytes-octets.ensures.value at (sym c.leads.ensures ∙ c.if-not-leads.false) in
    let told : whole_told s ≡ option_map pos (result_ok c.parse.result) = natural_parsed s c.parse.result c.parse.ensures.value.0 minus lead in
    ap (option_map of_integer) (sym (told ∙ ap (λ r. option_map pos (result_ok r)) c.in-Err.is))
