use Rattle.std.proofs.Common.{◌≡◌, Some, option_and_then, sym, ap, ◌∙◌}
use Rattle.std.specs.Str.{IsUtf8}
use Rattle.giop_json.specs.FromJson.{name_shown}
use Rattle.giop_json.specs.JsonText.{octets_in}
use Rattle.giop_json.proofs.OrdinalLemmas.{ordinal_of_octets}
use Rattle.giop_json.proofs.ordinals.Ordinals.ordinal_of.Goals as goal

pub returns-in-Some-2 : goal.returns-in-Some-2
returns-in-Some-2 c =
    let utf8 : IsUtf8 c.in-Some.text.now = search in
    let octets : Some c.as_slice.result.now ≡ octets_in c.in-Some.text.now
    = ap (λ os. Some os) c.as_slice.ensures ∙ sym c.in-Some-2.is ∙ c.in_ok-octets.ensures in
    ap (option_and_then (name_shown c.args.self.now)) (sym c.in-Some.ensures)
    ∙ ordinal_of_octets c.in-Some.text.now utf8 c.args.self.now c.as_slice.result.now octets ∙ ap (λ n. Some n) (sym c.ordinal_at.ensures)
