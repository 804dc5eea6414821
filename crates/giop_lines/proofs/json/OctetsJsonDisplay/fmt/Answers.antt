use Rattle.std.proofs.Common.{[], ◌∷◌, ◌++◌, sym, ◌∙◌, ap, refl, take, get_or}
use Rattle.std.proofs.Output.{has_written_append, has_written_of_eq}
use Rattle.std.proofs.lemmas.Grind.{flat_map-append}
use Rattle.std.proofs.lemmas.List.{append-nil, take_more}
use Rattle.giop_lines.specs.JsonLines.{octet_json, octets_json}
use Rattle.giop_lines.proofs.json.OctetsJsonDisplay.fmt.Goals as goal

pub loop-octet-preserved : goal.loop-octet-preserved
loop-octet-preserved g c =
    let octets = c.args.self.now.0.now in
    let i = c.loop-octet.octet-index in
    let written = octets_json (take i octets) in
    let text = sym (ap octets_json (take_more octets i 0 c.loop-octet-test.true)
    ∙ flat_map-append octet_json (take i octets) (get_or octets i 0 ∷ [])
    ∙ ap (λ u. written ++ u) (append-nil (octet_json (get_or octets i 0)))) in
    λ plain.
    let before = c.loop-octet.invariant plain in
    has_written_of_eq _ _ _ _ _ text (has_written_append _ _ _ _ _ _ before (c.in_ok-write.ensures.writes before.plain refl))
