use Rattle.std.proofs.Common.{rules, ◌++◌, sym, ◌∙◌, ap, subst, refl, take}
use Rattle.std.proofs.Output.{has_written_append, has_written_of_eq}
use Rattle.std.proofs.lemmas.List.{take_more}
use Rattle.std.specs.Str.{IsAscii}
use Rattle.hex.specs.Hex.{encode_with, encode_lower}
use Rattle.giop_lines.proofs.OctetsLemmas.{encode_lower-append, IsAscii-encode_lower}
use Rattle.giop_lines.proofs.octets.HexTextDisplay.fmt.Goals as goal

pub loop-octet-init : goal.loop-octet-init
unfolding encode_with
loop-octet-init g c = search rules

pub ascii_str-requires : goal.ascii_str-requires
ascii_str-requires g c =
    let digits = rw c.unwrap.ensures at c.encode_to_slice.ensures.written in
    subst IsAscii (sym digits) (IsAscii-encode_lower _)

pub loop-octet-preserved : goal.loop-octet-preserved
loop-octet-preserved g c =
    let octets = c.args.self.now.0.now in
    let i = c.loop-octet.octet-index in
    let digits = rw c.unwrap.ensures at c.encode_to_slice.ensures.written in
    let text =
    ap (λ u. encode_lower (take i octets) ++ u) (c.ascii_str.ensures ∙ digits) ∙ sym (encode_lower-append (take i octets) _)
    ∙ ap encode_lower (sym (take_more octets i _ c.loop-octet-test.true)) in
    λ plain.
    let before = c.loop-octet.invariant plain in
    has_written_of_eq _ _ _ _ _ text (has_written_append _ _ _ _ _ _ before (c.in_ok-write_str.ensures.writes before.plain refl))
