use Rattle.std.proofs.Common.{rules, ◌≡◌, ◌++◌, sym, ◌∙◌, ap, subst, take, string_bytes, arith, append_assoc}
use Rattle.std.proofs.lemmas.Grind.{common_steps}
use Rattle.std.proofs.lemmas.List.{take_more}
use Rattle.std.specs.Str.{IsAscii}
use Rattle.hex.specs.Hex.{encode_with, encode_lower}
use Rattle.giop_lines.proofs.OctetsLemmas.{encode_lower-append, IsAscii-encode_lower}
use Rattle.giop_lines.proofs.appending.append_hex.Goals as goal

pub ascii_str-requires : goal.ascii_str-requires
ascii_str-requires c =
    let digits = rw c.unwrap.ensures at c.encode_to_slice.ensures.written in
    subst IsAscii (sym digits) (IsAscii-encode_lower _)

pub loop-octet-init : goal.loop-octet-init
unfolding encode_with
loop-octet-init c = search rules

pub loop-octet-preserved : goal.loop-octet-preserved
loop-octet-preserved c =
    let octets = c.args.octets.now in
    let i = c.loop-octet.octet-index in
    let digits = rw c.unwrap.ensures at c.encode_to_slice.ensures.written in
    let text =
    ap (λ u. encode_lower (take i octets) ++ u) (c.ascii_str.ensures ∙ digits) ∙ sym (encode_lower-append (take i octets) _)
    ∙ ap encode_lower (sym (take_more octets i _ c.loop-octet-test.true)) in
    let pushed : string_bytes c.push_str-in-loop-octet.new.self ≡ string_bytes c.loop-octet.text ++ c.ascii_str.result.now = grind (arith, common_steps) in
    let before : string_bytes c.loop-octet.text ≡ string_bytes c.args.text.now ++ encode_lower (take i octets) = c.loop-octet.invariant in
    pushed ∙ (ap (λ u. u ++ c.ascii_str.result.now) before ∙ (append_assoc (string_bytes c.args.text.now) (encode_lower (take i octets)) c.ascii_str.result.now
    ∙ ap (λ u. string_bytes c.args.text.now ++ u) text))
