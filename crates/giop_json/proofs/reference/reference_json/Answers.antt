use Rattle.std.proofs.Common.{◌∙◌, ap, w8}
use Rattle.giop_cdr.specs.Writing.Output.{number_out}
use Rattle.giop_ior_text.specs.IorText.{prefixed}
use Rattle.giop_types.specs.Values.Views.{desc_view, value_view}
use Rattle.giop_types.specs.Coding.Written.{value_out}
use Rattle.giop_json.proofs.ReferenceLemmas.{text_shown}
use Rattle.giop_json.proofs.reference.reference_json.Goals as goal

pub returns : goal.returns
returns c =
    let shape = desc_view c.args.desc.now in
    let tree = value_view c.args.value.now in
    let begun = c.in_ok-write_octet.ensures.written.0 ∙ ap (number_out w8 0) c.new-out.ensures in
    let done = c.in-Ok.ensures.1 ∙ ap (value_out shape tree) begun in
    let says = c.in_ok-ior_octets_to_text.ensures ∙ ap prefixed c.as_slice.ensures in
    text_shown shape tree _ c.append.new.out says done c.in-Ok.ensures.0
