use Rattle.std.proofs.Common.{◌≡◌, true, refl}
use Rattle.giop_cdr.specs.Layout.{AreOctets}
use Rattle.giop_types.specs.Decoding.{decode_at}
use Rattle.giop_types.specs.Fits.{fits}
use Rattle.giop_types.specs.Full.{is_full}
use Rattle.giop_types.specs.IorText.{IorText, begun, text_written}
use Rattle.giop_types.specs.Refusals.{RefusedShape}
use Rattle.giop_types.specs.Shape.{Shape}
use Rattle.giop_types.specs.Spells.{Spells}
use Rattle.giop_types.specs.Tree.{Tree}
use Rattle.giop_types.specs.Written.{value_out}
use Rattle.giop_types.proofs.EncodeLemmas.{encoded_back}
use Rattle.giop_types.proofs.IorTextLemmas.{texts_read, octets_written, value_written}
use Rattle.giop_types.proofs.ShapeExact.{shape_exact}
use Rattle.giop_types.proofs.ior_text_laws.written_ior_texts_are_read_back.Goals as goal

said : (shape : Shape) → is_full shape ≡ true → (tree : Tree) → fits shape tree ≡ true → AreOctets (value_out shape tree begun).octets
    → IorText (Spells shape) tree (text_written (value_out shape) tree)
said shape full tree fit all =
    let back = encoded_back shape tree begun (value_out shape tree begun) full fit refl in
    value_written (Spells shape) tree (value_out shape tree begun) (record { part = back.part; octets = back.octets; order = back.order; at = back.at; spells = back.spells }) all

pub returns-clause-octets : goal.returns-clause-octets
returns-clause-octets c = octets_written

pub returns-clause-written : goal.returns-clause-written
returns-clause-written c = said

pub returns-clause-again : goal.returns-clause-again
returns-clause-again c = λ shape full tree fit all.
    (texts_read (Spells shape) (RefusedShape shape) (decode_at shape) (shape_exact shape full)).only _ tree (said shape full tree fit all)
