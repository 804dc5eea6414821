-- What is written of a fitting value are octets, and so the text of a reference that was written is read
-- as the reference.
use Rattle.std.proofs.Common.{◌≡◌, ◌<◌, ◌^◌, ℕ, true, List, [], ◌∷◌, Ok, Some, refl, ap}
use Rattle.std.proofs.lemmas.Bool.{and_parts, ltb-true}
use Rattle.std.proofs.lemmas.List.Elements.{All-nil, All-cons}
use Rattle.std.specs.Result.{result_ok}
use Rattle.giop_cdr.specs.Layout.{AreOctets}
use Rattle.giop_types.specs.Coding.Decoding.{decode_at}
use Rattle.giop_types.specs.Values.Fits.{are_octets, fits, is_unsigned}
use Rattle.giop_types.specs.Descriptions.Full.{is_full}
use Rattle.giop_ior_text.specs.IorText.{IorText, begun, ior_text_of, text_written}
use Rattle.giop_json.specs.Reference.{reference_data, reference_shown}
use Rattle.giop_types.specs.Coding.Refusals.{RefusedShape}
use Rattle.giop_types.specs.Descriptions.Shape.{Shape}
use Rattle.giop_types.specs.Coding.Spells.{Spells}
use Rattle.giop_types.specs.Values.Tree.{Tree}
use Rattle.giop_types.specs.Coding.Written.{value_out}
use Rattle.giop_types.proofs.Coding.EncodeLemmas.{encoded_back}
use Rattle.giop_ior_text.proofs.IorTextLemmas.{texts_read, value_written}
use Rattle.giop_types.proofs.Coding.ShapeExact.{shape_exact}
use Rattle.giop_types.proofs.Coding.WrittenOctets.{value_keeps}

all_octets : (t : List ℕ) → are_octets t ≡ true → AreOctets t
all_octets [] h = All-nil (λ octet. octet < 256)
all_octets (o ∷ t) h =
    let parts = and_parts (is_unsigned 8 o) (are_octets t) h in
    All-cons (λ octet. octet < 256) o t (ltb-true o (2 ^ 8) parts.0) (all_octets t parts.1)

pub text_says : (s : Shape) → is_full s ≡ true → (t : Tree) → fits s t ≡ true → IorText (Spells s) t (text_written (value_out s) t)
text_says s full t fit =
    let back = encoded_back s t begun (value_out s t begun) full fit refl in
    value_written (Spells s) t (value_out s t begun)
    (record { part = back.part; octets = back.octets; order = back.order; at = back.at; spells = back.spells })
    (all_octets (value_out s t begun).octets (value_keeps s t fit begun refl))

pub text_back : (s : Shape) → is_full s ≡ true → (t : Tree) → fits s t ≡ true
    → ior_text_of (decode_at s) (text_written (value_out s) t) ≡ Ok t
text_back s full t fit =
    (texts_read (Spells s) (RefusedShape s) (decode_at s) (shape_exact s full)).only _ t (text_says s full t fit)

pub reference_back : (s : Shape) (t : Tree) → is_full s ≡ true → fits s t ≡ true → reference_shown s (reference_data s t) ≡ Some t
reference_back s t full fit = rw fit (ap result_ok (text_back s full t fit))
