-- The text of a reference that was written is read as the reference.
use Rattle.std.proofs.Common.{◌≡◌, ℕ, true, List, [], ◌∷◌, ◌++◌, codes, Some, option_map, option_and_then, Ok, refl, sym, ap, ◌∙◌}
use Rattle.std.proofs.lemmas.List.{append-nil}
use Rattle.std.specs.Result.{result_ok}
use Rattle.hex.specs.Hex.{decode_of, encode_lower}
use Rattle.hex.proofs.HexLemmas.{decode_of-encode_lower}
use Rattle.giop_cdr.specs.declared.order.Order.TheVariants.{Big}
use Rattle.giop_cdr.specs.Output.{Output}
use Rattle.giop_cdr.specs.Cursor.{Cursor}
use Rattle.giop_cdr.specs.RoundTrip.{IsReadBack}
use Rattle.giop_types.specs.Shape.{Shape}
use Rattle.giop_types.specs.Tree.{Tree}
use Rattle.giop_types.specs.Decoding.{decode_at}
use Rattle.giop_types.specs.Fits.{are_octets, fits}
use Rattle.giop_types.specs.Full.{is_full}
use Rattle.giop_types.specs.Reference.{opened, reference_data, reference_shown, encapsulated_in, digits_in}
use Rattle.giop_types.specs.Spells.{Spells}
use Rattle.giop_types.specs.Written.{value_out}
use Rattle.giop_cdr.specs.Output.{number_out}
use Rattle.giop_types.proofs.EncodeLemmas.{encoded_back}
use Rattle.giop_types.proofs.JsonLeavesBack.{octets_are_bytes}
use Rattle.giop_types.proofs.WrittenOctets.{value_keeps}

-- an encapsulation begins with the octet of its order
opened_is : opened ≡ record { order = Big; at = 1; octets = 0 ∷ [] }
unfolding number_out
opened_is = refl

text_digits : (digits : List ℕ) → digits_in (codes "IOR:" ++ digits) ≡ Some digits
text_digits digits = refl

content_back : (s : Shape) (t : Tree) → is_full s ≡ true → fits s t ≡ true → encapsulated_in s (value_out s t opened).octets ≡ Some t
content_back s t full fit =
    let back : IsReadBack (Spells s) (decode_at s) t opened (value_out s t opened) = encoded_back s t opened (value_out s t opened) full fit refl in
    let written : (value_out s t opened).octets ≡ 0 ∷ back.part = back.octets ∙ ap (λ (o : Output). o.octets ++ back.part) opened_is in
    let read : decode_at s (record { order = Big; at = 1; rest = back.part }) ≡ Ok (t, record { order = (value_out s t opened).order; at = (value_out s t opened).at; rest = [] })
    = ap (λ (rest : List ℕ). decode_at s (record { order = Big; at = 1; rest = rest })) (sym (append-nil back.part))
    ∙ ap (λ (o : Output). decode_at s (record { order = o.order; at = o.at; rest = back.part ++ [] })) (sym opened_is) ∙ back.back [] in
    ap (encapsulated_in s) written ∙ ap (λ r. option_map (λ (p : Tree × Cursor). p.0) (result_ok r)) read

pub reference_back : (s : Shape) (t : Tree) → is_full s ≡ true → fits s t ≡ true → reference_shown s (reference_data s t) ≡ Some t
reference_back s t full fit =
    let bytes = octets_are_bytes (value_out s t opened).octets (value_keeps s t fit opened (ap (λ (o : Output). are_octets o.octets) opened_is)) in
    rw fit (ap (λ o. option_and_then (encapsulated_in s) (option_and_then (λ digits. result_ok (decode_of digits)) o)) (text_digits (encode_lower (value_out s t opened).octets))
    ∙ ap (λ r. option_and_then (encapsulated_in s) (result_ok r)) (decode_of-encode_lower (value_out s t opened).octets bytes)
    ∙ content_back s t full fit)
