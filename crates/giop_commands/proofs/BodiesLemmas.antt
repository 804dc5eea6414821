-- What the bodies of messages hold, as text.
use Rattle.std.proofs.Common.{◌≡◌, ℕ, ◌≤◌, Bool, true, false, if◌then◌else◌, List, [], ◌∷◌, ◌++◌, map, drop, length, min, codes, refl, sym, ap, ◌∙◌, arith, inl, inr}
use Rattle.std.proofs.lemmas.Bool.{cases_lt}
use Rattle.std.proofs.lemmas.List.{append-nil}
use Rattle.std.proofs.lemmas.Str.{IsAscii-append}
use Rattle.std.proofs.Math.ListN.{drop_of_length-le}
use Rattle.std.specs.Str.{IsAscii}
use Rattle.serde_json.specs.Data.{Data, null}
use Rattle.serde_json.specs.View.{items_of}
use Rattle.serde_json.specs.Written.{has_float, items_have_float}
use Rattle.giop_types.specs.declared.json.number_form.NumberForm.{NumberForm}
use Rattle.giop_types.specs.declared.json.parameters.Parameter.{Parameter}
use Rattle.giop_types.specs.declared.value.Value.{Value}
use Rattle.giop_types.specs.Descriptions.CheckedShape.{checked_shape}
use Rattle.giop_types.specs.IorText.{prefixed}
use Rattle.giop_types.specs.JsonForms.ToJson.{to_data}
use Rattle.giop_types.specs.Values.Fits.{fits}
use Rattle.giop_types.specs.Values.Tree.{Tree}
use Rattle.giop_types.specs.Values.Views.{value_view}
use Rattle.giop_types.proofs.JsonForms.JsonFloatLemmas.{data_whole}
use Rattle.giop_commands.specs.Bodies.{each_data}
use Rattle.giop_lines.proofs.OctetsLemmas.{IsAscii-encode_lower, IsAscii-ior}

chosen_whole : (b : Bool) (d : Data) → has_float d ≡ false → has_float (if b then d else null) ≡ false
chosen_whole true d whole = whole
chosen_whole false d whole = refl

-- values have no number with a fraction or an exponent
pub each_whole : (numbers : NumberForm) (parameters : List Parameter) (trees : List Tree) → items_have_float (items_of (each_data numbers parameters trees)) ≡ false
each_whole numbers [] trees = refl
each_whole numbers (p ∷ ps) [] = refl
each_whole numbers (p ∷ ps) (t ∷ ts) =
    rw (chosen_whole (fits (checked_shape p.desc) t) (to_data numbers (checked_shape p.desc) t) (data_whole numbers (checked_shape p.desc) t)) (each_whole numbers ps ts)

no_values : (numbers : NumberForm) (parameters : List Parameter) → each_data numbers parameters [] ≡ []
no_values numbers [] = refl
no_values numbers (p ∷ ps) = refl

-- no parameter is left, or no value
no_more_parameters : (numbers : NumberForm) (ps : List Parameter) (vs : List Value) (i : ℕ) → length ps ≤ i → each_data numbers (drop i ps) (map value_view (drop i vs)) ≡ []
no_more_parameters numbers ps vs i le = rw (drop_of_length-le ps le) refl

no_more_values : (numbers : NumberForm) (ps : List Parameter) (vs : List Value) (i : ℕ) → length vs ≤ i → each_data numbers (drop i ps) (map value_view (drop i vs)) ≡ []
no_more_values numbers ps vs i le = rw (drop_of_length-le vs le) (no_values numbers (drop i ps))

-- where one of both is at its end, all is done
pub all_done : (numbers : NumberForm) (done total : List Data) (ps : List Parameter) (vs : List Value) (i n : ℕ) → n ≡ min (length ps) (length vs) → n ≤ i
    → done ++ each_data numbers (drop i ps) (map value_view (drop i vs)) ≡ total → done ≡ total
all_done numbers done total ps vs i n end past so_far =
    let none : each_data numbers (drop i ps) (map value_view (drop i vs)) ≡ [] =
    elim (cases_lt (length ps) (length vs)) [
      | inl shorter ↦ no_more_parameters numbers ps vs i (omega arith)
      | inr longer ↦ no_more_values numbers ps vs i (omega arith)
    ] in
    sym (ap (λ ds. done ++ ds) none ∙ append-nil done) ∙ so_far

-- the text of a reference has ASCII characters alone
pub IsAscii-prefixed : (octets : List ℕ) → IsAscii (prefixed octets)
IsAscii-prefixed octets = IsAscii-append (codes "IOR:") _ IsAscii-ior (IsAscii-encode_lower octets)
