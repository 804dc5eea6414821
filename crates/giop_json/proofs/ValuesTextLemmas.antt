-- Values as the text of a JSON list.
use Rattle.std.proofs.Common.{◌≡◌, ℕ, ◌≤◌, List, [], ◌∷◌, map, drop, length, min, refl, arith, inl, inr}
use Rattle.std.proofs.lemmas.Bool.{cases_lt}
use Rattle.std.proofs.Math.ListN.{drop_of_length-le}
use Rattle.giop_json.specs.declared.number_form.NumberForm.{NumberForm}
use Rattle.giop_types.specs.declared.interfaces.parameters.Parameter.{Parameter}
use Rattle.giop_types.specs.declared.value.Value.{Value}
use Rattle.giop_json.specs.ValuesText.{each_data}
use Rattle.giop_types.specs.Values.Views.{value_view}

-- the form of numbers
module _ (numbers : NumberForm) where
  no_values : (parameters : List Parameter) → each_data numbers parameters [] ≡ []
  no_values [] = refl
  no_values (p ∷ ps) = refl

  -- no parameter is left, or no value
  no_more_parameters : (ps : List Parameter) (vs : List Value) (i : ℕ) → length ps ≤ i → each_data numbers (drop i ps) (map value_view (drop i vs)) ≡ []
  no_more_parameters ps vs i le = rw (drop_of_length-le ps le) refl

  no_more_values : (ps : List Parameter) (vs : List Value) (i : ℕ) → length vs ≤ i → each_data numbers (drop i ps) (map value_view (drop i vs)) ≡ []
  no_more_values ps vs i le = rw (drop_of_length-le vs le) (no_values (drop i ps))

  -- where one of both is at its end, nothing is left
  pub none_left : (ps : List Parameter) (vs : List Value) (i n : ℕ) → n ≡ min (length ps) (length vs) → n ≤ i
      → each_data numbers (drop i ps) (map value_view (drop i vs)) ≡ []
  none_left ps vs i n end past =
      elim (cases_lt (length ps) (length vs)) [
        | inl shorter ↦ no_more_parameters ps vs i (omega arith)
        | inr longer ↦ no_more_values ps vs i (omega arith)
      ]
