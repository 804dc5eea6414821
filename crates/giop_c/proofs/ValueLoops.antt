-- The values of parameters as a JSON list, read or written one after the other by a loop.
use Rattle.std.proofs.Common.{◌≡◌, ◌≢◌, ℕ, ◌+◌, ◌<◌, ◌≤◌, min, Bool, false, if◌then◌else◌, List, [], ◌∷◌, ◌++◌, length, map, drop, get_or}
use Rattle.std.proofs.Common.{Result, Ok, Err, refl, sym, ap, ◌∙◌, append_assoc, arith, length-drop}
use Rattle.std.proofs.Math.ListN.{drop_of_length-le}
use Rattle.std.proofs.lemmas.List.{append-nil}
use Rattle.serde_json.specs.Data.{Data}
use Rattle.serde_json.specs.View.{items_of, items_view}
use Rattle.serde_json.specs.Written.{items_have_float}
use Rattle.serde_json.specs.declared.value.Value.{Value as Json}
use Rattle.giop_json.specs.declared.form_fault.FormFault.{FormFault}
use Rattle.giop_json.specs.declared.form_fault.FormFault.TheVariants.{Unfit}
use Rattle.giop_types.specs.declared.interfaces.parameters.Parameter.{Parameter}
use Rattle.giop_types.specs.declared.value.Value.{Value}
use Rattle.giop_types.specs.Descriptions.CheckedShape.{checked_shape}
use Rattle.giop_json.specs.declared.number_form.NumberForm.TheVariants.{Plain}
use Rattle.giop_json.specs.ToJson.{to_data}
use Rattle.giop_types.specs.Values.Tree.{Tree}
use Rattle.giop_types.specs.Values.Views.{value_view}
use Rattle.giop_types.proofs.Coding.MemberLoops.{left_is}
use Rattle.giop_json.proofs.JsonFloatLemmas.{data_whole}
use Rattle.giop_c.specs.JsonValues.{each_data, each_told}

-- ---- reading

-- what was read before and what is still to be read: where one before didn't fit, another form is told still
abbrev pub behind : Bool → List Tree → Result (List Tree) FormFault → Result (List Tree) FormFault
behind fit front (Ok trees) = if fit then Ok (front ++ trees) else Err Unfit
behind fit front (Err e) = Err e

-- what is told of the values from one of them on
abbrev pub told_from : ℕ → List Parameter → List Json → Result (List Tree) FormFault
told_from i ps ds = each_told (drop i ps) (items_view (drop i ds))

unmatched : (fit : Bool) (front : List Tree) (ps : List Parameter) (ds : List Json) → min (length ds) (length ps) ≡ 0 → length ds ≢ length ps
    → behind fit front (each_told ps (items_view ds)) ≡ Err Unfit
unmatched fit front [] [] h differ = absurd (omega arith)
unmatched fit front [] (d ∷ ds) h differ = refl
unmatched fit front (p ∷ ps) [] h differ = refl
unmatched fit front (p ∷ ps) (d ∷ ds) h differ = absurd (omega arith)

-- one of both is at its end, and not the other
pub as_many_differ : (fit : Bool) (front : List Tree) (ps : List Parameter) (ds : List Json) (i : ℕ) (total : Result (List Tree) FormFault)
    → i ≡ min (length ds) (length ps) → length ds ≢ length ps → behind fit front (told_from i ps ds) ≡ total → total ≡ Err Unfit
as_many_differ fit front ps ds i total is differ so_far =
    sym so_far ∙ unmatched fit front (drop i ps) (drop i ds) (omega (arith, length-drop i ps, length-drop i ds))
    (omega (arith, length-drop i ps, length-drop i ds))

past_unfit : (front : List Tree) (ps : List Parameter) (ds : List Json) → min (length ds) (length ps) ≡ 0
    → behind false front (each_told ps (items_view ds)) ≡ Err Unfit
past_unfit front [] [] h = refl
past_unfit front [] (d ∷ ds) h = refl
past_unfit front (p ∷ ps) [] h = refl
past_unfit front (p ∷ ps) (d ∷ ds) h = absurd (omega arith)

-- one of both is at its end, and a value before didn't fit
pub one_was_unfit : (front : List Tree) (ps : List Parameter) (ds : List Json) (i : ℕ) (total : Result (List Tree) FormFault)
    → i ≡ min (length ds) (length ps) → behind false front (told_from i ps ds) ≡ total → total ≡ Err Unfit
one_was_unfit front ps ds i total is so_far =
    sym so_far ∙ past_unfit front (drop i ps) (drop i ds) (omega (arith, length-drop i ps, length-drop i ds))

-- ---- writing

-- one more value
pub one_made : (done : List Data) (ps : List Parameter) (vs : List Value) (i : ℕ) (p : Parameter) (v : Value) (total : List Data)
    → i < length ps → length ps ≡ length vs → p ≡ get_or ps i p → v ≡ get_or vs i v
    → done ++ each_data (drop i ps) (map value_view (drop i vs)) ≡ total
    → (done ++ to_data Plain (checked_shape p.desc) (value_view v) ∷ []) ++ each_data (drop (i + 1) ps) (map value_view (drop (i + 1) vs)) ≡ total
one_made done ps vs i p v total lt many is has so_far =
    let d = to_data Plain (checked_shape p.desc) (value_view v) in
    let next : each_data (drop i ps) (map value_view (drop i vs)) ≡ d ∷ each_data (drop (i + 1) ps) (map value_view (drop (i + 1) vs)) =
    rw (left_is ps i p lt is, left_is vs i v (omega arith) has) refl in
    append_assoc done (d ∷ []) _ ∙ sym (ap (λ ds. done ++ ds) next) ∙ so_far

-- no parameter is left
pub all_made : (done : List Data) (ps : List Parameter) (vs : List Value) (i : ℕ) (total : List Data) → length ps ≤ i
    → done ++ each_data (drop i ps) (map value_view (drop i vs)) ≡ total → done ≡ total
all_made done ps vs i total past so_far =
    let none : each_data (drop i ps) (map value_view (drop i vs)) ≡ [] = rw (drop_of_length-le ps past) refl in
    sym (ap (λ ds. done ++ ds) none ∙ append-nil done) ∙ so_far

-- values have no number with a fraction or an exponent
pub each_whole : (ps : List Parameter) (trees : List Tree) → items_have_float (items_of (each_data ps trees)) ≡ false
each_whole [] trees = refl
each_whole (p ∷ ps) [] = refl
each_whole (p ∷ ps) (t ∷ ts) = rw (data_whole Plain (checked_shape p.desc) t) (each_whole ps ts)
