-- Whether answers in turn fit, one after the other.
use Rattle.std.proofs.Common.{◌≡◌, ℕ, ◌+◌, ◌<◌, ◌≤◌, Bool, true, false, ◌&&◌, List, [], ◌∷◌, length, drop, get_or, Option, Some, None, option_map}
use Rattle.std.proofs.Common.{refl, ap, ◌∙◌, arith, add-one, drop-cons}
use Rattle.serde_json.specs.Data.{item}
use Rattle.serde_json.specs.View.{view, items_view}
use Rattle.serde_json.specs.declared.value.Value.{Value as Json}
use Rattle.giop_types.specs.declared.interfaces.interface.Interface.{Interface}
use Rattle.giop_types.specs.declared.interfaces.parameters.Parameter.{Parameter}
use Rattle.giop_serving.specs.declared.serve.given.Sending.{Sending}
use Rattle.giop_serving.specs.Serve.AnswerFiles.{each_fits, fits_outs, list_fits}

left_items : (xs : List Json) (i : ℕ) (x : Json) → i < length xs → x ≡ get_or xs i x
    → items_view (drop i xs) ≡ item (view x) (items_view (drop (i + 1) xs))
left_items xs i x lt is = ap items_view (drop-cons xs i x lt) ∙ rw (add-one, ← is) refl

-- one more was judged
judged_more : (fit one : Bool) (rest total : Option Bool)
    → option_map (λ more. fit && more) (option_map (λ more. one && more) rest) ≡ total → option_map (λ more. (fit && one) && more) rest ≡ total
judged_more true one None total so_far = so_far
judged_more true one (Some more) total so_far = so_far
judged_more false one None total so_far = so_far
judged_more false one (Some more) total so_far = so_far

pub answer_judged : (interface : Interface) (sending : Sending) (name : List ℕ) (outs : List Parameter) (fit one : Bool) (xs : List Json) (i : ℕ)
    (x : Json) (total : Option Bool)
    → i < length xs → x ≡ get_or xs i x → fits_outs interface sending name outs (view x) ≡ Some one
    → option_map (λ more. fit && more) (each_fits interface sending name outs (items_view (drop i xs))) ≡ total
    → option_map (λ more. (fit && one) && more) (each_fits interface sending name outs (items_view (drop (i + 1) xs))) ≡ total
answer_judged interface sending name outs fit one xs i x total lt is judged so_far =
    judged_more fit one (each_fits interface sending name outs (items_view (drop (i + 1) xs))) total (rw (left_items xs i x lt is, judged) at so_far)

-- a list of one answer or more
pub some_fit : (interface : Interface) (sending : Sending) (name : List ℕ) (outs : List Parameter) (xs : List Json) → 1 ≤ length xs
    → list_fits interface sending name outs (items_view xs) ≡ each_fits interface sending name outs (items_view xs)
some_fit interface sending name outs [] le = absurd (omega arith)
some_fit interface sending name outs (x ∷ xs) le = refl
