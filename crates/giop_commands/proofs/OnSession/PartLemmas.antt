-- Lists of parts that may not fit, made one part after the other.
use Rattle.std.proofs.Common.{◌≡◌, ◌≢◌, ℕ, ◌≤◌, min, List, [], ◌∷◌, ◌++◌, length, drop, Option, Some, None, option_map}
use Rattle.std.proofs.Common.{refl, sym, ap, ◌∙◌, append_assoc, arith, length-drop}
use Rattle.std.proofs.Math.ListN.{drop_of_length-le}
use Rattle.std.proofs.lemmas.List.{append-nil}
use Rattle.serde_json.specs.View.{items_view}
use Rattle.serde_json.specs.declared.value.Value.{Value as Json}
use Rattle.giop_types.specs.declared.interfaces.parameters.Parameter.{Parameter}
use Rattle.giop_types.specs.Values.Tree.{Tree}
use Rattle.giop_commands.specs.Session.Forms.{made_of, form_of, each_value}

-- one part and those behind it
abbrev pub in_front : {A : Type 0} → Option (Option A) → Option (Option (List A)) → Option (Option (List A))
in_front x xs = form_of (λ x xs. x ∷ xs) x xs

-- one part behind those that were made
abbrev pub behind : {A : Type 0} → Option (List A) → Option A → Option (List A)
behind front x = made_of (λ xs x. xs ++ x ∷ []) front x

-- the parts that were made before, and those that are still made
abbrev pub made_before : {A : Type 0} → Option (List A) → Option (Option (List A)) → Option (Option (List A))
made_before front rest = option_map (made_of (λ xs ys. xs ++ ys) front) rest

regroup : {A : Type 0} (front : Option (List A)) (x : Option A) (rest : Option (Option (List A)))
    → made_before front (in_front (Some x) rest) ≡ made_before (behind front x) rest
regroup front x None = refl
regroup None None (Some rest) = refl
regroup None (Some x) (Some None) = refl
regroup None (Some x) (Some (Some xs)) = refl
regroup (Some front) None (Some rest) = refl
regroup (Some front) (Some x) (Some None) = refl
regroup {A} (Some front) (Some x) (Some (Some xs)) = ap (λ (all : List A). Some (Some all)) (sym (append_assoc front (x ∷ []) xs))

-- a part whose form is right
pub part_read : {A : Type 0} (front : Option (List A)) (x : Option A) (rest total : Option (Option (List A)))
    → made_before front (in_front (Some x) rest) ≡ total → made_before (behind front x) rest ≡ total
part_read front x rest total so_far = sym (regroup front x rest) ∙ so_far

-- no part is left
pub parts_read : {A : Type 0} (front : Option (List A)) (total : Option (Option (List A))) → made_before front (Some (Some [])) ≡ total → total ≡ Some front
parts_read None total so_far = sym so_far
parts_read {A} (Some front) total so_far = sym so_far ∙ ap (λ (all : List A). Some (Some all)) (append-nil front)

-- what is left doesn't fit
pub left_unfit : {A : Type 0} (front : Option (List A)) (total : Option (Option (List A))) → made_before front (Some None) ≡ total → total ≡ Some None
left_unfit None total so_far = sym so_far
left_unfit (Some front) total so_far = sym so_far

-- ---- the ends of loops

-- no parameter and no value is left
pub values_read : (front : Option (List Tree)) (ps : List Parameter) (ds : List Json) (i : ℕ) (total : Option (Option (List Tree)))
    → length ps ≤ i → length ds ≤ i → made_before front (each_value (drop i ps) (items_view (drop i ds))) ≡ total → total ≡ Some front
values_read front ps ds i total ps_le ds_le so_far = parts_read front total (rw (drop_of_length-le ps ps_le, drop_of_length-le ds ds_le) at so_far)

unmatched : (front : Option (List Tree)) (ps : List Parameter) (ds : List Json) (total : Option (Option (List Tree)))
    → min (length ps) (length ds) ≡ 0 → length ps ≢ length ds → made_before front (each_value ps (items_view ds)) ≡ total → total ≡ Some None
unmatched front [] [] total h differ so_far = absurd (omega arith)
unmatched front [] (d ∷ ds) total h differ so_far = left_unfit front total so_far
unmatched front (p ∷ ps) [] total h differ so_far = left_unfit front total so_far
unmatched front (p ∷ ps) (d ∷ ds) total h differ so_far = absurd (omega arith)

-- parameters or values are left, and not both
pub values_unmatched : (front : Option (List Tree)) (ps : List Parameter) (ds : List Json) (i : ℕ) (total : Option (Option (List Tree)))
    → i ≡ min (length ds) (length ps) → length ds ≢ length ps → made_before front (each_value (drop i ps) (items_view (drop i ds))) ≡ total
    → total ≡ Some None
values_unmatched front ps ds i total is differ so_far =
    unmatched front (drop i ps) (drop i ds) total (omega (arith, length-drop i ps, length-drop i ds)) (omega (arith, length-drop i ps, length-drop i ds)) so_far
