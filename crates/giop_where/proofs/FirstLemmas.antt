-- Paths that are made step by step.
use Rattle.std.proofs.Common.{◌≡◌, ◌++◌, ◌∷◌, [], ℕ, List, map, Some, None, ap, subst, refl}
use Rattle.std.proofs.lemmas.List.{append-nil}
use Rattle.giop_where.specs.Parts.{Portion, Way, step_view}
use Rattle.giop_where.specs.First.{first_part, IsFirst}
use Rattle.giop_where.specs.declared.step.Step.{Step}

-- what a path leads to from a part, it leads to by one step more from the part before
pub led_further : (n : ℕ) (p r q : Portion) (w : Way) (path : List Way)
    → first_part n p ≡ Some (w, r) → IsFirst n r path q → IsFirst n p (w ∷ path) q
led_further n p r q w path step h = record { led = (r, step, h.led); own = h.own }

-- a part of which no part is refused is the end of its path
pub ended : (n : ℕ) (p : Portion) → first_part n p ≡ None → IsFirst n p [] p
ended n p own = record { led = refl; own = own }

-- a step behind others, and the path behind it
pub regrouped : (steps : List Step) (s : Step) (path : List Way)
    → map step_view (steps ++ s ∷ []) ++ path ≡ map step_view steps ++ step_view s ∷ path
regrouped [] s path = refl
regrouped (t ∷ steps) s path = ap (λ (ws : List Way). step_view t ∷ ws) (regrouped steps s path)

-- the path so far goes on by a step, and what it leads to behind that
pub stepped : (n : ℕ) (root p r : Portion) (steps : List Step) (s : Step)
    → first_part n p ≡ Some (step_view s, r)
    → ((path : List Way) (q : Portion) → IsFirst n p path q → IsFirst n root (map step_view steps ++ path) q)
    → (path : List Way) (q : Portion) → IsFirst n r path q
    → IsFirst n root (map step_view (steps ++ s ∷ []) ++ path) q
stepped n root p r steps s step so_far path q h =
    rw (regrouped steps s path)
    (so_far (step_view s ∷ path) q (led_further n p r q (step_view s) path step h))

-- the path so far is all of it
pub arrived : (n : ℕ) (root p : Portion) (steps : List Step) → first_part n p ≡ None
    → ((path : List Way) (q : Portion) → IsFirst n p path q → IsFirst n root (map step_view steps ++ path) q)
    → IsFirst n root (map step_view steps) p
arrived n root p steps own so_far =
    subst (λ (ws : List Way). IsFirst n root ws p) (append-nil (map step_view steps)) (so_far [] p (ended n p own))
