-- A writer's contents that grow, where they are known.
use Rattle.std.proofs.Common.{ℕ, List, [], ◌++◌, Option, Some, None, ◌∙◌, ap, arith, append_assoc}
use Rattle.std.proofs.lemmas.Grind.{common_steps}
use Rattle.std.specs.Io.KnownBytes.{Appends, Keeps}

-- a writer's contents that grew by xs and then by ys grew by both
pub Appends-append : (a b c : Option (List ℕ)) (xs ys : List ℕ) → Appends a b xs → Appends b c ys → Appends a c (xs ++ ys)
Appends-append None b c xs ys p q = tt
Appends-append (Some a) None c xs ys p q = absurd p
Appends-append (Some a) (Some b) None xs ys p q = absurd q
Appends-append (Some a) (Some b) (Some c) xs ys p q = q ∙ ap (λ u. u ++ ys) p ∙ append_assoc a xs ys

-- they grew by nothing
pub Appends-nil : (a : Option (List ℕ)) → Appends a a []
Appends-nil None = tt
Appends-nil (Some a) = grind (arith, common_steps)

-- they grew, and were then kept
pub Appends-kept : (a b c : Option (List ℕ)) (xs : List ℕ) → Appends a b xs → Keeps b c → Appends a c xs
Appends-kept None b c xs grew kept = tt
Appends-kept (Some a) None c xs grew kept = absurd grew
Appends-kept (Some a) (Some b) None xs grew kept = absurd kept
Appends-kept (Some a) (Some b) (Some c) xs grew kept = kept ∙ grew
