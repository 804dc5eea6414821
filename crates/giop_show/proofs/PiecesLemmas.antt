-- Readers whose octets may be known: calls that keep them, and one that takes some.
use Rattle.std.proofs.Common.{ℕ, List, Option, Some, None, Result, Ok, Err, refl, ◌∙◌, subst}
use Rattle.std.specs.Io.KnownBytes.{Keeps, ReadConsumes}

pub Keeps-refl : (a : Option (List ℕ)) → Keeps a a
Keeps-refl None = tt
Keeps-refl (Some xs) = refl

pub Keeps-trans : (a b c : Option (List ℕ)) → Keeps a b → Keeps b c → Keeps a c
Keeps-trans None b c first second = tt
Keeps-trans (Some xs) None c first second = absurd first
Keeps-trans (Some xs) (Some ys) None first second = absurd second
Keeps-trans (Some xs) (Some ys) (Some zs) first second = second ∙ first

-- a read behind calls that keep the octets
pub Keeps-read : {E : Type 0} (a b c : Option (List ℕ)) (r : Result ℕ E) (piece : List ℕ) → Keeps a b → ReadConsumes b c r piece → ReadConsumes a c r piece
Keeps-read None b c (Ok n) piece kept taken = (tt, taken.1)
Keeps-read None b c (Err e) piece kept taken = tt
Keeps-read (Some xs) None c r piece kept taken = absurd kept
Keeps-read (Some xs) (Some ys) c r piece kept taken = subst (λ u. ReadConsumes (Some u) c r piece) kept taken
