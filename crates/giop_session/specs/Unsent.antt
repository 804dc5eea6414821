-- Messages of a call that are still to be sent.
use Rattle.std.specs.Prelude.{List, [], ◌∷◌, Option, Some, None}

-- the first of a list, if it has one
abbrev pub first_of : {A : Type 0} → List A → Option A
first_of [] = None
first_of (x ∷ xs) = Some x
