-- What befell one call, the latest first, and what each act of it is.
use Rattle.std.specs.Prelude.{Bool, if◌then◌else◌, List, [], ◌∷◌, Option, Some, None}

-- acts in the order in which they happened, put before those that happened earlier
abbrev pub latest_first : {A : Type 0} → List A → List A → List A
latest_first past [] = past
latest_first past (act ∷ acts) = latest_first (act ∷ past) acts

-- an act behind those of a call; where no call began there is none to speak of
abbrev pub onto : {A : Type 0} → A → List A → List A
onto act [] = []
onto act (one ∷ past) = act ∷ one ∷ past

-- the acts of the latest call: from its beginning on
abbrev pub latest : {A : Type 0} → (A → Bool) → List A → List A
latest begins [] = []
latest begins (act ∷ past) = if begins act then act ∷ [] else onto act (latest begins past)

-- the one that was there first
abbrev pub earlier : {A : Type 0} → Option A → A → Option A
earlier (Some one) other = Some one
earlier None other = Some other
