-- Steps that are taken one after another, each for an item of a list, up to the first that stops.
use Rattle.std.specs.Prelude.{◌≡◌, ◌⊎◌, ℕ, ◌<◌, List, [], ◌∷◌, ◌++◌, length, Option, Some, None}

-- a step is taken for each of these items
abbrev pub Each : {A S : Type 0} → (A → S → S → Type 0) → List A → S → S → Type 0
Each Step [] s t = t ≡ s
Each {A} {S} Step (item ∷ items) s t = (mid : S) × Step item s mid × Each Step items mid t

-- a step for an item leads from one state to another, and returns a fault where it stops
module _ {A S F : Type 0} (Step : A → S → Option F → S → Type 0) where
  -- one of these is the first that stops, with this fault
  pub record StopsAt (items : List A) (s : S) (why : F) (t : S) : Type 0 where
    pub before : List A
    pub item : A
    pub behind : List A
    pub mid : S
    pub parts : items ≡ before ++ item ∷ behind
    pub each : Each (λ item s t. Step item s None t) before s mid
    pub stops : Step item mid (Some why) t

  -- a step is taken for each, or up to the first that stops, whose fault is returned
  abbrev pub Upto : List A → S → Option F → S → Type 0
  Upto items s None t = Each (λ item s t. Step item s None t) items s t
  Upto items s (Some why) t = StopsAt items s why t

-- such steps, taken so many times, each by its number
module _ {S F : Type 0} (Step : ℕ → S → Option F → S → Type 0) where
  -- so many steps are taken, or fewer and one that stops, whose fault is returned
  abbrev pub Times : ℕ → S → Option F → S → Type 0
  Times n s None t =
      (steps : List ℕ) × (length steps ≡ n) × Each (λ step s t. Step step s None t) steps s t
  Times n s (Some why) t =
      (steps : List ℕ) × (mid : S) × (length steps < n)
      × Each (λ step s t. Step step s None t) steps s mid × Step (length steps) mid (Some why) t

module _ {S F : Type 0} (First Then : S → Option F → S → Type 0) where
  -- one thing is done, and then another unless the first stops
  abbrev pub AndThen : S → Option F → S → Type 0
  AndThen s None t = (mid : S) × First s None mid × Then mid None t
  AndThen s (Some why) t =
      First s (Some why) t ⊎ ((mid : S) × First s None mid × Then mid (Some why) t)
