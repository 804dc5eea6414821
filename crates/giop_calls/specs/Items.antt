-- What was said of one call, as a list of items, and the acts of either end that spell them.
use Rattle.std.specs.Prelude.{◌≡◌, ◌⊎◌, Bool, true, false, if◌then◌else◌, List, [], ◌∷◌, ◌++◌, Result, IsOk}
use Rattle.std.specs.List.{AllByRecursion}
use Rattle.giop_ids.specs.Runs.{Done, alone, told_alone, left, told}

-- how an end hears its messages, whole or piece by piece: Act is what may befall a call there, V
-- what is stored for its id, Beginning what a first piece says, and Message all of one
pub record Wording (V Act Beginning Message : Type 0) : Type 1 where
  pub whole : Message → Act
  pub first : Beginning → Act
  -- a message begins so
  pub Begins : Beginning → Message → Type 0
  -- a Fragment behind which more come, and the last one of a message
  pub Further : Act → Type 0
  pub Last : Message → Act → Type 0
  -- a last Fragment behind a cancel, of which nobody asks what it completes
  pub Ends : Act → Type 0
  -- the call was cancelled
  pub WasCancelled : V → Type 0
  -- an act of the end itself, which is answered to its caller
  pub is_own : Act → Bool

-- a message that came whole; the beginning of one that didn't; the Fragments that came behind a
-- cancel, with the last one or without; and an act that is always in one piece, as a cancel
pub data Item (Act Beginning Message : Type 0) : Type 0 where
  Got : Message → Item Act Beginning Message
  Began : Beginning → Item Act Beginning Message
  Rest : Bool → Item Act Beginning Message
  Does : Act → Item Act Beginning Message

module _ {V Act Answer Why Beginning Message : Type 0}
    (turn : V → Act → Result (Done V Answer) Why)
    (words : Wording V Act Beginning Message) where
  -- these acts spell the item, where this stands: a message comes in one piece or in many
  abbrev pub Spells : V → Item Act Beginning Message → List Act → Type 0
  Spells v (Got message) acts = (acts ≡ words.whole message ∷ [])
      ⊎ ((begun : Beginning) × (more : List Act) × (last : Act) × words.Begins begun message
      × AllByRecursion words.Further more × words.Last message last
      × (acts ≡ words.first begun ∷ more ++ last ∷ []))
  Spells v (Began begun) acts = (more : List Act) × AllByRecursion words.Further more
      × (acts ≡ words.first begun ∷ more)
  Spells v (Rest false) acts = words.WasCancelled v × AllByRecursion words.Further acts
  Spells v (Rest true) acts = (more : List Act) × (last : Act) × words.WasCancelled v
      × AllByRecursion words.Further more × words.Ends last × (acts ≡ more ++ last ∷ [])
  Spells v (Does act) acts = acts ≡ act ∷ []

  -- these acts spell the items in turn, from this on
  abbrev pub Carries : V → List (Item Act Beginning Message) → List Act → Type 0
  Carries v [] acts = acts ≡ []
  Carries v (item ∷ items) acts = (one rest : List Act) × (acts ≡ one ++ rest)
      × Spells v item one × Carries (alone turn v one) items rest

  -- what the end's own acts among these are answered
  abbrev pub answers : V → List Act → List (Result Answer Why)
  answers v [] = []
  answers v (act ∷ acts) = if words.is_own act
      then told (turn v act) ∷ answers (left v (turn v act)) acts
      else answers (left v (turn v act)) acts

  -- these acts spell the items, and none of them is refused
  abbrev pub Says : V → List (Item Act Beginning Message) → List Act → Type 0
  Says v items acts = Carries v items acts × AllByRecursion IsOk (told_alone turn v acts)

  -- two lists of acts leave the same, and the end's own acts get the same answers
  abbrev pub AreAlike : V → List Act → List Act → Type 0
  AreAlike v one other =
      (alone turn v one ≡ alone turn v other) × (answers v one ≡ answers v other)
