-- Acts by id: what each does, what is stored for one id alone, and what a run of many leaves.
use Rattle.std.specs.Prelude.{◌≡◌, ℕ, ◌==◌, if◌then◌else◌, Bool, true, false, List, [], ◌∷◌, Option, Some, None, Result, Ok, Err, IfOk, IfErr, ◌⊎◌}
use Rattle.std.specs.List.{AllByRecursion}
use Rattle.std.specs.FinMap as finite
use Rattle.giop_ids.specs.declared.addressed.Addressed.{Addressed}
use Rattle.giop_ids.specs.ById.{ById}
use Rattle.giop_ids.specs.ById as by_id

-- what is addressed to this id, in order
abbrev pub own : {X : Type 0} → ℕ → List (Addressed X) → List X
own id [] = []
own id (one ∷ rest) = if one.id == id then one.what ∷ own id rest else own id rest

-- what an accepted act does: what is stored for its id then, and what it answers
pub record Done (V Answer : Type 0) : Type 0 where
  pub now : V
  pub answer : Answer

-- what is stored for the id then: a refused act leaves what was stored
abbrev pub left : {V Answer Why : Type 0} → V → Result (Done V Answer) Why → V
left v (Ok done) = done.now
left v (Err why) = v

-- what the act returns: its answer, or why it is refused
abbrev pub told : {V Answer Why : Type 0} → Result (Done V Answer) Why → Result Answer Why
told (Ok done) = Ok done.answer
told (Err why) = Err why

module _ {V Act Answer Why : Type 0} (turn : V → Act → Result (Done V Answer) Why) where
  -- what is stored for an id that meets these acts and no others
  abbrev pub alone : V → List Act → V
  alone v [] = v
  alone v (act ∷ acts) = alone (left v (turn v act)) acts

  -- and what each of them returns
  abbrev pub told_alone : V → List Act → List (Result Answer Why)
  told_alone v [] = []
  told_alone v (act ∷ acts) = told (turn v act) ∷ told_alone (left v (turn v act)) acts

-- how a state is kept by id: what is stored for an id, and the state with that changed; what an act
-- does there; when a limit of the whole state refuses an act all the same; and how out of memory is
-- returned
pub record Rules (S V Act Answer Why : Type 0) : Type 0 where
  pub at : S → ℕ → V
  pub put : S → ℕ → V → S
  pub turn : V → Act → Result (Done V Answer) Why
  pub limit : S → Addressed Act → Option Why
  pub memory : Why

-- such rules where the state is a finite map
abbrev pub table_rules : {V Act Answer Why : Type 0}
    → (Option V → Act → Result (Done (Option V) Answer) Why)
    → (ById V → Addressed Act → Option Why) → Why → Rules (ById V) (Option V) Act Answer Why
table_rules turn limit memory = record {
  at = finite.get;
  put = by_id.put;
  turn = turn;
  limit = limit;
  memory = memory;
}

-- what is done, where no limit is met: the id's own refusal comes first
abbrev pub within : {D Why : Type 0} → Option Why → Result D Why → Result D Why
within over (Err why) = Err why
within None (Ok done) = Ok done
within (Some why) (Ok done) = Err why

-- why it is refused, if it is
abbrev pub refusal_of : {A Why : Type 0} → Result A Why → Option Why
refusal_of (Ok a) = None
refusal_of (Err why) = Some why

-- it is refused for what was found, or as out of memory where nothing was
abbrev pub RefusedAs : {Why : Type 0} → (memory why : Why) → Option Why → Type 0
RefusedAs memory why found = (found ≡ Some why) ⊎ ((why ≡ memory) × (found ≡ None))

module _ {S V Act Answer Why : Type 0} (rules : Rules S V Act Answer Why) where
  -- what the act does under its id, limits aside
  abbrev pub turn_of : S → Addressed Act → Result (Done V Answer) Why
  turn_of s act = rules.turn (rules.at s act.id) act.what

  -- what it does, or why it is refused, out of memory aside
  abbrev pub judged : S → Addressed Act → Result (Done V Answer) Why
  judged s act = within (rules.limit s act) (turn_of s act)

  -- the state after an act that meets no limit: one id has changed
  abbrev pub after : S → Addressed Act → S
  after s act = rules.put s act.id (left (rules.at s act.id) (turn_of s act))

  -- the state after these acts, whosever they are
  abbrev pub all_after : S → List (Addressed Act) → S
  all_after s [] = s
  all_after s (act ∷ acts) = all_after (after s act) acts

  -- what each of them returns, with its id
  abbrev pub all_told : S → List (Addressed Act) → List (Addressed (Result Answer Why))
  all_told s [] = []
  all_told s (act ∷ acts) =
      record { id = act.id; what = told (turn_of s act) } ∷ all_told (after s act) acts

  -- what a call with this result leaves: a refused one changes nothing
  abbrev pub became : S → Addressed Act → Result Answer Why → S
  became s act (Ok answer) = after s act
  became s act (Err why) = s

  -- a call does this act with this result, and leaves t
  pub record Does (s : S) (act : Addressed Act) (result : Result Answer Why) (t : S) : Type 0 where
    pub answer : IfOk result (λ answer. told (judged s act) ≡ Ok answer)
    pub refusal : IfErr result (λ why. RefusedAs rules.memory why (refusal_of (judged s act)))
    pub leaves : t ≡ became s act result

  -- a run of calls does these acts with these results, one for each, and leaves t: it continues
  -- after refusals
  abbrev pub Runs : S → List (Addressed Act) → List (Result Answer Why) → S → Type 0
  Runs s [] [] t = t ≡ s
  Runs s [] (result ∷ results) t = ⊥
  Runs s (act ∷ acts) [] t = ⊥
  Runs s (act ∷ acts) (result ∷ results) t =
      (mid : S) × Does s act result mid × Runs mid acts results t

-- the results of a run, each under the id of its act
abbrev pub addressed : {X R : Type 0} → List (Addressed X) → List R → List (Addressed R)
addressed [] results = []
addressed (act ∷ acts) [] = []
addressed (act ∷ acts) (result ∷ results) =
    record { id = act.id; what = result } ∷ addressed acts results

-- the acts that were accepted
abbrev pub accepted : {X Answer Why : Type 0}
    → List (Addressed X) → List (Result Answer Why) → List (Addressed X)
accepted [] results = []
accepted (act ∷ acts) [] = []
accepted (act ∷ acts) (Ok answer ∷ results) = act ∷ accepted acts results
accepted (act ∷ acts) (Err why ∷ results) = accepted acts results

-- a change for one id leaves what is stored for each other
abbrev pub IsApart : {S V Act Answer Why : Type 0} → Rules S V Act Answer Why → Type 0
IsApart {S} {V} rules = (s : S) (id : ℕ) (v : V) (q : ℕ)
    → rules.at (rules.put s id v) q ≡ (if q == id then v else rules.at s q)

-- whether an act was accepted, or refused for its id's own sake
abbrev pub is_own : {Answer Why : Type 0} → (Why → Bool) → Result Answer Why → Bool
is_own of_id (Ok answer) = true
is_own of_id (Err why) = of_id why

-- refusals that are an id's own are distinguished from those of a limit and of memory
pub record Distinguishes {S V Act Answer Why : Type 0} (rules : Rules S V Act Answer Why)
    (of_id : Why → Bool) : Type 0 where
  pub limits : (s : S) (act : Addressed Act) (why : Why)
      → rules.limit s act ≡ Some why → of_id why ≡ false
  pub memory : of_id rules.memory ≡ false

-- the acts of this id met no limit, and none was out of memory
abbrev pub MeetsNoLimit : {Act Answer Why : Type 0} → (Why → Bool) → ℕ
    → List (Addressed Act) → List (Result Answer Why) → Type 0
MeetsNoLimit of_id id acts results =
    AllByRecursion (λ result. is_own of_id result ≡ true) (own id (addressed acts results))
