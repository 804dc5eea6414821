-- How a table keeps its entries: in a slot in front and one slot for each other id, of which one is
-- empty only in the midst of a step.
use Rattle.std.specs.Prelude.{◌≡◌, ℕ, ◌≤◌, if◌then◌else◌, List, [], ◌∷◌, Option, Some, None, nat_lt}
use Rattle.std.specs.FinMap as finite
use Rattle.giop_ids.specs.ById.{ById, put}
use Rattle.giop_ids.specs.Slots.{entries_by, AreFull}
use Rattle.giop_mux.specs.declared.slots.Slots.{Slots}

-- the entries of the slots behind the one in front
abbrev pub entries_of : {E : Type 0} → List (ℕ × Option E) → ById E
entries_of slots = entries_by (λ slot. slot) slots

-- the slot that an entry stands in: none for none
abbrev pub as_slot : {E : Type 0} → Option E → Option (Option E)
as_slot None = None
as_slot (Some entry) = Some (Some entry)

-- no slot is empty
abbrev pub NoneEmpty : {E : Type 0} → List (ℕ × Option E) → Type 0
NoneEmpty slots = AreFull (λ slot. slot) slots

-- the entries of all slots
abbrev pub held : {E : Type 0} → Slots E → ById E
held slots = put (entries_of slots.others.entries) slots.id slots.front

-- the slot in front is the only one of its id, and no other slot is empty
pub record IsWhole {E : Type 0} (slots : Slots E) : Type 0 where
  pub full : NoneEmpty slots.others.entries
  pub apart : finite.get (entries_of slots.others.entries) slots.id ≡ None

-- between two calls the slots are whole, and there are no more entries than the limit
pub record IsTable {E : Type 0} (limit : ℕ) (slots : Slots E) : Type 0 where
  pub whole : IsWhole slots
  pub within : finite.len (held slots) ≤ limit

-- ids that ascend, with one more in its place among them
abbrev pub placed : ℕ → List ℕ → List ℕ
placed id [] = id ∷ []
placed id (other ∷ others) =
    if nat_lt other id then other ∷ placed id others else id ∷ other ∷ others
