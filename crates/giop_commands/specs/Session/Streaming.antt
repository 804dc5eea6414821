-- What `serve --stream` and `call --stream` do with the calls that are over: after each turn they
-- are told, in ascending order of their ids, and taken out.
use Rattle.std.specs.Prelude.{◌≡◌, ℕ, Bool, false, List, [], ◌∷◌, take, Option, Some, None, if◌then◌else◌}
use Rattle.std.specs.FinMap as finite
use Rattle.std.specs.List.{flat_map}
use Rattle.std.specs.Io.KnownBytes.{Appends}
use Rattle.giop_ids.specs.ById.{ById, put}
use Rattle.giop_table.specs.declared.slot.Slot.{Slot}
use Rattle.giop_table.specs.CallTable.{Held}
use Rattle.giop_table.specs.Sending.{entry_of}
use Rattle.giop_types.specs.declared.interfaces.interface.Interface.{Interface}
use Rattle.giop_commands.specs.declared.session.given.Showing.{Showing}
use Rattle.giop_forms.specs.declared.line_form.LineForm.{LineForm}
use Rattle.giop_commands.specs.Session.Tables.Table.{text_at}

-- of calls that are over by this
module _ {E : Type 0} (closed : E → Bool) where
  -- whether something is stored, of a call that is over
  abbrev pub has_ended : Option E → Bool
  has_ended (Some entry) = closed entry
  has_ended None = false

  abbrev pub ended_at : ById (Slot E) → ℕ → Bool
  ended_at table id = has_ended (entry_of (finite.get table id))

  -- the line of what is stored for an id, where its call is over
  abbrev pub over_at : (ℕ → E → List ℕ) → ById (Slot E) → ℕ → List ℕ
  over_at line table id = if ended_at table id then text_at line table id else []

  -- a line for each id whose call is over, ascending
  abbrev pub over_text : (ℕ → E → List ℕ) → ById (Slot E) → List ℕ
  over_text line table = flat_map (over_at line table) (finite.keys table)

  -- a table without what is stored for an id, where its call is over
  abbrev pub without_ended : ℕ → ById (Slot E) → ById (Slot E)
  without_ended id table = if ended_at table id then put table id None else table

  -- a table without the calls of these ids that are over
  abbrev pub without_over : List ℕ → ById (Slot E) → ById (Slot E)
  without_over [] table = table
  without_over (id ∷ ids) table = without_over ids (without_ended id table)

  -- of the calls of these ids that are over, those of the first ids are out, and all others stay
  abbrev pub OutInPart : List ℕ → ById (Slot E) → ById (Slot E) → Type 0
  OutInPart ids old new = (n : ℕ) × (new ≡ without_over (take n ids) old)

  -- and they are those that have their lines
  abbrev pub ToldInPart :
      (ℕ → E → List ℕ) → List ℕ → ById (Slot E) → ById (Slot E) → Option (List ℕ) → Option (List ℕ) → Type 0
  ToldInPart line ids old new was now =
      (n : ℕ) × (new ≡ without_over (take n ids) old)
      × Appends was now (flat_map (over_at line old) (take n ids))

-- of the calls of an end, by which are over at its side and how they are told there, those of the
-- first of these ids have their lines and are out
abbrev pub SomeTold : {R E : Type 0} → (R → E → Bool) → (LineForm → Interface → ℕ → E → List ℕ)
    → Showing → List ℕ → (old new : Held R E) → (was now : Option (List ℕ)) → Type 0
SomeTold closed told showing ids old new =
    ToldInPart (closed old.rule) (told showing.lines showing.interface.now) ids old.table new.table

-- the lines of those of these ids whose calls are over
abbrev pub over_lines : {R E : Type 0} → (R → E → Bool) → (LineForm → Interface → ℕ → E → List ℕ)
    → Showing → List ℕ → Held R E → List ℕ
over_lines closed told showing ids calls =
    flat_map (over_at (closed calls.rule) (told showing.lines showing.interface.now) calls.table) ids
