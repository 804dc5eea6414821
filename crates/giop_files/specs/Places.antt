-- Where a refused text is at fault, as giop_where tells it.
use Rattle.std.specs.Prelude.{◌≡◌, ◌⊎◌, ℕ, List, ◌∷◌, Some, map}
use Rattle.serde_json.specs.Data.{Data}
use Rattle.giop_json.specs.declared.form_fault.FormFault.{FormFault}
use Rattle.giop_json.specs.DescFromJson.{json_in}
use Rattle.giop_where.specs.declared.place.Place.{Place}
use Rattle.giop_where.specs.declared.role.Role.{Role}
use Rattle.giop_where.specs.Alone.{fault_code}
use Rattle.giop_where.specs.First.{IsPlace}
use Rattle.giop_where.specs.Parts.{Portion, key, step_view}

-- a part of this role, by what it is judged by and its JSON value
abbrev pub part_of : Role → Data → Data → Portion
part_of role beside content = record { role = role; beside = beside; content = content }

-- a part that is judged by itself
abbrev pub whole_of : Role → Data → Portion
whole_of role content = part_of role content content

-- a place tells the first fault of this kind in a text of this role, which is judged by another
-- text: a value by that of its description, any other by itself
abbrev pub IsPlaceIn : Role → List ℕ → List ℕ → FormFault → Place → Type 0
IsPlaceIn role beside text fault place =
    (b : Data) × (d : Data) × (json_in beside ≡ Some b) × (json_in text ≡ Some d)
    × IsPlace (fault_code fault) (part_of role b d) place

-- a place tells the first fault of this number in a part, from the whole in which the part stands
-- under a key
abbrev pub IsPlaceUnder : List ℕ → ℕ → Portion → Place → Type 0
IsPlaceUnder name number part place =
    (inner : Place) × IsPlace number part inner
    × (map step_view place.path.items ≡ key name ∷ map step_view inner.path.items)
    × (place.role ≡ inner.role)

-- the same, or it tells the first fault of this number in the whole
abbrev pub IsPlaceInWhole : List ℕ → ℕ → Portion → Portion → Place → Type 0
IsPlaceInWhole name number part whole place =
    IsPlaceUnder name number part place ⊎ IsPlace number whole place
