-- Where a refused text is at fault, as giop_where tells it.
use Rattle.std.specs.Prelude.{◌≡◌, ℕ, List, Some}
use Rattle.serde_json.specs.Data.{Data}
use Rattle.giop_types.specs.declared.json.form_fault.FormFault.{FormFault}
use Rattle.giop_types.specs.JsonForms.DescFromJson.{json_in}
use Rattle.giop_where.specs.declared.place.Place.{Place}
use Rattle.giop_where.specs.declared.role.Role.{Role}
use Rattle.giop_where.specs.Alone.{fault_code}
use Rattle.giop_where.specs.First.{IsPlace}

-- a place tells the first fault of this kind in a text of this role, which is judged by another text:
-- a value by that of its description, any other by itself
abbrev pub IsPlaceIn : Role → List ℕ → List ℕ → FormFault → Place → Type 0
IsPlaceIn role beside text fault place =
    (b : Data) × (d : Data) × (json_in beside ≡ Some b) × (json_in text ≡ Some d)
    × IsPlace (fault_code fault) (record { role = role; beside = b; content = d }) place
