-- Values as the text of a JSON list, each by the description of its parameter.
use Rattle.std.specs.Prelude.{ℕ, List, [], ◌∷◌, if◌then◌else◌}
use Rattle.serde_json.specs.Data.{Data, array, null}
use Rattle.serde_json.specs.View.{items_of}
use Rattle.serde_json.specs.Written.{compact_text}
use Rattle.giop_json.specs.declared.number_form.NumberForm.{NumberForm}
use Rattle.giop_types.specs.declared.interfaces.parameters.Parameter.{Parameter}
use Rattle.giop_types.specs.Descriptions.CheckedShape.{checked_shape}
use Rattle.giop_types.specs.Descriptions.Shape.{Shape}
use Rattle.giop_json.specs.ToJson.{to_data}
use Rattle.giop_types.specs.Values.Fits.{fits}
use Rattle.giop_types.specs.Values.Tree.{Tree}

-- a value by its description; null where it is none of it, as no decoded value is
abbrev pub value_data : NumberForm → Shape → Tree → Data
value_data numbers shape tree = if fits shape tree then to_data numbers shape tree else null

-- values, each by the description of its parameter
abbrev pub each_data : NumberForm → List Parameter → List Tree → List Data
each_data numbers (parameter ∷ parameters) (tree ∷ trees) =
    value_data numbers (checked_shape parameter.desc) tree
    ∷ each_data numbers parameters trees
each_data numbers [] trees = []
each_data numbers (parameter ∷ parameters) [] = []

-- values as a JSON list
abbrev pub values_data : NumberForm → List Parameter → List Tree → Data
values_data numbers parameters trees = array (items_of (each_data numbers parameters trees))

abbrev pub values_text : NumberForm → List Parameter → List Tree → List ℕ
values_text numbers parameters trees = compact_text (values_data numbers parameters trees)
