-- What a checked description says.
use Rattle.giop_types.specs.declared.description.checked_desc.CheckedDesc.{CheckedDesc}
use Rattle.giop_types.specs.Descriptions.Shape.{Shape}
use Rattle.giop_types.specs.Values.Views.{desc_view}

abbrev pub checked_shape : CheckedDesc → Shape
checked_shape checked = desc_view checked.desc
