-- The forms of what a command tells.
use Rattle.giop_json.specs.declared.number_form.NumberForm.{NumberForm}
use Rattle.giop_forms.specs.declared.line_form.LineForm.{LineForm}
use Rattle.giop_forms.specs.declared.line_form.LineForm.TheVariants.{Text, Json}

-- the form of whole numbers in values
abbrev pub numbers_of : LineForm → NumberForm
numbers_of (Text numbers) = numbers
numbers_of (Json numbers) = numbers
