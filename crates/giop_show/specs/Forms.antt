-- What a command tells in a form: as lines of text, or as lines of JSON.
use Rattle.std.specs.Prelude.{ℕ, List, [], ◌∷◌, ◌++◌, Option, Some, None, codes}
use Rattle.giop_lines.specs.declared.refusal.RefusalLine.{RefusalLine}
use Rattle.giop_lines.specs.ConvertJson.{refusal_json}
use Rattle.giop_lines.specs.ConvertLines.{refusal_line}
use Rattle.giop_forms.specs.declared.line_form.LineForm.{LineForm}
use Rattle.giop_forms.specs.declared.line_form.LineForm.TheVariants.{Text, Json}

-- a line and its newline
abbrev pub ended : List ℕ → List ℕ
ended line = line ++ 10 ∷ []

-- a part of what is told: a line of text, or members of the JSON line
abbrev pub part_in : LineForm → List ℕ → List ℕ → List ℕ
part_in (Text numbers) text json = ended text
part_in (Json numbers) text json = json

-- a line without its newline, of text or of JSON
abbrev pub line_in : LineForm → List ℕ → List ℕ → List ℕ
line_in (Text numbers) text json = text
line_in (Json numbers) text json = json

-- what ends an object within a JSON line, and what ends a JSON line that is written in parts
abbrev pub closed_in : LineForm → List ℕ
closed_in (Text numbers) = []
closed_in (Json numbers) = codes "}"

abbrev pub ended_in : LineForm → List ℕ
ended_in (Text numbers) = []
ended_in (Json numbers) = ended (codes "}")

-- what is told where the text and the JSON are known
abbrev pub told_in : (List ℕ → List ℕ → List ℕ) → Option (List ℕ) → Option (List ℕ) → Option (List ℕ)
told_in told (Some text) (Some json) = Some (told text json)
told_in told (Some text) None = None
told_in told None json = None

-- a refusal
abbrev pub refused_in : LineForm → RefusalLine → List ℕ
refused_in form line = line_in form (refusal_line line) (refusal_json line)
