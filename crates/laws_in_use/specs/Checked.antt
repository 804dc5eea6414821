-- A file without octets, and a text that is no interface, as `check` tells them.
use Rattle.std.specs.Prelude.{ℕ, List, [], ◌∷◌, ◌++◌, codes}
use Rattle.giop_json.specs.declared.number_form.NumberForm.TheVariants.{Plain}
use Rattle.giop_forms.specs.declared.line_form.LineForm.{LineForm}
use Rattle.giop_forms.specs.declared.line_form.LineForm.TheVariants.{Text}

-- lines of text
abbrev pub as_text : LineForm
as_text = Text Plain

-- nothing is unread
abbrev pub nothing_left : List ℕ
nothing_left = codes "rest 0" ++ 10 ∷ []

-- an octet that no text in UTF-8 begins with, and what is told of it as an interface
abbrev pub not_utf8 : List ℕ
not_utf8 = 255 ∷ []

abbrev pub no_json : List ℕ
no_json = codes "fault 1 BadJson" ++ 10 ∷ []
