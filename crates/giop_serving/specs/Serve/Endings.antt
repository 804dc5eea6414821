-- How `serve` ends with a connection: what it did, and what is left where its input ends.
use Rattle.std.specs.Prelude.{ℕ, List, Option}
use Rattle.giop_calls.specs.ServerTable as server
use Rattle.giop_serving.specs.declared.serve.given.Serving.{Serving}
use Rattle.giop_serving.specs.declared.serve.in_turn.AnswerName.{AnswerName}
use Rattle.giop_serving.specs.declared.serve.in_turn.Passed.{Passed}
use Rattle.giop_forms.specs.declared.line_form.LineForm.{LineForm}
use Rattle.giop_commands.specs.declared.session.ending.Ending.{Ending}
use Rattle.giop_serving.specs.Serve.Serving.{Served, served_of}
use Rattle.giop_serving.specs.Serve.Printed.{IsServed}
use Rattle.giop_commands.specs.Session.Printed.{Wire, told, wire}
use Rattle.giop_commands.specs.Session.Traffic.{Traffic}
use Rattle.giop_serving.specs.Serve.Streaming as serving
use Rattle.giop_commands.specs.Session.Endings.{Ends}

-- what `serve` did with a connection, told in a form, and how it ended; before and behind it these
-- answers of lists are passed
pub record ServesEnd (number : ℕ) (it : Served) (lines : LineForm) (before after : Wire)
    (old_passed new_passed : List AnswerName) (old new : Option (List ℕ)) (ending : Ending) : Type 0 where
  pub served : IsServed number it lines before after old_passed new_passed old new ending.status
  pub ends :
      Ends server.is_closed (told served.refused served.fault) served.left.table served.unread
      ending

-- the same of `serve --stream`
pub record ServesStreamEnd (number : ℕ) (it : Served) (lines : LineForm) (before after : Wire)
    (old_passed new_passed : List AnswerName) (old new : Option (List ℕ)) (ending : Ending) : Type 0 where
  pub streamed : serving.IsStreamed number it lines before after old_passed new_passed old new ending.status
  pub ends :
      Ends server.is_closed (told streamed.refused streamed.fault) streamed.left.table
      streamed.unread ending

-- ---- by what passed

abbrev pub ServesEndOver : ℕ → Serving → (old new : Passed) → Traffic → Ending → Type 0
ServesEndOver number serving old new over =
    ServesEnd number (served_of serving) serving.lines
    (wire over.input.before over.output.before) (wire over.input.after over.output.after)
    old.names.items new.names.items over.text.before over.text.after

abbrev pub ServesStreamEndOver : ℕ → Serving → (old new : Passed) → Traffic → Ending → Type 0
ServesStreamEndOver number serving old new over =
    ServesStreamEnd number (served_of serving) serving.lines
    (wire over.input.before over.output.before) (wire over.input.after over.output.after)
    old.names.items new.names.items over.text.before over.text.after
