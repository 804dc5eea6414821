-- How `call` ends: what it did, and what is left where its input ends.
use Rattle.std.specs.Prelude.{ℕ, List, Option}
use Rattle.giop_calls.specs.ClientTable as client
use Rattle.giop_asked_calls.specs.declared.calls.CallLine.{CallLine}
use Rattle.giop_calling.specs.declared.call.given.Calling.{Calling}
use Rattle.giop_forms.specs.declared.line_form.LineForm.{LineForm}
use Rattle.giop_commands.specs.declared.session.ending.Ending.{Ending}
use Rattle.giop_calling.specs.Call.Streaming as calling
use Rattle.giop_calling.specs.Call.Calling.{Asked, asked_of}
use Rattle.giop_calling.specs.Call.Printed.{IsCalled}
use Rattle.giop_commands.specs.Session.Printed.{Wire, told, wire}
use Rattle.giop_commands.specs.Session.Traffic.{Traffic}
use Rattle.giop_commands.specs.Session.Endings.{Ends}

-- what `call` did, told in a form, and how it ended
pub record CallsEnd (asked : Asked) (lines : LineForm) (before after : Wire)
    (old new : Option (List ℕ)) (ending : Ending) : Type 0 where
  pub called : IsCalled asked lines before after old new ending.status
  pub ends :
      Ends client.is_closed (told called.refused called.fault) called.left.table called.unread
      ending

-- the same of `call --stream`
pub record CallsStreamEnd (asked : Asked) (lines : LineForm) (before after : Wire)
    (old new : Option (List ℕ)) (ending : Ending) : Type 0 where
  pub streamed : calling.IsStreamed asked lines before after old new ending.status
  pub ends :
      Ends client.is_closed (told streamed.refused streamed.fault) streamed.still.table
      streamed.unread ending

-- ---- by what passed

abbrev pub CallsEndOver : Calling → List CallLine → Traffic → Ending → Type 0
CallsEndOver calling calls over =
    CallsEnd (asked_of calling calls) calling.lines (wire over.input.before over.output.before)
    (wire over.input.after over.output.after) over.text.before over.text.after

abbrev pub CallsStreamEndOver : Calling → List CallLine → Traffic → Ending → Type 0
CallsStreamEndOver calling calls over =
    CallsStreamEnd (asked_of calling calls) calling.lines
    (wire over.input.before over.output.before) (wire over.input.after over.output.after)
    over.text.before over.text.after
