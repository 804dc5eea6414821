-- What is printed of a session, and what it reads and writes.
use Rattle.std.specs.Prelude.{ℕ, List, [], ◌++◌, Option, Some, None}
use Rattle.giop_ids.specs.ById.{ById}
use Rattle.giop_end.specs.declared.session_fault.SessionFault.{SessionFault}
use Rattle.giop_table.specs.declared.slot.Slot.{Slot}
use Rattle.giop_forms.specs.declared.line_form.LineForm.{LineForm}
use Rattle.giop_show.specs.Forms.{ended}
use Rattle.giop_commands.specs.Session.Faults.Lines.{session_fault_in}
use Rattle.giop_commands.specs.Session.Tables.Table.{table_text}

-- the line of the fault that ended a session, where one did, in a form
abbrev pub fault_text : LineForm → Option SessionFault → List ℕ
fault_text lines (Some why) = ended (session_fault_in lines why)
fault_text lines None = []

-- the table of an end, and the fault that ended its session
abbrev pub session_text : {E : Type 0} → LineForm → (ℕ → E → List ℕ) → ById (Slot E)
    → Option SessionFault → List ℕ
session_text lines line table fault = table_text line table ++ fault_text lines fault

-- the fault that is reported: that of the call which was refused at this end, else the end's own
abbrev pub told : Option SessionFault → Option SessionFault → Option SessionFault
told (Some why) fault = Some why
told None fault = fault

-- what a session reads and writes: the octets that its reader will still give, and those that its
-- writer holds, where they are known
pub record Wire : Type 0 where
  pub input : Option (List ℕ)
  pub output : Option (List ℕ)

abbrev pub wire : Option (List ℕ) → Option (List ℕ) → Wire
wire input output = record { input = input; output = output }
