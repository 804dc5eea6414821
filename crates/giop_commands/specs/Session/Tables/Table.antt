-- The table of the calls of an end, and what `check` prints of an end.
use Rattle.std.specs.Prelude.{ℕ, ◌++◌, List, [], Option, Some, None}
use Rattle.std.specs.List.{flat_map}
use Rattle.std.specs.FinMap as finite
use Rattle.giop_ids.specs.ById.{ById}
use Rattle.giop_types.specs.declared.interfaces.interface.Interface.{Interface}
use Rattle.giop_calls.specs.declared.server.entry.ServerEntry.{ServerEntry}
use Rattle.giop_calls.specs.declared.client.entry.ClientEntry.{ClientEntry}
use Rattle.giop_table.specs.declared.slot.Slot.{Slot}
use Rattle.giop_table.specs.Sending.{entry_of}
use Rattle.giop_commands.specs.Session.Tables.Bodies.{brought_text, ins_text}
use Rattle.giop_forms.specs.declared.line_form.LineForm.{LineForm}
use Rattle.giop_show.specs.Forms.{ended, line_in}
use Rattle.giop_forms.specs.Forms.{numbers_of}
use Rattle.giop_commands.specs.Session.Tables.Shown.{entry_object, entry_shown}
use Rattle.giop_call_lines.specs.SessionJson.{client_json}
use Rattle.giop_call_lines.specs.TableLines.{client_line, server_line}

-- the line of what is stored for an id at a server of an interface, with its target where objects
-- are told apart, and at a client, in a form
abbrev pub server_entry_in : LineForm → Interface → ℕ → ServerEntry → List ℕ
server_entry_in lines interface id entry =
    line_in lines
    (server_line id entry (ins_text (numbers_of lines) interface entry)
    ++ entry_shown lines interface entry)
    (entry_object id entry (ins_text (numbers_of lines) interface entry)
    (entry_shown lines interface entry))

abbrev pub client_entry_in : LineForm → Interface → ℕ → ClientEntry → List ℕ
client_entry_in lines interface id entry =
    line_in lines (client_line id entry (brought_text (numbers_of lines) interface entry))
    (client_json id entry (brought_text (numbers_of lines) interface entry))

-- a line for an entry, where there is one
abbrev pub entry_text : {E : Type 0} → (E → List ℕ) → Option E → List ℕ
entry_text line (Some entry) = ended (line entry)
entry_text line None = []

-- the line of what is stored for an id
abbrev pub text_at : {E : Type 0} → (ℕ → E → List ℕ) → ById (Slot E) → ℕ → List ℕ
text_at line table id = entry_text (line id) (entry_of (finite.get table id))

-- a line for each id for which something is stored, ascending
abbrev pub table_text : {E : Type 0} → (ℕ → E → List ℕ) → ById (Slot E) → List ℕ
table_text line table = flat_map (text_at line table) (finite.keys table)
