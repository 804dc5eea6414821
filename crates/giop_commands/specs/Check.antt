-- What a run of `check` does: a server's end hears the octets of a file.
use Rattle.std.specs.Prelude.{◌≡◌, ◌≢◌, ◌≤◌, ◌^◌, ◌⊎◌, ℕ, ◌==◌, Bool, true, false, List, [], ◌++◌, Option, Some, None, Result, Ok, Err, ⊤, if◌then◌else◌, length}
use Rattle.std.specs.FinMap as finite
use Rattle.std.specs.List.{list_all}
use Rattle.std.specs.Io.KnownBytes.{Appends}
use Rattle.giop_ids.specs.ById.{ById}
use Rattle.giop_msg.specs.declared.msg.Msg.{Msg}
use Rattle.giop_msg.specs.Stream.{Unread}
use Rattle.giop_json.specs.declared.form_fault.FormFault.{FormFault}
use Rattle.giop_types.specs.declared.interfaces.interface.Interface.{Interface}
use Rattle.giop_json.specs.DescFromJson.{json_in}
use Rattle.giop_json.specs.InterfaceFromJson.{interface_told, interface_view}
use Rattle.giop_calls.specs.declared.server.entry.ServerEntry.{ServerEntry}
use Rattle.giop_calls.specs.declared.server.entry.ServerEntry.TheVariants.{Undecoded}
use Rattle.giop_calls.specs.declared.server.rule.ServerRule.{ServerRule}
use Rattle.giop_calls.specs.ServerTable.{server_step, is_closed, is_gathering}
use Rattle.giop_end.specs.declared.limits.Limits.{Limits}
use Rattle.giop_end.specs.declared.session_fault.SessionFault.{SessionFault}
use Rattle.giop_end.specs.declared.session_fault.SessionFault.TheVariants.{Closed, NoMemory}
use Rattle.giop_table.specs.declared.slot.Slot.{Slot}
use Rattle.giop_end.specs.Ends.Begun.{no_calls}
use Rattle.giop_table.specs.CallTable.{Held}
use Rattle.giop_table.specs.Sending.{entry_of}
use Rattle.giop_end.specs.Hearing.Feeding.{Fed, with_octets}
use Rattle.giop_end.specs.Hearing.Heard.{hears_by, in_call}
use Rattle.giop_end.specs.Hearing.ServerHears.{server_act, server_breaks}
use Rattle.giop_show.specs.declared.status.Status.{Status}
use Rattle.giop_show.specs.declared.status.Status.TheVariants.{Done, Refused, InputOutput, Memory}
use Rattle.giop_lines.specs.declared.refusal.RefusalLine.TheVariants.{Form}
use Rattle.giop_forms.specs.declared.line_form.LineForm.{LineForm}
use Rattle.giop_json.specs.declared.number_form.NumberForm.TheVariants.{Plain}
use Rattle.giop_forms.specs.declared.line_form.LineForm.TheVariants.{Text}
use Rattle.giop_show.specs.Forms.{ended, refused_in}
use Rattle.giop_commands.specs.Session.Faults.Lines.{last_in}
use Rattle.giop_commands.specs.Session.Faults.Broken.{broken_status}
use Rattle.giop_commands.specs.Session.Tables.Table.{server_entry_in, table_text}

-- the status of a session that ended with a fault: an orderly end is none of its own
abbrev pub fault_status : SessionFault → Status
fault_status Closed = Done
fault_status why = broken_status why

-- the status of an end with this fault, or with so many octets unread
abbrev pub last_status : Option SessionFault → ℕ → Status
last_status (Some why) unread = fault_status why
last_status None unread = if unread == 0 then Done else Refused

-- whether what stands for an id was decoded, as far as it is there
abbrev pub is_decoded : Option ServerEntry → Bool
is_decoded (Some (Undecoded call)) = false
is_decoded _ = true

-- whether all that stands in a table was decoded
abbrev pub all_decoded : ById (Slot ServerEntry) → Bool
all_decoded table = list_all (λ id. is_decoded (entry_of (finite.get table id))) (finite.keys table)

-- the status of a check where it is strict: what can't be decoded is refused too
abbrev pub strict_status : Bool → ById (Slot ServerEntry) → Status → Status
strict_status true table Done = if all_decoded table then Done else Refused
strict_status _ table status = status

-- what an end answers at which this fault stands
abbrev pub answer_of : Option SessionFault → Result (Unit {0}) SessionFault
answer_of (Some why) = Err why
answer_of None = Ok tt

-- an end that heard octets, by what its messages do: at first these are unread and these its calls,
-- in the end this fault stands, and these are its calls; octets are unread then of which the number
-- counts where no fault stands
pub record Hears {S : Type 0} (hears : Msg → S → Result (Unit {0}) SessionFault → S → Type 0)
    (octets : List ℕ) (unread : Unread) (calls : S) (fault : Option SessionFault) (left : Unread)
    (after : S) : Type 0 where
  pub behind : Unread
  pub fed : Fed hears (with_octets unread octets) calls (answer_of fault) behind after
  pub whole : fault ≡ None → behind ≡ left

-- an end hears the octets that a reader gives, where they are known
abbrev pub HeardKnown : {S : Type 0} → (Msg → S → Result (Unit {0}) SessionFault → S → Type 0)
    → Option (List ℕ) → Unread → S → Option SessionFault → Unread → S → Type 0
HeardKnown hears None unread calls fault left after = ⊤
HeardKnown hears (Some octets) unread calls fault left after =
    Hears hears octets unread calls fault left after

-- what a server of an interface does by a message
abbrev pub server_hears : Interface → Msg → Held ServerRule ServerEntry
    → Result (Unit {0}) SessionFault → Held ServerRule ServerEntry → Type 0
server_hears interface =
    hears_by (λ rule. server_step) (λ rule. is_closed) is_gathering in_call server_breaks
    (server_act interface)

-- limits that an end can be given: what it gathers is counted in 62 bits
abbrev pub AreLimits : Limits → Type 0
AreLimits limits = limits.gathered ≤ 2 ^ 62

-- the limits of an end where none are given
abbrev pub default_limits : Limits
default_limits = record { calls = 1024; message = 1048576; gathered = 8388608 }

-- nothing is read, by an end with these limits
abbrev pub nothing_read : Limits → Unread
nothing_read limits = record { limit = limits.message; octets = [] }

-- the text of a server's end: its table, and the last line
abbrev pub end_text : Interface → LineForm → Held ServerRule ServerEntry → Option SessionFault → ℕ
    → List ℕ
end_text interface form calls fault unread =
    table_text (server_entry_in form interface) calls.table ++ ended (last_in form fault unread)

-- a new server's end of an interface, with these limits, heard these octets and never wanted memory,
-- the writer's contents grew by its text, and this is its status, strictly or not
pub record IsChecked (interface : Interface) (limits : Limits) (strict : Bool) (form : LineForm)
    (octets : List ℕ) (old new : Option (List ℕ)) (status : Status) : Type 0 where
  pub fault : Option SessionFault
  pub left : Unread
  pub calls : Held ServerRule ServerEntry
  pub heard :
      Hears (server_hears interface) octets (nothing_read limits) (no_calls (record {}) limits) fault
      left calls
  pub memory : fault ≢ Some NoMemory
  pub text : Appends old new (end_text interface form calls fault (length left.octets))
  pub is : status ≡ strict_status strict calls.table (last_status fault (length left.octets))

-- what a check of these octets that isn't strict, told as text, does to the writer's contents, by
-- the status that it answers
abbrev pub Checks : Interface → Limits → List ℕ → Option (List ℕ) → Option (List ℕ) → Status
    → Type 0
Checks interface limits octets old new InputOutput = ⊤
Checks interface limits octets old new Memory = ⊤
Checks interface limits octets old new status =
    IsChecked interface limits false (Text Plain) octets old new status

-- what a check does of the octets that a reader gives, where they are known and nothing failed
abbrev pub ChecksKnown : Interface → Limits → Bool → LineForm → Option (List ℕ) → Option (List ℕ)
    → Option (List ℕ) → Status → Type 0
ChecksKnown interface limits strict form None old new status = ⊤
ChecksKnown interface limits strict form (Some octets) old new status =
    IsChecked interface limits strict form octets old new status

-- such a check by the interface that a JSON text is; where it is none, its fault is reported alone
abbrev pub ChecksText : List ℕ → Limits → Bool → LineForm → Option (List ℕ) → Option (List ℕ)
    → Option (List ℕ) → Status → Type 0
ChecksText text limits strict form octets old new status =
    ((interface : Interface) × (interface_told (json_in text) ≡ Ok (interface_view interface))
    × (interface.objects.entries ≡ [])
    × ChecksKnown interface limits strict form octets old new status)
    ⊎ ((status ≡ Refused) × ((e : FormFault) × (interface_told (json_in text) ≡ Err e)
    × Appends old new (ended (refused_in form (Form e)))))
