-- What C is told of an act of an end, and in which words it asks for one.
use Rattle.std.specs.Prelude.{◌≡◌, ◌⊎◌, ℕ, List, Option, Result, Ok, Err}
use Rattle.giop_cdr.specs.declared.fault.CdrFault.{CdrFault}
use Rattle.giop_cdr.specs.declared.fault.CdrKind.{CdrKind}
use Rattle.giop_cdr.specs.declared.fault.CdrKind.TheVariants as cdr
use Rattle.giop_cdr.specs.Faults.{cdr_kind_number}
use Rattle.giop_ior_text.specs.declared.ior_text_fault.IorTextFault.{IorTextFault}
use Rattle.giop_ior_text.specs.declared.ior_text_fault.IorTextFault.TheVariants as text
use Rattle.giop_json.specs.declared.form_fault.FormFault.{FormFault}
use Rattle.giop_json.specs.declared.form_fault.FormFault.TheVariants as json
use Rattle.giop_types.specs.declared.interfaces.parameters.Parameter.{Parameter}
use Rattle.giop_ior_text.specs.IorText.{ior_text_of}
use Rattle.giop_json.specs.FormFault.{form_fault_number}
use Rattle.giop_types.specs.Values.Tree.{Tree}
use Rattle.giop_ior.specs.Ior.{Reference, ior_layout}
use Rattle.giop_msg.specs.Messages.Alone.{values_alone}
use Rattle.giop_end.specs.declared.acts.form.Form.{Form}
use Rattle.giop_end.specs.declared.limits.Limits.{Limits}
use Rattle.giop_end.specs.declared.session_fault.SessionFault.{SessionFault}
use Rattle.giop_end.specs.declared.session_fault.SessionFault.TheVariants as session
use Rattle.giop_end.specs.Acts.Form.{IsForm}
use Rattle.giop_c.specs.declared.act_fault.ActFault.{ActFault}
use Rattle.giop_c.specs.declared.act_fault.ActFault.TheVariants as refused
use Rattle.giop_c.specs.declared.end_records.EndFault.{EndFault}
use Rattle.giop_c.specs.declared.end_records.EndLimits.{EndLimits}
use Rattle.giop_c.specs.declared.end_records.SendForm.{SendForm}
use Rattle.giop_c.specs.declared.value_form.ValueForm.{ValueForm}
use Rattle.giop_c.specs.declared.value_form.ValueForm.TheVariants.{Cdr, Json}
use Rattle.giop_c.specs.Calls.{At, ok, no_memory, fault}
use Rattle.giop_c.specs.EndRecords.{c_end_fault, c_order_of, end_status}
use Rattle.giop_c.specs.JsonValues.{values_of_text}

-- the limits that C says
abbrev pub limits_of : EndLimits → Limits
limits_of limits =
    record { calls = limits.calls; message = limits.message; gathered = limits.gathered }

-- the form that C says
abbrev pub form_of : SendForm → Form
form_of form = record { order = c_order_of form.little_endian; piece = form.piece }

-- what a call of an end answers, as C is told: a status; and the fault where it is refused
abbrev pub IsTold : Result (Unit {0}) SessionFault → EndFault → EndFault → ℕ → Type 0
IsTold (Ok done) f f' status = (status ≡ ok) × (f' ≡ f)
IsTold (Err why) f f' status = (status ≡ end_status why) × (f' ≡ c_end_fault why)

-- C is told what a call answers that does this
abbrev pub Tells : (Result (Unit {0}) SessionFault → Type 0) → EndFault → EndFault → ℕ → Type 0
Tells Does f f' status =
    (answer : Result (Unit {0}) SessionFault) × Does answer × IsTold answer f f' status

-- an act at a handle, which tells its answer; where the handle holds nothing, the fault is kept
abbrev pub ToldAt : {T : Type 0} → Option T → Option T
    → (T → Result (Unit {0}) SessionFault → T → Type 0) → EndFault → EndFault → ℕ → Type 0
ToldAt held held' Does f f' status =
    At held held' status (f' ≡ f) (λ old new. Tells (λ answer. Does old answer new) f f' status)

-- the fault of a reference's text, as C sees it: 13, where the text isn't `IOR:` and digits; 14, where
-- the octets that it says are no reference
abbrev pub c_reference_fault : IorTextFault → EndFault
c_reference_fault text.NoMemory = c_end_fault session.NoMemory
c_reference_fault (text.Cdr e) =
    record { at = e.at; number = 14; part = cdr_kind_number e.kind; id = 0 }
c_reference_fault text.BadPrefix = record { at = 0; number = 13; part = 1; id = 0 }
c_reference_fault text.BadHex = record { at = 0; number = 13; part = 2; id = 0 }

-- the fault of a JSON text, as C sees it: 15, where it isn't the values
abbrev pub c_json_fault : FormFault → EndFault
c_json_fault json.NoMemory = c_end_fault session.NoMemory
c_json_fault e = record { at = 0; number = 15; part = form_fault_number e; id = 0 }

-- the fault of an act, as C sees it: that of the end; 11, where octets are no values; that of a JSON
-- text; 12, where messages can't be cut so; that of a reference's text
abbrev pub c_act_fault : ActFault → EndFault
c_act_fault (refused.End why) = c_end_fault why
c_act_fault (refused.Values e) =
    record { at = e.at; number = 11; part = cdr_kind_number e.kind; id = 0 }
c_act_fault (refused.Json e) = c_json_fault e
c_act_fault refused.Form = record { at = 0; number = 12; part = 0; id = 0 }
c_act_fault (refused.Reference e) = c_reference_fault e

-- its status
abbrev pub values_status : CdrKind → ℕ
values_status cdr.NoMemory = no_memory
values_status _ = fault

abbrev pub json_status : FormFault → ℕ
json_status json.NoMemory = no_memory
json_status _ = fault

abbrev pub reference_status : IorTextFault → ℕ
reference_status text.NoMemory = no_memory
reference_status _ = fault

abbrev pub act_status : ActFault → ℕ
act_status (refused.End why) = end_status why
act_status (refused.Values e) = values_status e.kind
act_status (refused.Json e) = json_status e
act_status refused.Form = fault
act_status (refused.Reference e) = reference_status e

-- C is told so
abbrev pub IsToldAct : Result (Unit {0}) ActFault → EndFault → EndFault → ℕ → Type 0
IsToldAct (Ok done) f f' status = (status ≡ ok) × (f' ≡ f)
IsToldAct (Err why) f f' status = (status ≡ act_status why) × (f' ≡ c_act_fault why)

abbrev pub TellsAct : (Result (Unit {0}) ActFault → Type 0) → EndFault → EndFault → ℕ → Type 0
TellsAct Does f f' status =
    (answer : Result (Unit {0}) ActFault) × Does answer × IsToldAct answer f f' status

-- an act at a handle, which tells its answer; where the handle holds nothing, the fault is kept
abbrev pub ActsAt : {T : Type 0} → Option T → Option T
    → (T → Result (Unit {0}) ActFault → T → Type 0) → EndFault → EndFault → ℕ → Type 0
ActsAt held held' Does f f' status =
    At held held' status (f' ≡ f) (λ old new. TellsAct (λ answer. Does old answer new) f f' status)

-- what an end answers
abbrev pub of_end : Result (Unit {0}) SessionFault → Result (Unit {0}) ActFault
of_end (Ok done) = Ok tt
of_end (Err why) = Err (refused.End why)

-- pieces of this size are refused; or it is done
abbrev pub InForm : {H : Type 0} → Form → H → Result (Unit {0}) ActFault → H → Type 0 → Type 0
InForm form old answer new Done =
    ((answer ≡ Err refused.Form) × (IsForm form → ⊥) × (new ≡ old)) ⊎ (IsForm form × Done)

-- memory ran out before it, and nothing has changed; or it is done
abbrev pub OrNot : {H : Type 0} → (Result (Unit {0}) SessionFault → Type 0) → H
    → Result (Unit {0}) ActFault → H → Type 0
OrNot Done old answer new =
    ((answer ≡ Err (refused.End session.NoMemory)) × (new ≡ old))
    ⊎ ((told : Result (Unit {0}) SessionFault) × (answer ≡ of_end told) × Done told)

-- the values of CDR octets, and of a JSON text
abbrev pub cdr_values : Result (List Tree) CdrFault → Result (List Tree) ActFault
cdr_values (Ok trees) = Ok trees
cdr_values (Err e) = Err (refused.Values e)

abbrev pub json_values : Result (List Tree) FormFault → Result (List Tree) ActFault
json_values (Ok trees) = Ok trees
json_values (Err e) = Err (refused.Json e)

-- the values of these parameters that octets are in a form, with nothing behind them; or why they
-- are refused
abbrev pub values_in : List Parameter → ValueForm → List ℕ → Result (List Tree) ActFault
values_in parameters (Cdr order) octets = cdr_values (values_alone parameters order octets)
values_in parameters Json octets = json_values (values_of_text parameters octets)

-- what is read is told, or its refusal; or memory ran out
abbrev pub IsReadAs : Result (List Tree) ActFault → Result (List Tree) ActFault → Type 0
IsReadAs reading (Ok trees) = reading ≡ Ok trees
IsReadAs reading (Err why) = (reading ≡ Err why) ⊎ (act_status why ≡ no_memory)

-- the values of these parameters are refused; or memory ran out; or they are read, and it is done
-- with them
abbrev pub ReadsValues : {H : Type 0} → List Parameter → ValueForm → List ℕ
    → (List Tree → Type 0) → H → Result (Unit {0}) ActFault → H → Type 0
ReadsValues parameters form octets Done old answer new =
    ((why : ActFault) × (answer ≡ Err why) × (new ≡ old)
    × IsReadAs (values_in parameters form octets) (Err why))
    ⊎ ((trees : List Tree) × (values_in parameters form octets ≡ Ok trees) × Done trees)

-- the text is no reference (7.6.9); or memory ran out; or it is this reference, and it is done with it
abbrev pub ReadsReference : {H : Type 0} → List ℕ → (Reference → Type 0) → H
    → Result (Unit {0}) ActFault → H → Type 0
ReadsReference octets Done old answer new =
    ((e : IorTextFault) × (answer ≡ Err (refused.Reference e)) × (new ≡ old)
    × ((ior_text_of ior_layout.read octets ≡ Err e) ⊎ (e ≡ text.NoMemory)))
    ⊎ ((ior : Reference) × (ior_text_of ior_layout.read octets ≡ Ok ior) × Done ior)
