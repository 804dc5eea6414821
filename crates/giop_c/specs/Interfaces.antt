-- What the calls of an interface do, by the status that they answer.
use Rattle.std.specs.Prelude.{◌≡◌, ℕ, ◌⊎◌, ◌==◌, if◌then◌else◌, List, Option, Some, None, option_map, Result, Ok, Err}
use Rattle.std_alloc.specs.Arc.{arc_value}
use Rattle.giop_json.specs.declared.form_fault.FormFault.{FormFault}
use Rattle.giop_json.specs.declared.form_fault.FormFault.TheVariants.{BadDesc}
use Rattle.giop_types.specs.declared.interfaces.interface.Interface.{Interface}
use Rattle.giop_types.specs.declared.interfaces.parameters.Parameters.{Parameters}
use Rattle.giop_types.specs.Descriptions.DescFaults.{desc_fault_number}
use Rattle.giop_json.specs.FormFault.{form_fault_number}
use Rattle.giop_json.specs.InterfaceFromJson.{Offer, interface_view}
use Rattle.giop_types.specs.Values.Tree.{Tree}
use Rattle.giop_msg.specs.Messages.Reply.{exception_of}
use Rattle.giop_msg.specs.Messages.Request.{operation_of}
use Rattle.giop_c.specs.declared.act_fault.ActFault.{ActFault}
use Rattle.giop_c.specs.declared.end_records.EndFault.{EndFault}
use Rattle.giop_c.specs.declared.records.TextFault.{TextFault}
use Rattle.giop_c.specs.declared.shared.Shared.{Shared}
use Rattle.giop_c.specs.declared.value_form.ValueForm.{ValueForm}
use Rattle.giop_c.specs.Acts.{IsReadAs, IsToldAct, values_in}
use Rattle.giop_c.specs.Calls.{ok, no_memory, fault}
use Rattle.giop_c.specs.Copying.{CopiesOctets}
use Rattle.giop_c.specs.Values.{octets_in}

-- what the interface offers that a handle holds
abbrev pub shared_view : Shared → Offer
shared_view shared = interface_view (arc_value shared.interface)

-- the number of a description's fault, where that is what is wrong with a text
abbrev pub description_number : FormFault → ℕ
description_number (BadDesc e) = desc_fault_number e
description_number e = 0

-- why a text of JSON is refused: its number, and that of a description
abbrev pub c_text_fault : FormFault → TextFault
c_text_fault e = record { number = form_fault_number e; description = description_number e }

-- an interface is opened, the one that the text is, whatever the handle held; or the text is
-- refused and told so, or memory ran out, and the handle is as it was
abbrev pub OpensInterface : Result Offer FormFault → Option Shared → Option Shared
    → TextFault → TextFault → ℕ → Type 0
OpensInterface told old new f f' status =
    ((status ≡ ok) × (shared : Shared) × (new ≡ Some shared) × (told ≡ Ok (shared_view shared))
    × (f' ≡ f))
    ⊎ (((status ≡ fault) × (e : FormFault) × (told ≡ Err e) × (new ≡ old) × (f' ≡ c_text_fault e))
    ⊎ ((status ≡ no_memory) × (new ≡ old) × (f' ≡ f)))

-- ---- values in another form

-- which values: the ins of an operation, its outs, or the members of an exception; none, where the
-- interface hasn't it
abbrev pub parameters_of : Interface → ℕ → List ℕ → Option Parameters
parameters_of interface which name =
    if which == 0 then option_map (λ operation. operation.ins) (operation_of interface name)
    else (if which == 1
    then option_map (λ operation. operation.outs) (operation_of interface name)
    else exception_of interface name)

-- what is copied, and what is told: that the values are refused, or memory ran out; or they are
-- read, and copied in the other form, but for memory
abbrev pub ConvertsEach : Parameters → ValueForm → List ℕ → ValueForm → List ℕ → List ℕ → ℕ → ℕ
    → EndFault → EndFault → ℕ → Type 0
ConvertsEach parameters given octets wanted buffer buffer' size size' f f' status =
    ((why : ActFault) × IsReadAs (values_in parameters.list.items given octets) (Err why)
    × IsToldAct (Err why) f f' status × (buffer' ≡ buffer) × (size' ≡ size))
    ⊎ ((trees : List Tree) × (values_in parameters.list.items given octets ≡ Ok trees) × (f' ≡ f)
    × (CopiesOctets (Some (octets_in wanted parameters.list.items trees)) buffer buffer' size size'
    status
    ⊎ ((status ≡ no_memory) × (buffer' ≡ buffer) × (size' ≡ size))))

-- values of parameters are copied in another form, where there are such parameters
abbrev pub Converts : Option Parameters → ValueForm → List ℕ → ValueForm → List ℕ → List ℕ → ℕ → ℕ
    → EndFault → EndFault → ℕ → Type 0
Converts None given octets wanted buffer buffer' size size' f f' status =
    CopiesOctets None buffer buffer' size size' status × (f' ≡ f)
Converts (Some parameters) given octets wanted buffer buffer' size size' f f' status =
    ConvertsEach parameters given octets wanted buffer buffer' size size' f f' status
