-- The values of parameters in the form in which they cross to C: as CDR octets that stand by
-- themselves (CORBA 3.3 Part 2, 9.3), or as a JSON text (docs/FORMATS.md).
use Rattle.std.specs.Prelude.{◌≡◌, ◌⊎◌, ℕ, ◌==◌, if◌then◌else◌, List, Option, Some, None, true, false}
use Rattle.giop_cdr.specs.declared.order.Order.TheVariants.{Big, Little}
use Rattle.giop_types.specs.declared.interfaces.interface.Interface.{Interface}
use Rattle.giop_types.specs.declared.interfaces.interface.Operation.{Operation}
use Rattle.giop_types.specs.declared.interfaces.parameters.Parameter.{Parameter}
use Rattle.giop_types.specs.Values.Fits.{fields_fit}
use Rattle.giop_types.specs.Values.Tree.{Tree}
use Rattle.giop_msg.specs.declared.messages.request.Request.{Request}
use Rattle.giop_msg.specs.Messages.Alone.{octets_alone}
use Rattle.giop_msg.specs.Messages.Body.{fields_in}
use Rattle.giop_msg.specs.Messages.Request.{operation_asked}
use Rattle.giop_c.specs.declared.value_form.ValueForm.{ValueForm}
use Rattle.giop_c.specs.declared.value_form.ValueForm.TheVariants.{Cdr, Json}
use Rattle.giop_c.specs.Calls.{no_memory, fault}
use Rattle.giop_c.specs.Copying.{CopiesOctets}
use Rattle.giop_c.specs.JsonValues.{text_of_values}

-- the form of a number: 0 is CDR in big endian, 2 is JSON, and any other is CDR in little endian
abbrev pub c_value_form : ℕ → ValueForm
c_value_form n = if n == 0 then Cdr Big else (if n == 2 then Json else Cdr Little)

-- the octets of values of these parameters in a form
abbrev pub octets_in : ValueForm → List Parameter → List Tree → List ℕ
octets_in (Cdr order) parameters trees = octets_alone parameters order trees
octets_in Json parameters trees = text_of_values parameters trees

-- they are copied, where the values are those of the parameters; or they aren't, or memory ran out
abbrev pub CopiesValues : List Parameter → List Tree → ValueForm → List ℕ → List ℕ → ℕ → ℕ → ℕ
    → Type 0
CopiesValues parameters trees form buffer buffer' size size' status =
    ((fields_fit (fields_in parameters) trees ≡ true)
    × CopiesOctets (Some (octets_in form parameters trees)) buffer buffer' size size' status)
    ⊎ (((status ≡ no_memory)
    ⊎ ((status ≡ fault) × (fields_fit (fields_in parameters) trees ≡ false)))
    × (buffer' ≡ buffer) × (size' ≡ size))

-- the ins of a Request of an operation
abbrev pub CopiesInsOf : Option Operation → List Tree → ValueForm → List ℕ → List ℕ → ℕ → ℕ → ℕ
    → Type 0
CopiesInsOf None trees form = CopiesOctets None
CopiesInsOf (Some operation) trees form = CopiesValues operation.ins.list.items trees form

-- the ins of a Request, where there is one
abbrev pub CopiesIns : Interface → Option Request → ValueForm → List ℕ → List ℕ → ℕ → ℕ → ℕ
    → Type 0
CopiesIns interface None form = CopiesOctets None
CopiesIns interface (Some q) form =
    CopiesInsOf (operation_asked interface q.head) q.body form
