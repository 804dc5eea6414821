-- What contracts see of the parts of an interface whose descriptions are still to be checked.
use Rattle.std.specs.Prelude.{ℕ, List, map}
use Rattle.giop_json.specs.declared.interface_form.OperationForm.{OperationForm}
use Rattle.giop_json.specs.declared.interface_form.ParametersForm.{ParametersForm}
use Rattle.giop_json.specs.InterfaceFromJson.{Signature}
use Rattle.giop_types.specs.Values.Views.{Named, named_view}

-- parameters
abbrev pub parameters_form_view : ParametersForm → List Named
parameters_form_view form = map named_view form.list.items

-- an operation
abbrev pub operation_form_view : OperationForm → Signature
operation_form_view form = record {
  oneway = form.oneway;
  ins = parameters_form_view form.ins;
  outs = parameters_form_view form.outs;
}

-- an operation and its name
abbrev pub operation_entry : List ℕ × OperationForm → List ℕ × Signature
operation_entry e = (e.0, operation_form_view e.1)

-- the members of an exception and its id
abbrev pub exception_entry : List ℕ × ParametersForm → List ℕ × List Named
exception_entry e = (e.0, parameters_form_view e.1)
