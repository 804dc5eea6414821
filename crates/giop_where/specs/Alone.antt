-- A part that stands alone: the smallest file that holds it, and how giop_json refuses that
-- (docs/FORMATS.md).
use Rattle.std.specs.Prelude.{ℕ, ◌+◌, codes, List, Some, Result, Ok, Err}
use Rattle.serde_json.specs.Data.{Data, array, object, string, item, no_items, put, no_members}
use Rattle.giop_json.specs.declared.form_fault.FormFault.{FormFault}
use Rattle.giop_json.specs.declared.form_fault.FormFault.TheVariants.{BadDesc}
use Rattle.giop_types.specs.Descriptions.DescFaults.{desc_fault_number}
use Rattle.giop_types.specs.Descriptions.Shape.{Shape}
use Rattle.giop_types.specs.Values.Tree.{Tree}
use Rattle.giop_json.specs.FormFault.{form_fault_number}
use Rattle.giop_json.specs.FromJson.{from_data}
use Rattle.giop_json.specs.DescFromJson.{desc_told}
use Rattle.giop_json.specs.InterfaceFromJson.{interface_told}
use Rattle.giop_where.specs.declared.role.Role.{Role}
use Rattle.giop_where.specs.declared.role.Role.TheVariants as is
use Rattle.giop_where.specs.Parts.{Portion}

-- ---- the smallest file

-- an object of one member, and one of two
abbrev pub only : List ℕ → Data → Data
only k d = object (put k d no_members)

abbrev pub both : List ℕ → Data → List ℕ → Data → Data
both k d l e = object (put l e (put k d no_members))

-- a list of one item
abbrev pub list_of : Data → Data
list_of d = array (item d no_items)

-- an interface of one operation, `a`
abbrev pub offering : Data → Data
offering operation = only (codes "operations") (only (codes "a") operation)

-- a list of a case: its labels, the name `a`, and an octet
abbrev pub case_of : Data → Data
case_of labels = list_of (array (item labels
    (item (string (codes "a")) (item (string (codes "octet")) no_items))))

-- a union of these cases
abbrev pub union_of : Data → Data → Data
union_of cases disc = both (codes "cases") cases (codes "union") disc

-- the smallest file of a part; of a value there is none
abbrev pub file_of : Role → Data → Data → Data
file_of is.Operations beside d = only (codes "operations") d
file_of is.Operation beside d = offering d
file_of is.Parameters beside d = offering (only (codes "ins") d)
file_of is.Parameter beside d = offering (only (codes "ins") (list_of d))
file_of is.Oneway beside d = offering (only (codes "oneway") d)
file_of is.Exceptions beside d =
    both (codes "exceptions") d (codes "operations") (object no_members)
file_of is.Unknown beside d = only (codes "?") d
file_of is.Names beside d = only (codes "enum") d
file_of is.Name beside d = only (codes "enum") (list_of d)
file_of is.Bound beside d = only (codes "string") d
file_of is.Length beside d =
    both (codes "array") (string (codes "octet")) (codes "length") d
file_of is.Members beside d = only (codes "struct") d
file_of is.Member beside d = only (codes "struct") (list_of d)
file_of is.Cases beside d = union_of d beside
file_of is.Case beside d = union_of (list_of d) beside
file_of is.Labels beside d = union_of (case_of d) beside
file_of is.Label beside d = union_of (case_of (list_of d)) beside
file_of _ beside d = d

-- ---- how it is refused

-- a fault as a number: its own, but of a description's fault 10 more than that has
abbrev pub fault_code : FormFault → ℕ
fault_code (BadDesc fault) = 10 + desc_fault_number fault
fault_code e = form_fault_number e

-- the number of a refusal, and 0 of what isn't refused
abbrev pub refusal : {A : Type 0} → Result A FormFault → ℕ
refusal (Ok x) = 0
refusal (Err e) = fault_code e

-- the refusal of a file of an interface, of a description, and of a value by its description
abbrev pub interface_refusal : Data → ℕ
interface_refusal file = refusal (interface_told (Some file))

abbrev pub desc_refusal : Data → ℕ
desc_refusal file = refusal (desc_told (Some file))

abbrev pub value_told : Result Shape FormFault → Data → Result Tree FormFault
value_told (Ok s) d = from_data s d
value_told (Err e) d = Err e

abbrev pub value_refusal : Data → Data → ℕ
value_refusal desc d = refusal (value_told (desc_told (Some desc)) d)

-- by which file a part is judged when it stands alone; what is judged by others is by none
pub data Judge : Type 0 where
  by_none : Judge
  by_interface : Judge
  by_description : Judge
  by_value : Judge

abbrev pub judge_of : Role → Judge
judge_of is.Nothing = by_none
judge_of is.Arguments = by_none
judge_of is.Calls = by_none
judge_of is.Call = by_none
judge_of is.Offered = by_none
judge_of is.Answers = by_none
judge_of is.Answer = by_none
judge_of is.Raised = by_none
judge_of is.Completion = by_none
judge_of is.Forward = by_none
judge_of is.Value = by_value
judge_of is.Interface = by_interface
judge_of is.Operations = by_interface
judge_of is.Operation = by_interface
judge_of is.Parameters = by_interface
judge_of is.Parameter = by_interface
judge_of is.Oneway = by_interface
judge_of is.Exceptions = by_interface
judge_of is.Unknown = by_interface
judge_of _ = by_description

-- the refusal by a judge
abbrev pub refused_by : Judge → Role → Data → Data → ℕ
refused_by by_none role beside d = 0
refused_by by_value role beside d = value_refusal beside d
refused_by by_interface role beside d = interface_refusal (file_of role beside d)
refused_by by_description role beside d = desc_refusal (file_of role beside d)

-- the refusal of a part that stands alone
abbrev pub alone : Portion → ℕ
alone p = refused_by (judge_of p.role) p.role p.beside p.content
