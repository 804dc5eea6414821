-- How refusals are reported: their numbers, and their names.
use Rattle.std.specs.Prelude.{ℕ, List, codes, ◌++◌}
use Rattle.std.specs.Fmt.{decimal}
use Rattle.giop_cdr.specs.declared.encode_fault.EncodeFault.{EncodeFault}
use Rattle.giop_cdr.specs.declared.encode_fault.EncodeFault.TheVariants as writing
use Rattle.giop_cdr.specs.declared.fault.CdrFault.{CdrFault}
use Rattle.giop_cdr.specs.declared.fault.CdrKind.{CdrKind}
use Rattle.giop_cdr.specs.declared.fault.CdrKind.TheVariants.{Short, BadBoolean, BadString, BadCount, BadLabel, BadOrder}
use Rattle.giop_cdr.specs.declared.fault.CdrKind.TheVariants.{BoundPassed, Trailing, NoMemory}

-- the number of a kind of refusal
abbrev pub cdr_kind_number : CdrKind → ℕ
cdr_kind_number Short = 1
cdr_kind_number BadBoolean = 2
cdr_kind_number BadString = 3
cdr_kind_number BadCount = 4
cdr_kind_number BadLabel = 5
cdr_kind_number BadOrder = 6
cdr_kind_number BoundPassed = 7
cdr_kind_number Trailing = 8
cdr_kind_number NoMemory = 9

-- the name of a kind of refusal
abbrev pub cdr_kind_name : CdrKind → List ℕ
cdr_kind_name Short = codes "Short"
cdr_kind_name BadBoolean = codes "BadBoolean"
cdr_kind_name BadString = codes "BadString"
cdr_kind_name BadCount = codes "BadCount"
cdr_kind_name BadLabel = codes "BadLabel"
cdr_kind_name BadOrder = codes "BadOrder"
cdr_kind_name BoundPassed = codes "BoundPassed"
cdr_kind_name Trailing = codes "Trailing"
cdr_kind_name NoMemory = codes "NoMemory"

-- a refusal as a person reads it: its name, and its place
abbrev pub cdr_fault_text : CdrFault → List ℕ
cdr_fault_text e = cdr_kind_name e.kind ++ (codes " at " ++ decimal e.at)

-- the number of a refusal to write
abbrev pub encode_fault_number : EncodeFault → ℕ
encode_fault_number writing.Unfit = 1
encode_fault_number writing.NoMemory = 2

-- the name of a refusal to write
abbrev pub encode_fault_name : EncodeFault → List ℕ
encode_fault_name writing.Unfit = codes "Unfit"
encode_fault_name writing.NoMemory = codes "NoMemory"
