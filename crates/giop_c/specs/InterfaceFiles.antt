-- The interface that a file says (docs/FORMATS.md). Types may have names in it: then it is the one
-- that its plain form says, in which none has.
use Rattle.std.specs.Prelude.{Option, Result, Ok, Err}
use Rattle.serde_json.specs.Data.{Data}
use Rattle.giop_json.specs.declared.form_fault.FormFault.{FormFault}
use Rattle.giop_json.specs.InterfaceFromJson.{Offer, interface_told}
use Rattle.giop_names.specs.Interface.{plain_told, told}

-- the interface that a plain form says, where there is one; else why there is none
abbrev pub of_plain : Result (Option Data) FormFault → Result Offer FormFault
of_plain (Ok plain) = interface_told plain
of_plain (Err e) = Err e

-- the interface that a text of JSON says
abbrev pub interface_said : Option Data → Result Offer FormFault
interface_said file = of_plain (told (plain_told file))
