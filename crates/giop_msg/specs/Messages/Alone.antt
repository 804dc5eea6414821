-- The values of parameters as CDR octets that stand by themselves (CORBA 3.3 Part 2, 9.3): the
-- first octet has the offset 0, by which all are aligned, and nothing stands behind the last.
use Rattle.std.specs.Prelude.{◌≡◌, ◌⊎◌, ℕ, List, [], Result, Ok, Err, IsOk}
use Rattle.giop_cdr.specs.declared.order.Order.{Order}
use Rattle.giop_cdr.specs.declared.fault.CdrFault.{CdrFault}
use Rattle.giop_cdr.specs.declared.fault.CdrKind.TheVariants.{NoMemory}
use Rattle.giop_cdr.specs.Ending.{ended}
use Rattle.giop_cdr.specs.Reading.Values.{fault}
use Rattle.giop_types.specs.declared.interfaces.parameters.Parameter.{Parameter}
use Rattle.giop_types.specs.Coding.Spells.{SpellsFields}
use Rattle.giop_types.specs.Coding.Written.{fields_out}
use Rattle.giop_types.specs.Values.Tree.{Tree}
use Rattle.giop_msg.specs.Messages.Body.{fields_in, values}

-- octets spell the values of these parameters, one after the other as a struct's members
abbrev pub SpellsAlone : List Parameter → Order → List Tree → List ℕ → Type 0
SpellsAlone parameters order trees octets = SpellsFields (fields_in parameters) order 0 trees octets

-- the values that octets are, or the first field of them that is refused, or what is left
abbrev pub values_alone : List Parameter → Order → List ℕ → Result (List Tree) CdrFault
values_alone parameters order octets =
    (ended (values parameters)).read (record { order = order; at = 0; rest = octets })

-- the octets that are written of values
abbrev pub octets_alone : List Parameter → Order → List Tree → List ℕ
octets_alone parameters order trees =
    (fields_out (fields_in parameters) trees (record { order = order; at = 0; octets = [] })).octets

-- out of memory, for the values as a whole
abbrev pub no_memory : CdrFault
no_memory = fault 0 NoMemory

-- these values are returned, or the call is out of memory
abbrev pub AreTold : Result (List Tree) CdrFault → List Tree → Type 0
AreTold (Ok told) trees = told ≡ trees
AreTold (Err e) trees = e ≡ no_memory

-- a call returns what reading gives; or it is out of memory, where reading gives values
abbrev pub DecodesAlone : Result (List Tree) CdrFault → Result (List Tree) CdrFault → Type 0
DecodesAlone (Ok trees) reading = reading ≡ Ok trees
DecodesAlone (Err e) reading = (reading ≡ Err e) ⊎ ((e ≡ no_memory) × IsOk reading)
