-- What is wrong with a header (CORBA 3.3 Part 2, 9.4.1), and how it is reported.
use Rattle.std.specs.Prelude.{ℕ, Bool, List, [], ◌∷◌, ◌++◌, codes, Option, Some, None, if◌then◌else◌}
use Rattle.std.specs.Fmt.{decimal}
use Rattle.giop_msg.specs.declared.fault.WireFault.{WireFault}
use Rattle.giop_msg.specs.declared.fault.WireKind.{WireKind}
use Rattle.giop_msg.specs.declared.fault.WireKind.TheVariants.{BadMagic, BadVersion, ReservedFlags, BadKind, TooLarge, BadSize, FragmentSize, NotFragmentable, NoMemory}

-- the number of a kind of fault, in the order in which headers are judged
abbrev pub wire_kind_number : WireKind → ℕ
wire_kind_number BadMagic = 1
wire_kind_number BadVersion = 2
wire_kind_number ReservedFlags = 3
wire_kind_number BadKind = 4
wire_kind_number TooLarge = 5
wire_kind_number BadSize = 6
wire_kind_number FragmentSize = 7
wire_kind_number NotFragmentable = 8
wire_kind_number NoMemory = 9

-- the name of a kind of fault
abbrev pub wire_kind_name : WireKind → List ℕ
wire_kind_name BadMagic = codes "BadMagic"
wire_kind_name BadVersion = codes "BadVersion"
wire_kind_name ReservedFlags = codes "ReservedFlags"
wire_kind_name BadKind = codes "BadKind"
wire_kind_name TooLarge = codes "TooLarge"
wire_kind_name BadSize = codes "BadSize"
wire_kind_name FragmentSize = codes "FragmentSize"
wire_kind_name NotFragmentable = codes "NotFragmentable"
wire_kind_name NoMemory = codes "NoMemory"

-- a fault, as it is printed: the name of its kind, and its offset
abbrev pub wire_fault_text : WireFault → List ℕ
wire_fault_text e = wire_kind_name e.kind ++ (codes " at " ++ decimal e.at)

-- a fault of this kind at this offset
abbrev pub fault : ℕ → WireKind → WireFault
fault at kind = record { at = at; kind = kind }

-- a test that fails a header, with the fault that it then has
pub record Test : Type 0 where
  pub fails : Bool
  pub fault_is : WireFault

abbrev pub test : Bool → ℕ → WireKind → Test
test fails at kind = record { fails = fails; fault_is = fault at kind }

-- the fault of the first test that fails
abbrev pub first_failing : List Test → Option WireFault
first_failing [] = None
first_failing (t ∷ tests) = if t.fails then Some t.fault_is else first_failing tests
