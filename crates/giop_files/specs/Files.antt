-- The front of a file, and the files of interfaces by the keys of their objects.
use Rattle.std.specs.Prelude.{⊤, ℕ, List, Bool, Option, Some, not, is_none, nat_eq, ◌==◌, ◌||◌}
use Rattle.std.specs.Cmp.Lexicographic.{pointwise}
use Rattle.std.specs.List.{find}
use Rattle.std.specs.Option.{option_eq, option_map, option_or}
use Rattle.giop_files.specs.InterfaceText.{IsNoInterface}
use Rattle.giop_files.specs.declared.files.interfaces.Joined.{Joined}
use Rattle.giop_files.specs.declared.files.interfaces.Joined.TheVariants.{Whole, Refused}
use Rattle.giop_files.specs.declared.files.interfaces.Offered.{Offered}

-- an octet is white space of JSON
abbrev pub is_white : ℕ → Bool
is_white octet = octet == 32 || octet == 9 || octet == 10 || octet == 13

-- the first octet that is no white space
abbrev pub first_black : List ℕ → Option ℕ
first_black octets = find (λ octet. not (is_white octet)) octets

-- a file is that of the object of this key
abbrev pub is_of : List ℕ → Offered → Bool
is_of key file =
    option_eq (pointwise nat_eq) (option_map (λ own. own.now) file.key) (Some key)

-- a file is that of all objects that have none of their own
abbrev pub is_general : Offered → Bool
is_general file = is_none file.key

-- the file of the object of this key: its own, else that of all others
abbrev pub own_file : List Offered → List ℕ → Option Offered
own_file files key = option_or (find (is_of key) files) (find is_general files)

-- where one of some files is refused, that one is no interface
abbrev pub IsJoined : Joined → Type 0
IsJoined (Whole interface) = ⊤
IsJoined (Refused file) = IsNoInterface file.now.text
