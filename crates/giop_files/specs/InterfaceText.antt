-- The text of an interface's file.
use Rattle.std.specs.Prelude.{ℕ, List, IsErr, option_map, string_bytes, unwrap_or}
use Rattle.giop_json.specs.DescFromJson.{json_in}
use Rattle.giop_json.specs.InterfaceFromJson.{interface_told}
use Rattle.giop_files.specs.declared.files.interface_text.InterfaceText.{InterfaceText}

-- as it was given
abbrev pub given_text : InterfaceText → List ℕ
given_text text = text.given.items

-- in the plain form, or as it was given where it has none
abbrev pub plain_text : InterfaceText → List ℕ
plain_text text = unwrap_or (option_map string_bytes text.plain) text.given.items

-- its plain form is no interface
abbrev pub IsNoInterface : InterfaceText → Type 0
IsNoInterface text = IsErr (interface_told (json_in (plain_text text)))
