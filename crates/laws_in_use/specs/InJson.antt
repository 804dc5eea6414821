-- A description and an interface, and both in JSON (docs/FORMATS.md).
use Rattle.std.specs.Prelude.{ℕ, pos, codes, List, [], ◌∷◌, true, false}
use Rattle.serde_json.specs.Data.{Data, array, boolean, item, member, no_items, no_members, number, object, string, unsigned}
use Rattle.giop_types.specs.Descriptions.Shape.{Shape, branch, choice, field, labels, long, no_branches, no_fields, text, ushort}
use Rattle.giop_json.specs.InterfaceFromJson.{Offer}
use Rattle.giop_json.specs.JsonText.{text_of}
use Rattle.giop_json.specs.ToJson.{text_data}
use Rattle.giop_types.specs.Values.Views.{Named}

-- a union by an enum of two names: a number where it is the first, else a string of 3 octets at most
abbrev pub coin : Shape
coin = choice (labels (codes "heads" ∷ codes "tails" ∷ []))
    (branch (pos 0 ∷ []) (codes "count") ushort no_branches) (field (codes "other") (text 3) no_fields)

-- a list of two
abbrev both : Data → Data → Data
both a b = array (item a (item b no_items))

abbrev pub coin_told : Data
coin_told = object (member (codes "cases") (array (item (array
    (item (array (item (text_data (codes "heads")) no_items)) (item (text_data (codes "count"))
    (item (string (codes "ushort")) no_items)))) no_items))
    (member (codes "default") (both (text_data (codes "other"))
    (object (member (codes "string") (number (unsigned 3)) no_members)))
    (member (codes "union") (object (member (codes "enum") (both (text_data (codes "heads"))
    (text_data (codes "tails"))) no_members)) no_members)))

-- an interface of a call of two numbers and a oneway one of none, and an exception with a member
abbrev pub parameter : List ℕ → Named
parameter name = record { name = name; shape = long }

abbrev pub adding : Offer
adding = record {
  operations = (
    codes "add",
    record {
      oneway = false;
      ins = parameter (codes "a") ∷ parameter (codes "b") ∷ [];
      outs = parameter (codes "sum") ∷ [];
    },
  ) ∷ (codes "halt", record { oneway = true; ins = []; outs = [] }) ∷ [];
  exceptions = (codes "IDL:Full:1.0", parameter (codes "at") ∷ []) ∷ [];
}

-- its parameters, and an operation
abbrev long_told : List ℕ → Data
long_told name = both (text_data name) (string (codes "long"))

abbrev operation_told : Data → Data → Data → Data
operation_told ins outs oneway = object (member (codes "ins") ins
    (member (codes "oneway") oneway (member (codes "outs") outs no_members)))

abbrev pub adding_told : Data
adding_told = object
    (member (codes "exceptions") (object
    (member (text_of (codes "IDL:Full:1.0")) (array (item (long_told (codes "at")) no_items)) no_members))
    (member (codes "operations") (object
    (member (text_of (codes "add")) (operation_told
    (both (long_told (codes "a")) (long_told (codes "b")))
    (array (item (long_told (codes "sum")) no_items)) (boolean false))
    (member (text_of (codes "halt")) (operation_told (array no_items) (array no_items) (boolean true)) no_members)))
    no_members))
