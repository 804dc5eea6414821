-- A file that names a type, and a part that is a name.
use Rattle.std.specs.Prelude.{codes}
use Rattle.serde_json.specs.Data.{Data, array, item, member, no_items, no_members, object, string}
use Rattle.giop_json.specs.JsonText.{text_of}
use Rattle.laws_in_use.specs.InJson.{coin_told}

-- the name `Coin`
abbrev pub coin_named : Data
coin_named = object (member (codes "type") (string (codes "Coin")) no_members)

-- an interface of one operation, which is sent a `Coin`, and what that is
abbrev pub tossing_told : Data
tossing_told = object
    (member (codes "operations") (object
    (member (text_of (codes "toss")) (object
    (member (codes "ins") (array (item (array (item (string (codes "coin"))
    (item coin_named no_items))) no_items)) no_members)) no_members))
    (member (codes "types") (object (member (codes "Coin") coin_told no_members)) no_members))
