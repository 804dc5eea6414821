-- What an interface file says beside the plain form (docs/FORMATS.md).
use Rattle.std.specs.Prelude.{codes, Bool, true, false, ◌&&◌}
use Rattle.std.specs.Prelude.{Option, Some, None, option_and_then, is_some}
use Rattle.serde_json.specs.Data.{Data, array, object, Items, item, no_items}
use Rattle.serde_json.specs.Data.{Members, member, no_members}
use Rattle.serde_json.specs.Find.{get, as_str, as_object}

-- a text, where it is there
abbrev pub may_be_text : Option Data → Bool
may_be_text None = true
may_be_text (Some d) = is_some (as_str d)

-- an object, where it is there
abbrev pub may_be_object : Option Data → Bool
may_be_object None = true
may_be_object (Some d) = is_some (as_object d)

-- the id of an exception of the file
abbrev pub is_exception : Data → Data → Bool
is_exception file d = is_some (option_and_then (λ id.
    option_and_then (get id) (get (codes "exceptions") file)) (as_str d))

-- ids of exceptions of the file
abbrev pub are_exceptions : Data → Items → Bool
are_exceptions file no_items = true
are_exceptions file (item d ds) = is_exception file d && are_exceptions file ds

-- a list of ids of exceptions of the file, where it is there
abbrev pub may_be_raises : Data → Option Data → Bool
may_be_raises file None = true
may_be_raises file (Some (array ds)) = are_exceptions file ds
may_be_raises file (Some _) = false

-- operations, each with a comment that is a text and a list of the exceptions that it raises, where
-- they are there
abbrev pub are_lawful : Data → Members → Bool
are_lawful file no_members = true
are_lawful file (member k d ms) = may_be_text (get (codes "comment") d)
    && may_be_raises file (get (codes "raises") d) && are_lawful file ms

-- the same of the operations of a file, where they are an object
abbrev pub may_be_operations : Data → Option Data → Bool
may_be_operations file (Some (object ms)) = are_lawful file ms
may_be_operations file _ = true

-- a file of which the id, the comments, the types and what operations raise have their forms
abbrev pub is_lawful : Data → Bool
is_lawful file = may_be_text (get (codes "id") file) && may_be_text (get (codes "comment") file)
    && may_be_object (get (codes "types") file)
    && may_be_operations file (get (codes "operations") file)
