-- Object references: their description (CORBA 3.3 Part 2, 7.6.2), and their text (7.6.9) as JSON.
use Rattle.std.specs.Prelude.{ℕ, ◌==◌, ◌&&◌, codes, Bool, true, false, if◌then◌else◌, List}
use Rattle.std.specs.Prelude.{Option, option_and_then}
use Rattle.std.specs.Result.{result_ok}
use Rattle.serde_json.specs.Data as json
use Rattle.serde_json.specs.Find.{as_str}
use Rattle.giop_types.specs.Descriptions.Shape.{Shape, ulong, text, octets, members, items, Fields, no_fields, field}
use Rattle.giop_types.specs.Values.Tree.{Tree}
use Rattle.giop_types.specs.Descriptions.Checked.{same_name}
use Rattle.giop_types.specs.Coding.Decoding.{decode_at}
use Rattle.giop_types.specs.Values.Fits.{fits}
use Rattle.giop_ior_text.specs.IorText.{ior_text_of, text_written}
use Rattle.giop_types.specs.Coding.Written.{value_out}

-- a profile: its tag and its octets
abbrev pub profile_shape : Shape
profile_shape = members (field (codes "tag") ulong (field (codes "octets") (octets 0) no_fields))

-- an IOR: a type id, and profiles
abbrev pub reference_shape : Shape
reference_shape = members
    (field (codes "type_id") (text 0) (field (codes "profiles") (items profile_shape 0) no_fields))

-- ---- which members are those of an IOR

-- two members of these names
abbrev pub are_two : List ℕ → (Shape → Bool) → List ℕ → (Shape → Bool) → Fields → Bool
are_two n p m q (field a s (field b t no_fields)) = (same_name a n && p s) && (same_name b m && q t)
are_two n p m q _ = false

-- a string of any length
abbrev pub is_any_text : Shape → Bool
is_any_text (text bound) = bound == 0
is_any_text _ = false

-- a sequence of octets of any length
abbrev pub are_any_octets : Shape → Bool
are_any_octets (octets bound) = bound == 0
are_any_octets _ = false

-- an unsigned long
abbrev pub is_ulong : Shape → Bool
is_ulong ulong = true
is_ulong _ = false

-- a profile
abbrev pub is_profile : Shape → Bool
is_profile (members fs) = are_two (codes "tag") is_ulong (codes "octets") are_any_octets fs
is_profile _ = false

-- a sequence of profiles of any length
abbrev pub are_profiles : Shape → Bool
are_profiles (items s bound) = is_profile s && (bound == 0)
are_profiles _ = false

-- the members of a reference
abbrev pub is_reference : Fields → Bool
is_reference fs = are_two (codes "type_id") is_any_text (codes "profiles") are_profiles fs

-- ---- the text of an IOR as JSON

-- the written text; null where the value doesn't fit
abbrev pub reference_data : Shape → Tree → json.Data
reference_data s t = if fits s t then json.string (text_written (value_out s) t) else json.null

-- the value that a text is
abbrev pub reference_in : Shape → List ℕ → Option Tree
reference_in s t = result_ok (ior_text_of (decode_at s) t)

-- the value that a JSON value is the text of
abbrev pub reference_shown : Shape → json.Data → Option Tree
reference_shown s d = option_and_then (reference_in s) (as_str d)
