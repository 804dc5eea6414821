-- The parts of a file (docs/FORMATS.md): what each is, and what its own parts are.
use Rattle.std.specs.Prelude.{ℕ, zero, suc, codes, bytes_eq, Bool, false, if◌then◌else◌, List}
use Rattle.std.specs.Prelude.{Option, Some, None, option_map, option_and_then, unwrap_or, string_bytes}
use Rattle.serde_json.specs.Data as json
use Rattle.serde_json.specs.Data.{Data}
use Rattle.serde_json.specs.Find.{at, get, as_array}
use Rattle.serde_json.specs.View.{view}
use Rattle.giop_json.specs.DescFromJson.{by_key, pair_in}
use Rattle.giop_where.specs.declared.part.Part.{Part}
use Rattle.giop_where.specs.declared.role.Role.{Role}
use Rattle.giop_where.specs.declared.role.Role.TheVariants as is
use Rattle.giop_where.specs.declared.step.Step.{Step}
use Rattle.giop_where.specs.declared.step.Step.TheVariants as by

-- a part: what it is; what it is judged by, a value by its description and the cases of a union by
-- its discriminant; and its JSON value
pub record Portion : Type 0 where
  pub role : Role
  pub beside : Data
  pub content : Data

-- what contracts see of a part
abbrev pub part_view : Part → Portion
part_view p = record { role = p.role; beside = view p.beside.now; content = view p.json.now }

-- a step: to the member under a key, or to the item that has so many before it
pub data Way : Type 0 where
  key : List ℕ → Way
  index : ℕ → Way

-- what contracts see of a step
abbrev pub step_view : Step → Way
step_view (by.Key s) = key (string_bytes s)
step_view (by.Index i) = index i

-- ---- the role of a part, by the role of the whole

-- this role where a key is this name, or another
abbrev pub if_named : List ℕ → List ℕ → Role → Role → Role
if_named name k role other = if bytes_eq k name then role else other

abbrev pub interface_role : List ℕ → Role
interface_role k = if_named (codes "operations") k is.Operations
    (if_named (codes "exceptions") k is.Exceptions is.Unknown)

abbrev pub operation_role : List ℕ → Role
operation_role k = if_named (codes "ins") k is.Parameters
    (if_named (codes "outs") k is.Parameters
    (if_named (codes "oneway") k is.Oneway is.Unknown))

abbrev pub description_role : List ℕ → Role
description_role k =
    if_named (codes "string") k is.Bound (if_named (codes "octets") k is.Bound
    (if_named (codes "enum") k is.Names (if_named (codes "struct") k is.Members
    (if_named (codes "sequence") k is.Description (if_named (codes "bound") k is.Bound
    (if_named (codes "array") k is.Description (if_named (codes "length") k is.Length
    (if_named (codes "union") k is.Description (if_named (codes "cases") k is.Cases
    (if_named (codes "default") k is.Member is.Unknown))))))))))

-- of a member of an object, by its key
abbrev pub role_under : Role → List ℕ → Role
role_under is.Interface k = interface_role k
role_under is.Operations k = is.Operation
role_under is.Operation k = operation_role k
role_under is.Exceptions k = is.Parameters
role_under is.Description k = description_role k
role_under _ k = is.Nothing

-- of a name and its description
abbrev pub pair_role : ℕ → Role
pair_role zero = is.Name
pair_role (suc zero) = is.Description
pair_role _ = is.Unknown

-- of labels, their name and their description
abbrev pub case_role : ℕ → Role
case_role zero = is.Labels
case_role (suc i) = pair_role i

-- of an item of a list, by how many stand before it
abbrev pub role_at : Role → ℕ → Role
role_at is.Parameters i = is.Parameter
role_at is.Parameter i = pair_role i
role_at is.Names i = is.Name
role_at is.Members i = is.Member
role_at is.Member i = pair_role i
role_at is.Cases i = is.Case
role_at is.Case i = case_role i
role_at is.Labels i = is.Label
role_at _ i = is.Nothing

-- ---- the descriptions of a value's parts

-- the second of a name and a description, where the first is this name
abbrev pub if_name : List ℕ → Data × Data → Option Data
if_name k pair = if is_text k pair.0 then Some pair.1 else None where
  is_text : List ℕ → Data → Bool
  is_text k (json.string s) = bytes_eq s k
  is_text k _ = false

abbrev pub named_in : List ℕ → Data → Option Data
named_in k m = option_and_then (if_name k) (option_and_then pair_in (as_array m))

-- the description of the first member of this name
abbrev pub member_named : List ℕ → json.Items → Option Data
member_named k json.no_items = None
member_named k (json.item m ms) = by_key (named_in k m) (λ d. Some d) (member_named k ms)

-- the discriminant's description, under its key
abbrev pub disc_under : List ℕ → Data → Option Data
disc_under k disc = if bytes_eq k (codes "disc") then Some disc else None

-- the description of what stands under a key of a struct's value, or of a union's
abbrev pub value_under : Data → List ℕ → Option Data
value_under desc k =
    by_key (get (codes "struct") desc) (λ ms. option_and_then (member_named k) (as_array ms))
    (by_key (get (codes "union") desc) (disc_under k) None)

-- the description of the items of a sequence, or of an array
abbrev pub value_at : Data → Option Data
value_at desc =
    by_key (get (codes "sequence") desc) (λ d. Some d) (get (codes "array") desc)

-- the description of the parameter that has so many before it
abbrev pub argument_at : Data → ℕ → Option Data
argument_at parameters i =
    option_map (λ pair. pair.1) (option_and_then pair_in (option_and_then as_array (at i parameters)))

-- ---- the parts

-- what the parts of a part are judged by: those of a description by its discriminant, where it has
-- one
abbrev pub beside_of : Portion → Data
beside_of p = beside_in p.role p where
  beside_in : Role → Portion → Data
  beside_in is.Description p = unwrap_or (get (codes "union") p.content) p.content
  beside_in _ p = p.beside

-- a value by its description, where it has one
abbrev pub value_part : Data → Option Data → Data → Portion
value_part beside (Some desc) d = record { role = is.Value; beside = desc; content = d }
value_part beside None d = record { role = is.Nothing; beside = beside; content = d }

-- the part under a key, and the one that has so many before it
abbrev pub part_under : Portion → List ℕ → Data → Portion
part_under p k d = under_in p.role p k d where
  under_in : Role → Portion → List ℕ → Data → Portion
  under_in is.Value p k d = value_part p.beside (value_under p.beside k) d
  under_in role p k d =
      record { role = role_under role k; beside = beside_of p; content = d }

abbrev pub part_at : Portion → ℕ → Data → Portion
part_at p i d = at_in p.role p i d where
  at_in : Role → Portion → ℕ → Data → Portion
  at_in is.Value p i d = value_part p.beside (value_at p.beside) d
  at_in is.Arguments p i d = value_part p.beside (argument_at p.beside i) d
  at_in role p i d = record { role = role_at role i; beside = beside_of p; content = d }
