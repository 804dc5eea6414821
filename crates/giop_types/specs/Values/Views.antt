-- The description and the value that contracts see.
use Rattle.std.specs.Prelude.{ℕ, ℤ, List, [], ◌∷◌, Option, Some, None}
use Rattle.std.specs.declared.alloc.Global.{Global}
use Rattle.std.specs.declared.boxed.Box.{Box}
use Rattle.giop_types.specs.declared.description.desc.Desc.{Desc, fold-Desc}
use Rattle.giop_types.specs.declared.description.desc.NamedDesc.{NamedDesc, fold-NamedDesc}
use Rattle.giop_types.specs.declared.description.desc.CaseDesc.{CaseDesc, fold-CaseDesc}
use Rattle.giop_types.specs.declared.description.desc.Desc.TheOpen as level
use Rattle.giop_types.specs.declared.value.Value.{Value, fold-Value}
use Rattle.giop_types.specs.declared.value.Value.TheOpen as grown
use Rattle.giop_types.specs.Descriptions.Shape.{Shape, boolean, octet, char, short, ushort, long, ulong, longlong}
use Rattle.giop_types.specs.Descriptions.Shape.{ulonglong, text, octets, labels, members, choice, items, row, Fields}
use Rattle.giop_types.specs.Descriptions.Shape.{no_fields, field, Branches, no_branches, branch}
use Rattle.giop_types.specs.Values.Tree.{Tree, boolean_of, octet_of, char_of, short_of, ushort_of, long_of, ulong_of}
use Rattle.giop_types.specs.Values.Tree.{longlong_of, ulonglong_of, text_of, octets_of, label_of, members_of}
use Rattle.giop_types.specs.Values.Tree.{choice_of, items_of, row_of, Trees, no_trees, tree}

-- a name, and what it names
pub record Named : Type 0 where
  pub name : List ℕ
  pub shape : Shape

-- a case of a union: its labels, its name, and what it names
pub record Selected : Type 0 where
  pub labels : List ℤ
  pub name : List ℕ
  pub shape : Shape

-- members as a tree's own list
abbrev pub fields_of : List Named → Fields
fields_of [] = no_fields
fields_of (m ∷ ms) = field m.name m.shape (fields_of ms)

-- cases as a tree's own list
abbrev pub branches_of : List Selected → Branches
branches_of [] = no_branches
branches_of (b ∷ bs) = branch b.labels b.name b.shape (branches_of bs)

-- values as a tree's own list
abbrev pub trees_of : List Tree → Trees
trees_of [] = no_trees
trees_of (t ∷ ts) = tree t (trees_of ts)

-- one level of a description, of which the parts are shapes already
abbrev pub desc_step : level.Desc-F Shape Selected Named → Shape
desc_step level.Boolean = boolean
desc_step level.Octet = octet
desc_step level.Char = char
desc_step level.Short = short
desc_step level.UShort = ushort
desc_step level.Long = long
desc_step level.ULong = ulong
desc_step level.LongLong = longlong
desc_step level.ULongLong = ulonglong
desc_step (level.Text bound) = text bound
desc_step (level.Octets bound) = octets bound
desc_step (level.Labels names) = labels names.items
desc_step (level.Members ms) = members (fields_of ms.items)
desc_step (level.Choice disc cases None) = choice disc.value (branches_of cases.items) no_fields
desc_step (level.Choice disc cases (Some f)) =
    choice disc.value (branches_of cases.items) (field f.value.name f.value.shape no_fields)
desc_step (level.Items d bound) = items d.value bound
desc_step (level.Row d n) = row d.value n

-- a case, where its description is seen
abbrev pub case_step : level.CaseDesc-F Shape Selected Named → Selected
case_step c = record { labels = c.labels.items; name = c.name; shape = c.desc }

-- a member, where its description is seen
abbrev pub named_step : level.NamedDesc-F Shape Selected Named → Named
named_step m = record { name = m.name; shape = m.desc }

-- what a description says
abbrev pub desc_view : Desc → Shape
desc_view = fold-Desc Shape Selected Named desc_step case_step named_step

-- what contracts see of a member
abbrev pub named_view : NamedDesc → Named
named_view = fold-NamedDesc Shape Selected Named desc_step case_step named_step

-- what contracts see of a case
abbrev pub case_view : CaseDesc → Selected
case_view = fold-CaseDesc Shape Selected Named desc_step case_step named_step

-- the member that is there by default, or none
abbrev pub fallback_view : Option (Box NamedDesc Global) → Fields
fallback_view None = no_fields
fallback_view (Some member) =
    field (named_view member.value).name (named_view member.value).shape no_fields

-- one level of a value
abbrev pub value_step : grown.Value-F Tree → Tree
value_step (grown.Boolean b) = boolean_of b
value_step (grown.Octet n) = octet_of n
value_step (grown.Char n) = char_of n
value_step (grown.Short z) = short_of z
value_step (grown.UShort n) = ushort_of n
value_step (grown.Long z) = long_of z
value_step (grown.ULong n) = ulong_of n
value_step (grown.LongLong z) = longlong_of z
value_step (grown.ULongLong n) = ulonglong_of n
value_step (grown.Text t) = text_of t
value_step (grown.Octets t) = octets_of t
value_step (grown.Label n) = label_of n
value_step (grown.Members vs) = members_of (trees_of vs.items)
value_step (grown.Choice disc None) = choice_of disc no_trees
value_step (grown.Choice disc (Some v)) = choice_of disc (tree v.value no_trees)
value_step (grown.Items vs) = items_of (trees_of vs.items)
value_step (grown.Row vs) = row_of (trees_of vs.items)

-- what a value is
abbrev pub value_view : Value → Tree
value_view = fold-Value Tree value_step

-- the value of a union's member, where there is one
abbrev pub member_view : Option (Box Value Global) → List Tree
member_view None = []
member_view (Some v) = value_view v.value ∷ []
