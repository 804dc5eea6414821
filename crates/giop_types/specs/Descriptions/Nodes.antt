-- The nodes of a description, and which of them are sound (CORBA 3.3 Part 2, 9.3.2).
use Rattle.std.specs.Prelude.{◌≡◌, ◌≢◌, ◌≤◌, ℕ, ◌+◌, ℤ, false, List, [], ◌∷◌, ◌++◌, Option, None}
use Rattle.std.specs.List.{AllPairs}
use Rattle.std.specs.Option.{option_or}
use Rattle.giop_types.specs.declared.description.desc_fault.DescFault.{DescFault}
use Rattle.giop_types.specs.Descriptions.Shape.{Shape, labels, members, choice, items, row, Fields, no_fields, field, Branches}
use Rattle.giop_types.specs.Descriptions.Shape.{no_branches, branch}
use Rattle.giop_types.specs.Descriptions.Checked.{is_empty, has_bad_discriminant, all_labels, field_names, branch_names, node_fault}

-- a part of a description, and how deep it stands
pub record Node : Type 0 where
  pub depth : ℕ
  pub shape : Shape

abbrev node : ℕ → Shape → Node
node depth s = record { depth = depth; shape = s }

-- the nodes of a description in reading order: itself and then its parts, of a union the
-- discriminant, the cases in their order, the default
abbrev mutual
  pub nodes : ℕ → Shape → List Node
  nodes depth (members fs) = node depth (members fs) ∷ field_nodes (depth + 1) fs
  nodes depth (choice disc bs other) =
      node depth (choice disc bs other)
      ∷ (nodes (depth + 1) disc
      ++ (branch_nodes (depth + 1) bs ++ field_nodes (depth + 1) other))
  nodes depth (items s bound) = node depth (items s bound) ∷ nodes (depth + 1) s
  nodes depth (row s n) = node depth (row s n) ∷ nodes (depth + 1) s
  nodes depth s = node depth s ∷ []

  pub field_nodes : ℕ → Fields → List Node
  field_nodes depth no_fields = []
  field_nodes depth (field name s fs) = nodes depth s ++ field_nodes depth fs

  pub branch_nodes : ℕ → Branches → List Node
  branch_nodes depth no_branches = []
  branch_nodes depth (branch ls name s bs) = nodes depth s ++ branch_nodes depth bs

-- the fault of the first node that has one
abbrev pub first_fault : List Node → Option DescFault
first_fault [] = None
first_fault (n ∷ ns) = option_or (node_fault n.depth n.shape) (first_fault ns)

-- the names that a node gives: of an enum, of a struct's members, of a union's members
abbrev pub names_of : Shape → List (List ℕ)
names_of (labels names) = names
names_of (members fs) = field_names fs
names_of (choice disc bs other) = field_names other ++ branch_names bs
names_of _ = []

-- the labels that a union gives
abbrev pub labels_of : Shape → List ℤ
labels_of (choice disc bs other) = all_labels bs
labels_of _ = []

-- a node is at most 32 deep, where the outermost is 1 deep; it has its parts; its discriminant can
-- be one, and each label is a value of it; and any two of its names, and of its labels, differ
pub record IsSound (n : Node) : Type 0 where
  pub shallow : n.depth ≤ 32
  pub filled : is_empty n.shape ≡ false
  pub discriminated : has_bad_discriminant n.shape ≡ false
  pub names_apart : AllPairs (λ one other. one ≢ other) (names_of n.shape)
  pub labels_apart : AllPairs (λ one other. one ≢ other) (labels_of n.shape)
