-- The fault of a description is that of its first node that has one.
use Rattle.std.proofs.Common.{◌≡◌, ◌≢◌, ◌+◌, ℕ, ℤ, nat_lt, ◌↔◌, false, List, [], ◌∷◌, ◌++◌, Option, None, Some, refl, sym, ap, ◌∙◌, arith}
use Rattle.std.specs.List.{AllPairs, AllByRecursion}
use Rattle.std.specs.Option.{option_or}
use Rattle.std.specs.Ordering.{int_eq}
use Rattle.std.proofs.lemmas.Bool.{le-ltb, ltb-false, or_parts, or_from}
use Rattle.giop_types.specs.declared.description.desc_fault.DescFault.{DescFault}
use Rattle.giop_types.specs.declared.description.desc_fault.DescFault.TheVariants.{Empty, Doubled, BadDiscriminant, TooDeep}
use Rattle.giop_types.specs.Descriptions.Shape.{Shape, boolean, octet, char, short, ushort, long, ulong, longlong, ulonglong, text, octets}
use Rattle.giop_types.specs.Descriptions.Shape.{labels, members, choice, items, row, Fields, no_fields, field, Branches, no_branches, branch}
use Rattle.giop_types.specs.Descriptions.Checked.{fault_if, is_empty, has_bad_discriminant, has_doubles, has_doubled, same_name, own_fault}
use Rattle.giop_types.specs.Descriptions.Checked.{node_fault, desc_fault, fields_fault, branches_fault, all_labels, field_names, branch_names}
use Rattle.giop_types.specs.Descriptions.Nodes.{Node, nodes, field_nodes, branch_nodes, first_fault, names_of, labels_of, IsSound}
use Rattle.giop_types.proofs.Descriptions.CheckLemmas.{none_parts, fault_absent}
use Rattle.giop_types.proofs.Descriptions.DoubledLemmas.{names_apart, labels_apart}

or_assoc : (a b c : Option DescFault) → option_or (option_or a b) c ≡ option_or a (option_or b c)
or_assoc None b c = refl
or_assoc (Some e) b c = refl

first_append : (ms ns : List Node) → first_fault (ms ++ ns) ≡ option_or (first_fault ms) (first_fault ns)
first_append [] ns = refl
first_append (m ∷ ms) ns =
    ap (option_or (node_fault m.depth m.shape)) (first_append ms ns) ∙ sym (or_assoc (node_fault m.depth m.shape) (first_fault ms) (first_fault ns))

or_none : (a : Option DescFault) → a ≡ option_or a None
or_none None = refl
or_none (Some e) = refl

mutual
  unfolding desc_fault

  pub fault_first : (depth : ℕ) (s : Shape) → desc_fault depth s ≡ first_fault (nodes depth s)
  fault_first depth (members fs) = ap (option_or (node_fault depth (members fs))) (fields_first (depth + 1) fs)
  fault_first depth (choice disc bs other) =
      ap (option_or (node_fault depth (choice disc bs other)))
      (ap (λ a. option_or a (option_or (branches_fault (depth + 1) bs) (fields_fault (depth + 1) other))) (fault_first (depth + 1) disc)
      ∙ ap (option_or (first_fault (nodes (depth + 1) disc)))
      (ap (λ a. option_or a (fields_fault (depth + 1) other)) (branches_first (depth + 1) bs)
      ∙ ap (option_or (first_fault (branch_nodes (depth + 1) bs))) (fields_first (depth + 1) other)
      ∙ sym (first_append (branch_nodes (depth + 1) bs) (field_nodes (depth + 1) other)))
      ∙ sym (first_append (nodes (depth + 1) disc) (branch_nodes (depth + 1) bs ++ field_nodes (depth + 1) other)))
  fault_first depth (items s bound) = ap (option_or (node_fault depth (items s bound))) (fault_first (depth + 1) s)
  fault_first depth (row s n) = ap (option_or (node_fault depth (row s n))) (fault_first (depth + 1) s)
  fault_first depth boolean = or_none (node_fault depth boolean)
  fault_first depth octet = or_none (node_fault depth octet)
  fault_first depth char = or_none (node_fault depth char)
  fault_first depth short = or_none (node_fault depth short)
  fault_first depth ushort = or_none (node_fault depth ushort)
  fault_first depth long = or_none (node_fault depth long)
  fault_first depth ulong = or_none (node_fault depth ulong)
  fault_first depth longlong = or_none (node_fault depth longlong)
  fault_first depth ulonglong = or_none (node_fault depth ulonglong)
  fault_first depth (text bound) = or_none (node_fault depth (text bound))
  fault_first depth (octets bound) = or_none (node_fault depth (octets bound))
  fault_first depth (labels names) = or_none (node_fault depth (labels names))

  fields_first : (depth : ℕ) (fs : Fields) → fields_fault depth fs ≡ first_fault (field_nodes depth fs)
  fields_first depth no_fields = refl
  fields_first depth (field name s fs) =
      ap (λ a. option_or a (fields_fault depth fs)) (fault_first depth s)
      ∙ ap (option_or (first_fault (nodes depth s))) (fields_first depth fs) ∙ sym (first_append (nodes depth s) (field_nodes depth fs))

  branches_first : (depth : ℕ) (bs : Branches) → branches_fault depth bs ≡ first_fault (branch_nodes depth bs)
  branches_first depth no_branches = refl
  branches_first depth (branch ls name s bs) =
      ap (λ a. option_or a (branches_fault depth bs)) (fault_first depth s)
      ∙ ap (option_or (first_fault (nodes depth s))) (branches_first depth bs) ∙ sym (first_append (nodes depth s) (branch_nodes depth bs))

-- ---- a node without a fault is sound

no_pairs : {A : Type 0} → AllPairs (λ (x y : A). x ≢ y) []
no_pairs i j d lt bound = absurd (omega arith)

apart_names : (names : List (List ℕ)) → has_doubled same_name names ≡ false → AllPairs (λ x y. x ≢ y) names
apart_names names h = (names_apart (has_doubled same_name names) names refl).0 h

apart_labels : (ls : List ℤ) → has_doubled int_eq ls ≡ false → AllPairs (λ x y. x ≢ y) ls
apart_labels ls h = (labels_apart (has_doubled int_eq ls) ls refl).0 h

doubles_apart : (s : Shape) → has_doubles s ≡ false → AllPairs (λ x y. x ≢ y) (names_of s) × AllPairs (λ x y. x ≢ y) (labels_of s)
doubles_apart (labels names) h = (apart_names names h, no_pairs)
doubles_apart (members fs) h = (apart_names (field_names fs) h, no_pairs)
doubles_apart (choice disc bs other) h =
    let parts = or_parts (has_doubled same_name (field_names other ++ branch_names bs)) (has_doubled int_eq (all_labels bs)) h in
    (apart_names (field_names other ++ branch_names bs) parts.0, apart_labels (all_labels bs) parts.1)
doubles_apart _ h = (no_pairs, no_pairs)

apart_doubles : (s : Shape) → AllPairs (λ x y. x ≢ y) (names_of s) → AllPairs (λ x y. x ≢ y) (labels_of s) → has_doubles s ≡ false
apart_doubles (labels names) one two = (names_apart (has_doubled same_name names) names refl).1 one
apart_doubles (members fs) one two = (names_apart (has_doubled same_name (field_names fs)) (field_names fs) refl).1 one
apart_doubles (choice disc bs other) one two =
    or_from (has_doubled same_name (field_names other ++ branch_names bs)) (has_doubled int_eq (all_labels bs))
    ((names_apart (has_doubled same_name (field_names other ++ branch_names bs)) (field_names other ++ branch_names bs) refl).1 one)
    ((labels_apart (has_doubled int_eq (all_labels bs)) (all_labels bs) refl).1 two)
apart_doubles _ one two = refl

node_sound : (n : Node) → node_fault n.depth n.shape ≡ None → IsSound n
node_sound n h =
    let deep = none_parts (fault_if (nat_lt 32 n.depth) TooDeep) (own_fault n.shape) h in
    let own = none_parts (fault_if (is_empty n.shape) Empty) _ deep.1 in
    let rest = none_parts (fault_if (has_bad_discriminant n.shape) BadDiscriminant) (fault_if (has_doubles n.shape) Doubled) own.1 in
    let apart = doubles_apart n.shape (fault_absent (has_doubles n.shape) Doubled rest.1) in
    record {
      shallow = ltb-false 32 n.depth (fault_absent (nat_lt 32 n.depth) TooDeep deep.0);
      filled = fault_absent (is_empty n.shape) Empty own.0;
      discriminated = fault_absent (has_bad_discriminant n.shape) BadDiscriminant rest.0;
      names_apart = apart.0;
      labels_apart = apart.1;
    }

sound_node : (n : Node) → IsSound n → node_fault n.depth n.shape ≡ None
sound_node n s =
    ap (λ b. option_or (fault_if b TooDeep) (own_fault n.shape)) (le-ltb 32 n.depth s.shallow)
    ∙ ap (λ b. option_or (fault_if b Empty)
    (option_or (fault_if (has_bad_discriminant n.shape) BadDiscriminant) (fault_if (has_doubles n.shape) Doubled))) s.filled
    ∙ ap (λ b. option_or (fault_if b BadDiscriminant) (fault_if (has_doubles n.shape) Doubled)) s.discriminated
    ∙ ap (λ b. fault_if b Doubled) (apart_doubles n.shape s.names_apart s.labels_apart)

all_sound : (ns : List Node) → first_fault ns ≡ None → AllByRecursion IsSound ns
all_sound [] h = tt
all_sound (n ∷ ns) h =
    let parts = none_parts (node_fault n.depth n.shape) (first_fault ns) h in
    (node_sound n parts.0, all_sound ns parts.1)

sound_all : (ns : List Node) → AllByRecursion IsSound ns → first_fault ns ≡ None
sound_all [] h = refl
sound_all (n ∷ ns) h = ap (λ a. option_or a (first_fault ns)) (sound_node n h.0) ∙ sound_all ns h.1

pub faultless_sound : (s : Shape) → (desc_fault 1 s ≡ None) ↔ AllByRecursion IsSound (nodes 1 s)
faultless_sound s = (λ h. all_sound (nodes 1 s) (sym (fault_first 1 s) ∙ h), λ h. fault_first 1 s ∙ sound_all (nodes 1 s) h)
