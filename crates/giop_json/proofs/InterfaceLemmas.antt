-- Interfaces read from JSON: loops over the members of an object, and over what is judged.
use Rattle.std.proofs.Common.{◌≡◌, ℕ, ◌∷◌, [], ◌++◌, List, map, Option, Some, None, option_map, option_and_then, Ok, Err, false}
use Rattle.std.proofs.Common.{Ordering, Less, Equal, Greater, nat_cmp, String, string_bytes, refl, sym, ap, ◌∙◌, arith, append_assoc, length}
use Rattle.std.proofs.lemmas.List.{map-append, append-nil}
use Rattle.std.specs.declared.alloc.Global.{Global}
use Rattle.std.specs.Prelude.{Vec}
use Rattle.std.specs.BTreeMap.{insert_entry}
use Rattle.std.specs.Cmp.Lexicographic.{slice_cmp}
use Rattle.std.specs.Option.{option_or}
use Rattle.std.specs.Ordering.{match_ordering}
use Rattle.serde_json.specs.Data as json
use Rattle.serde_json.specs.Find.{as_object}
use Rattle.serde_json.specs.View.{view, members_view}
use Rattle.serde_json.specs.declared.value.Value.{Value as Json}
use Rattle.giop_types.specs.declared.description.desc_fault.DescFault.{DescFault}
use Rattle.giop_json.specs.declared.form_fault.FormFault.{FormFault}
use Rattle.giop_json.specs.declared.form_fault.FormFault.TheVariants.{BadDesc}
use Rattle.giop_types.specs.declared.interfaces.parameters.Parameter.{Parameter}
use Rattle.giop_types.specs.declared.description.checked_desc.CheckedDesc.{CheckedDesc}
use Rattle.giop_types.specs.declared.description.desc.NamedDesc.{NamedDesc}
use Rattle.giop_types.specs.Descriptions.Checked.{desc_fault, field_names, has_doubled, same_name}
use Rattle.giop_types.specs.Descriptions.CheckedShape.{checked_shape}
use Rattle.giop_types.specs.Values.Views.{Named, fields_of, desc_view, named_view}
use Rattle.giop_json.specs.DescFromJson.{judged}
use Rattle.giop_json.specs.InterfaceFromJson.{Signature, parameter_view, name_in, entry_in, entries_in, table_in, first_fault, parameters_fault, signature_fault, by_name}
use Rattle.giop_types.proofs.Values.ViewLemmas.{view-Named}
use Rattle.giop_types.proofs.Coding.PartLoops.{with_front, IsEachPart, part_made, part_missing, parts_made}

-- ---- the members of an object

-- a key and its value
abbrev pub Entry : Type 0
Entry = String Global × Json

entries-each : {A : Type 0} (inner : json.Data → Option A)
    → IsEachPart (λ (m : Entry). entry_in inner (string_bytes m.0) (view m.1)) (λ ms. entries_in inner (members_view ms))
entries-each inner = record { none = refl; more = λ m ms. refl }

-- what a member names, by its name and what is told of it
named : {A : Type 0} (inner : json.Data → Option A) (key : List ℕ) (d : json.Data) (name : List ℕ) (x : A)
    → name_in key ≡ Some name → inner d ≡ Some x → entry_in inner key d ≡ Some (name, x)
named inner key d name x is told = rw (is, told) refl

-- a member that has no name
pub nameless : {A : Type 0} (inner : json.Data → Option A) (key : List ℕ) (d : json.Data) → name_in key ≡ None → entry_in inner key d ≡ None
nameless inner key d none = rw none refl

unsaid_at : {A : Type 0} (inner : json.Data → Option A) (d : json.Data) (name : Option (List ℕ))
    → inner d ≡ None → option_and_then {U = List ℕ × A} (λ n. option_map (λ x. (n, x)) (inner d)) name ≡ None
unsaid_at inner d None none = refl
unsaid_at inner d (Some n) none = rw none refl

-- a member of which nothing is told
pub unsaid : {A : Type 0} (inner : json.Data → Option A) (key : List ℕ) (d : json.Data) → inner d ≡ None → entry_in inner key d ≡ None
unsaid inner key d none = unsaid_at inner d (name_in key) none

-- a member that names something
pub member_made : {A : Type 0} (inner : json.Data → Option A) (front : List (List ℕ × A)) (left ms : List Entry) (m : Entry) (name : List ℕ) (x : A)
    (total : Option (List (List ℕ × A)))
    → left ≡ m ∷ ms → name_in (string_bytes m.0) ≡ Some name → inner (view m.1) ≡ Some x → with_front front (entries_in inner (members_view left)) ≡ total
    → with_front (front ++ (name, x) ∷ []) (entries_in inner (members_view ms)) ≡ total
member_made inner front left ms m name x total first is told so_far =
    part_made (entries-each inner) front (m ∷ ms) 0 m (name, x) total (omega arith) refl (named inner (string_bytes m.0) (view m.1) name x is told)
    (rw first at so_far)

-- one that names nothing
pub member_missing : {A : Type 0} (inner : json.Data → Option A) (front : List (List ℕ × A)) (left ms : List Entry) (m : Entry)
    (total : Option (List (List ℕ × A)))
    → left ≡ m ∷ ms → entry_in inner (string_bytes m.0) (view m.1) ≡ None → with_front front (entries_in inner (members_view left)) ≡ total → total ≡ None
member_missing inner front left ms m total first none so_far =
    part_missing (entries-each inner) front (m ∷ ms) 0 m total (omega arith) refl none (rw first at so_far)

-- no member is left
pub members_made : {A : Type 0} (inner : json.Data → Option A) (front : List (List ℕ × A)) (left : List Entry) (total : Option (List (List ℕ × A)))
    → left ≡ [] → with_front front (entries_in inner (members_view left)) ≡ total → total ≡ Some front
members_made inner front left total none so_far = parts_made (entries-each inner) front [] 0 total (omega arith) (rw none at so_far)

-- what a table is
pub tabled : {A : Type 0} (inner : json.Data → Option A) (d : json.Data) (ms : List Entry) (entries : Option (List (List ℕ × A)))
    → as_object d ≡ Some (members_view ms) → entries_in inner (members_view ms) ≡ entries → table_in inner d ≡ entries
tabled inner d ms entries is made = rw is made

-- ---- what is judged

-- nothing is wrong with what was judged well
pub judged_well : {A : Type 0} (x y : A) (fault : Option DescFault) → judged x fault ≡ Ok y → (fault ≡ None) × (x ≡ y)
judged_well x y None is = (refl, cc)
judged_well x y (Some fault) is = absurd cc

-- something is wrong with what was refused
pub judged_ill : {A : Type 0} (x : A) (e : FormFault) (fault : Option DescFault) → judged x fault ≡ Err e
    → (f : DescFault) × (fault ≡ Some f) × (e ≡ BadDesc f)
judged_ill x e None is = absurd cc
judged_ill x e (Some f) is = (f, refl, cc)

-- nothing is wrong with the first item
pub fault_passed : {X Y : Type 0} (fault : Y → Option DescFault) (v : X → Y) (left xs : List X) (x : X) (total : Option DescFault)
    → left ≡ x ∷ xs → fault (v x) ≡ None → first_fault fault (map v left) ≡ total → first_fault fault (map v xs) ≡ total
fault_passed fault v left xs x total first none is = rw (first, none) at is

-- something is
pub fault_found : {X Y : Type 0} (fault : Y → Option DescFault) (v : X → Y) (left xs : List X) (x : X) (f : DescFault) (total : Option DescFault)
    → left ≡ x ∷ xs → fault (v x) ≡ Some f → first_fault fault (map v left) ≡ total → total ≡ Some f
fault_found fault v left xs x f total first found is = sym (rw (first, found) at is)

-- no item is left
pub no_fault : {X Y : Type 0} (fault : Y → Option DescFault) (v : X → Y) (left : List X) (total : Option DescFault)
    → left ≡ [] → first_fault fault (map v left) ≡ total → total ≡ None
no_fault fault v left total none is = sym (rw none at is)

-- ---- operations

-- nothing is wrong with the ins and the outs
pub both_well : (s : Signature) (ins outs : List Named) → judged s.ins (parameters_fault s.ins) ≡ Ok ins → judged s.outs (parameters_fault s.outs) ≡ Ok outs
    → judged s (signature_fault s) ≡ Ok (record { oneway = s.oneway; ins = ins; outs = outs })
both_well s ins outs first second =
    let p = judged_well s.ins ins (parameters_fault s.ins) first in
    let q = judged_well s.outs outs (parameters_fault s.outs) second in
    rw (p.0, q.0, ← p.1, ← q.1) refl

-- what is wrong with a part is wrong with the whole, whatever stands behind it
ill_along : {A B : Type 0} (x : A) (y : B) (e : FormFault) (fault more : Option DescFault) → judged x fault ≡ Err e → judged y (option_or fault more) ≡ Err e
ill_along x y e None more is = absurd cc
ill_along x y e (Some f) more is = cc

-- the same of what stands behind nothing that is wrong
ill_behind : {A B : Type 0} (x : A) (y : B) (e : FormFault) (fault : Option DescFault) → judged x fault ≡ Err e → judged y fault ≡ Err e
ill_behind x y e None is = absurd cc
ill_behind x y e (Some f) is = cc

-- something is wrong with the ins
pub ins_ill : (s : Signature) (e : FormFault) → judged s.ins (parameters_fault s.ins) ≡ Err e → judged s (signature_fault s) ≡ Err e
ins_ill s e first = ill_along s.ins s e (parameters_fault s.ins) (parameters_fault s.outs) first

-- or with the outs
pub outs_ill : (s : Signature) (ins : List Named) (e : FormFault) → judged s.ins (parameters_fault s.ins) ≡ Ok ins
    → judged s.outs (parameters_fault s.outs) ≡ Err e → judged s (signature_fault s) ≡ Err e
outs_ill s ins e first second =
    let p = judged_well s.ins ins (parameters_fault s.ins) first in
    rw p.0 (ill_behind s.outs s e (parameters_fault s.outs) second)

-- the names of parameters
pub parameter_names : (ps : List Parameter) → field_names (fields_of (map parameter_view ps)) ≡ map (λ p. p.name) ps
parameter_names [] = refl
parameter_names (p ∷ ps) = ap (λ (names : List (List ℕ)). p.name ∷ names) (parameter_names ps)

-- a parameter that was judged, behind those before it
pub parameter_moved : (list : List Parameter) (p : Parameter) (left rest : List NamedDesc) (m : NamedDesc) (total : List Named)
    → left ≡ m ∷ rest → parameter_view p ≡ named_view m → map parameter_view list ++ map named_view left ≡ total
    → map parameter_view (list ++ p ∷ []) ++ map named_view rest ≡ total
parameter_moved list p left rest m total first is so_far = rw (map-append parameter_view list (p ∷ []), append_assoc, is) (rw first at so_far)

-- all were judged
pub parameters_moved : (list : List Parameter) (left : List NamedDesc) (total : List Named)
    → left ≡ [] → map parameter_view list ++ map named_view left ≡ total → map parameter_view list ≡ total
parameters_moved list left total none so_far = sym (append-nil (map parameter_view list)) ∙ (rw none at so_far)

-- a member and the parameter that is made of it
pub parameter_is : (m : NamedDesc) (desc : CheckedDesc) → desc_view m.desc ≡ checked_shape desc
    → parameter_view (record { name = m.name; desc = desc }) ≡ named_view m
parameter_is m desc is = rw (view-Named m, is) refl

-- nothing is wrong with the description of a member
pub named_well : (m : NamedDesc) → desc_fault 1 (desc_view m.desc) ≡ None → desc_fault 1 (named_view m).shape ≡ None
named_well m well = rw (view-Named m) well

pub named_ill : (m : NamedDesc) (f : DescFault) → desc_fault 1 (desc_view m.desc) ≡ Some f → desc_fault 1 (named_view m).shape ≡ Some f
named_ill m f ill = rw (view-Named m) ill

-- parameters of which no two have the same name stay so
pub stay_distinct : (list : List Parameter) (ms : List NamedDesc) → map parameter_view list ≡ map named_view ms
    → has_doubled same_name (field_names (fields_of (map named_view ms))) ≡ false → has_doubled same_name (map (λ p. p.name) list) ≡ false
stay_distinct list ms is distinct = rw (← parameter_names list, is) distinct

-- ---- tables

-- what contracts see of an entry
abbrev pub seen : {V W : Type 0} → (V → W) → Vec ℕ Global × V → List ℕ × W
seen v e = (e.0.items, v e.1)

-- keys by their octets
abbrev pub key_cmp : Vec ℕ Global → Vec ℕ Global → Ordering
key_cmp a b = slice_cmp nat_cmp a.items b.items

inserted_at : {V W : Type 0} (v : V → W) (o : Ordering) (k : Vec ℕ Global) (x : V) (e : Vec ℕ Global × V) (es more : List (Vec ℕ Global × V))
    (seen_more : List (List ℕ × W))
    → map (seen v) more ≡ seen_more
    → map (seen v) (match_ordering o ((k, x) ∷ e ∷ es) ((e.0, x) ∷ es) (e ∷ more))
    ≡ match_ordering o ((k.items, v x) ∷ map (seen v) (e ∷ es)) ((e.0.items, v x) ∷ map (seen v) es) (seen v e ∷ seen_more)
inserted_at v Less k x e es more seen_more is = refl
inserted_at v Equal k x e es more seen_more is = refl
inserted_at {W} v Greater k x e es more seen_more is = ap (λ (rest : List (List ℕ × W)). seen v e ∷ rest) is

-- a name and what it names
pub entry_same : {T : Type 0} (name other : List ℕ) (x y : T) → name ≡ other → x ≡ y → ◌≡◌ {A = List ℕ × T} (name, x) (other, y)
entry_same name other x y p q = rw (p, q) refl

-- a list without items
pub nothing_left : {A : Type 0} (xs : List A) → length xs ≡ 0 → xs ≡ []
nothing_left [] h = refl
nothing_left (x ∷ xs) h = absurd (omega arith)

-- nothing is left to be named
pub all_named : {X A : Type 0} (v : X → List ℕ × A) (table all : List (List ℕ × A)) (left : List X)
    → left ≡ [] → by_name table (map v left) ≡ all → table ≡ all
all_named v table all left none so_far = rw none at so_far

-- what is seen of a map behind an insertion
pub inserted : {V W : Type 0} (v : V → W) (es : List (Vec ℕ Global × V)) (k : Vec ℕ Global) (x : V)
    → map (seen v) (insert_entry key_cmp es k x) ≡ insert_entry (slice_cmp nat_cmp) (map (seen v) es) k.items (v x)
inserted v [] k x = refl
inserted v (e ∷ es) k x = inserted_at v (key_cmp k e.0) k x e es (insert_entry key_cmp es k x) _ (inserted v es k x)

-- the first of what is left is named
pub one_named : {X V A : Type 0} (v : X → List ℕ × A) (w : V → A) (table new : List (Vec ℕ Global × V)) (key : Vec ℕ Global) (value : V)
    (left rest : List X) (x : X) (all : List (List ℕ × A))
    → left ≡ x ∷ rest → new ≡ insert_entry key_cmp table key value → v x ≡ (key.items, w value)
    → by_name (map (seen w) table) (map v left) ≡ all → by_name (map (seen w) new) (map v rest) ≡ all
one_named v w table new key value left rest x all first is same so_far =
    rw (is, inserted w table key value) (rw (first, same) at so_far)
