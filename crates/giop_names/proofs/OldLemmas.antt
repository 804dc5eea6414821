-- What is old stays as it is.
use Rattle.std.proofs.Common.{◌≡◌, ◌<◌, ◌≤◌, ◌&&◌, ℕ, zero, suc, List, Bool, true, false, not, if◌then◌else◌, bytes_eq, Option, Some, None, is_some, Ok, refl, arith}
use Rattle.std.specs.Prelude.{codes}
use Rattle.serde_json.specs.Data.{Data, null, boolean, number, string, array, object, Items, item, no_items, Members, member, no_members, depth, items_depth, members_depth}
use Rattle.giop_names.specs.Old.{is_named, is_old, has_old_parts, items_old, members_old}
use Rattle.giop_where.specs.Shallow.{shallow}
use Rattle.giop_where.proofs.ShallowLemmas.{shallow_depth}
use Rattle.giop_names.specs.Beside.{is_lawful}
use Rattle.giop_names.specs.Interface.{LEVELS, ROOM, types_of, plain_told}
use Rattle.giop_names.specs.Plain.{Made, spent, spelled, each_item, each_member, plain_at}
use Rattle.giop_names.specs.Scopes.{is_left_out, scope_at, scope_under, name_in, text_in}
use Rattle.giop_names.specs.declared.scope.Scope.{Scope}
use Rattle.giop_names.specs.declared.scope.Scope.TheVariants as is

both : (a b : Bool) → (a && b) ≡ true → (a ≡ true) × (b ≡ true)
both true true h = (refl, refl)
both true false h = absurd cc
both false b h = absurd cc

denied : (a : Bool) → not a ≡ true → a ≡ false
denied true h = absurd cc
denied false h = refl

no_name : (o : Option (List ℕ)) → not (is_some o) ≡ true → o ≡ None
no_name None h = refl
no_name (Some name) h = absurd cc

-- no room is taken outside of names
free : (scope : Scope) (text : List ℕ) (room : ℕ) → is_named scope ≡ false → spent scope text room ≡ Ok room
free is.Interface text room h = refl
free is.Operations text room h = refl
free is.Operation text room h = refl
free is.Elsewhere text room h = refl
free is.Named text room h = absurd cc

outside_at : (scope : Scope) → is_named scope ≡ false → is_named (scope_at scope) ≡ false
outside_at is.Interface h = refl
outside_at is.Operations h = refl
outside_at is.Operation h = refl
outside_at is.Elsewhere h = refl
outside_at is.Named h = absurd cc

outside_if : (b : Bool) → is_named (if b then is.Operations else is.Elsewhere) ≡ false
outside_if true = refl
outside_if false = refl

outside_under : (scope : Scope) (k : List ℕ) → is_named scope ≡ false → is_named (scope_under scope k) ≡ false
outside_under is.Interface k h = outside_if (bytes_eq k (codes "operations"))
outside_under is.Operations k h = refl
outside_under is.Operation k h = refl
outside_under is.Elsewhere k h = refl
outside_under is.Named k h = absurd cc

-- what stays, of so many levels
abbrev Stays : (Scope → Data → ℕ → Made Data) → ℕ → ℕ → Type 0
Stays make levels room =
    (scope : Scope) (d : Data) → is_named scope ≡ false → is_old scope d ≡ true → depth d < levels → make scope d room ≡ Ok (d, room)

-- what makes a part an old one
made_old : (scope : Scope) (d : Data) → not (is_some (name_in scope d)) ≡ true → has_old_parts scope d ≡ true → is_old scope d ≡ true
made_old scope d none parts = rw (none, parts) refl

items_stay : (make : Scope → Data → ℕ → Made Data) (levels room : ℕ) → Stays make levels room
    → (scope : Scope) (ds : Items) → is_named scope ≡ false → items_old scope ds ≡ true → items_depth ds < levels
    → each_item (make scope) ds room ≡ Ok (ds, room)
unfolding has_old_parts
items_stay make levels room stay scope no_items out old deep = refl
items_stay make levels room stay scope (item d ds) out old deep =
    let first = both (not (is_some (name_in scope d))) (has_old_parts scope d && items_old scope ds) old in
    let rest = both (has_old_parts scope d) (items_old scope ds) first.1 in
    let here : depth d < levels = omega arith in
    let later : items_depth ds < levels = omega arith in
    rw (stay scope d out (made_old scope d first.0 rest.0) here, items_stay make levels room stay scope ds out rest.1 later) refl

members_stay : (make : Scope → Data → ℕ → Made Data) (levels room : ℕ) → Stays make levels room
    → (scope : Scope) (ms : Members) → is_named scope ≡ false → members_old scope ms ≡ true → members_depth ms < levels
    → each_member make scope ms room ≡ Ok (ms, room)
unfolding has_old_parts
members_stay make levels room stay scope no_members out old deep = refl
members_stay make levels room stay scope (member k d ms) out old deep =
    let under = scope_under scope k in
    let first = both (not (is_left_out scope k)) (not (is_some (name_in under d)) && (has_old_parts under d && members_old scope ms)) old in
    let next = both (not (is_some (name_in under d))) (has_old_parts under d && members_old scope ms) first.1 in
    let rest = both (has_old_parts under d) (members_old scope ms) next.1 in
    let here : depth d < levels = omega arith in
    let later : members_depth ms < levels = omega arith in
    rw (
      denied (is_left_out scope k) first.0,
      free scope k room out,
      stay under d (outside_under scope k out) (made_old under d next.0 rest.0) here,
      members_stay make levels room stay scope ms out rest.1 later,
    ) refl

parts_stay : (make : Scope → Data → ℕ → Made Data) (levels room : ℕ) → Stays make levels room
    → (scope : Scope) (d : Data) → is_named scope ≡ false → has_old_parts scope d ≡ true → depth d ≤ levels
    → spelled make scope d room ≡ Ok (d, room)
unfolding has_old_parts
parts_stay make levels room stay scope null out old deep = refl
parts_stay make levels room stay scope (boolean b) out old deep = refl
parts_stay make levels room stay scope (number n) out old deep = refl
parts_stay make levels room stay scope (string s) out old deep = refl
parts_stay make levels room stay scope (array ds) out old deep =
    rw (items_stay make levels room stay (scope_at scope) ds (outside_at scope out) old (omega arith)) refl
parts_stay make levels room stay scope (object ms) out old deep =
    rw (members_stay make levels room stay scope ms out old (omega arith)) refl

-- an old part is its own plain form, and takes no room
pub stays : (levels : ℕ) (types : Data) (room : ℕ) → Stays (plain_at levels types) levels room
unfolding plain_at
stays zero types room scope d out old deep = absurd (omega arith)
stays (suc levels) types room scope d out old deep =
    let parts = both (not (is_some (name_in scope d))) (has_old_parts scope d) old in
    rw (free scope (text_in d) room out, no_name (name_in scope d) parts.0)
    (parts_stay (plain_at levels types) levels room (stays levels types room) scope d out parts.1 (omega arith))

-- the file of an old interface is its own plain form
pub old_file : (file : Data) → is_lawful file ≡ true → is_old is.Interface file ≡ true → shallow 127 file ≡ true
    → plain_told (Some file) ≡ Ok file
old_file file lawful old flat =
    let deep : depth file ≤ 127 = shallow_depth 127 file flat in
    rw (lawful, stays LEVELS (types_of file) ROOM is.Interface file refl old (omega arith), flat) refl
